use Rattle.std.proofs.Common.{◌≡◌, ◌-◌, ◌^◌, min, length, ap, sym, ◌∙◌, arith}
use Rattle.pol_relation.specs.Relations.{last_of}
use Rattle.pol_relation.specs.Weights.{weight_of}
use Rattle.pol_relation.proofs.SumLemmas.{weight_of-with_last_row}
use Rattle.pol_lang.proofs.file.File.triples_with_row.Goals as goal

-- the sum is within its limit, far below the greatest number
sum_is : (c : goal.After-weight) → c.weight.result ≡ weight_of 3 c.args.self.now.language.relations
sum_is c =
    let light = c.lang.ensures.file.language_is.few_triples in
    let sum : c.weight.result ≡ min (weight_of 3 c.args.self.now.language.relations) (2 ^ 64 - 1) = c.weight.ensures.sum ∙ ap (λ lang. min (weight_of 3 lang.relations) (2 ^ 64 - 1)) c.lang.ensures.language in
    omega (arith, light, sum)

pub returns : goal.returns
returns c =
    let lang = c.args.self.now.language in
    let rows : c.from-rows.result ≡ length (last_of lang).rows = c.from-rows.ensures ∙ (c.len.ensures.rows ∙ ap (λ r. length r.rows) c.last_relation.ensures.relation) in
    record { triples = λ t tuple new. rw (sum_is c, rows) (sym (weight_of-with_last_row lang t c.lang.ensures.file.language_is.is_language c.requires.some tuple new)) }
