use Rattle.std.proofs.Common.{◌≡◌, ◌∷◌, ◌++◌, [], ap, ◌∙◌}
use Rattle.pol_report.specs.Tokens.{as_value}
use Rattle.pol_report.proofs.CountLemmas.{to_end-first}
use Rattle.pol_report.proofs.taking.values_from.Goals as goal

pub returns : goal.returns
returns c =
    let v = c.in_ok-value_in.field-0 in
    let begun = c.push.new.self in
    let one : begun ≡ v ∷ [] = c.in_ok-push.ensures.ok ∙ ap (λ xs. xs ++ v ∷ []) c.new-values.ensures.empty in
    record { values = rw (to_end-first as_value c.args.most begun c.args.first.now c.args.tokens v c.requires.some c.in_ok-value_in.ensures.value one) c.more_values.ensures.values }
