use Rattle.std.proofs.Common.{◌≡◌, ◌<◌, ◌≤◌, false, length, ap, sym, ◌∙◌}
use Rattle.pol_relation.specs.Relations.{last_of, with_last_row}
use Rattle.pol_relation.specs.Weights.{weight_of, most_weight}
use Rattle.pol_lang.specs.Limits.{most_tuples}
use Rattle.pol_lang.specs.Grammar.{in_language}
use Rattle.pol_base.specs.Lists.{is_among}
use Rattle.pol_base.proofs.LookupLemmas.{absent_name}
use Rattle.pol_lang.proofs.LimitLemmas.{with_tuple-heavy, with_tuple-new}
use Rattle.pol_lang.proofs.language_lines.add_tuple.Goals as goal

pub returns-then-triples_with_row-gt-MOST_WEIGHT : goal.returns-then-triples_with_row-gt-MOST_WEIGHT
returns-then-triples_with_row-gt-MOST_WEIGHT c =
    let lang = c.args.file.now.language in
    let t = c.args.tuple.now in
    let last = c.last_relation-last.ensures.relation in
    let new : is_among (last_of lang).rows t ≡ false = sym (c.if-is_row.ensures.row ∙ ap (λ r. is_among r.rows t) last) in
    let few : length (last_of lang).rows < most_tuples = rw (c.len.ensures.rows, last) at c.if-len-ge-MOST_TUPLES.false in
    let sum = c.triples_with_row.ensures.triples t c.requires.tuple (absent_name (last_of lang).rows t new) in
    let heavy : most_weight < weight_of 3 (with_last_row lang t).relations = rw sum at c.if-triples_with_row-gt-MOST_WEIGHT.true in
    record { changes = ap (in_language c.args.file.now) (with_tuple-heavy lang t new few heavy) }

pub insert-requires-clause-new_tuple : goal.insert-requires-clause-new_tuple
insert-requires-clause-new_tuple c =
    let rows = (last_of c.args.file.now.language).rows in
    let new : is_among rows c.args.tuple.now ≡ false = sym (c.if-is_row.ensures.row ∙ ap (λ r. is_among r.rows c.args.tuple.now) c.last_relation-last.ensures.relation) in
    absent_name rows c.args.tuple.now new

pub insert-requires-clause-few_triples : goal.insert-requires-clause-few_triples
insert-requires-clause-few_triples c =
    let sum = c.triples_with_row.ensures.triples c.args.tuple.now c.requires.tuple (insert-requires-clause-new_tuple c) in
    rw (← sum) c.if-triples_with_row-gt-MOST_WEIGHT.false

pub returns : goal.returns
returns c =
    let lang = c.args.file.now.language in
    let t = c.args.tuple.now in
    let last = c.last_relation-last.ensures.relation in
    let new : is_among (last_of lang).rows t ≡ false = sym (c.if-is_row.ensures.row ∙ ap (λ r. is_among r.rows t) last) in
    let few : length (last_of lang).rows < most_tuples = rw (c.len.ensures.rows, last) at c.if-len-ge-MOST_TUPLES.false in
    let sum = c.triples_with_row.ensures.triples t c.requires.tuple (absent_name (last_of lang).rows t new) in
    let light : weight_of 3 (with_last_row lang t).relations ≤ most_weight = rw (← sum) c.if-triples_with_row-gt-MOST_WEIGHT.false in
    rw c.in_ok-insert.ensures.ok (record { changes = ap (in_language c.args.file.now) (with_tuple-new lang t new few light) })
