use Rattle.std.proofs.Common.{◌<◌, length, refl, arith}
use Rattle.pol_relation.specs.Relations.{IsRelation}
use Rattle.pol_optable.proofs.ValueWordLemmas.{put_more, all_values, by_both}
use Rattle.pol_optable.proofs.value_rows.ValueRows.put_all.Goals as goal

pub loop-i-preserved : goal.loop-i-preserved
loop-i-preserved c =
    let r = c.args.self.now in
    let is : IsRelation r = rw (← c.self.view_is) c.arity-arity.ensures.relation in
    put_more (λ row. row < length r.rows) c.loop-i.to c.loop-i.i _ (omega arith) c.loop-i.invariant
    (λ row same. by_both (c.word_within.ensures.rows row same) (all_values r 0 31 row is is.some_places refl))
