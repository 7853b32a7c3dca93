use Rattle.pol_optable.proofs.ValueWordLemmas.{read_more}
use Rattle.pol_optable.proofs.value_rows.ValueRows.values_at.Goals as goal

pub loop-i-preserved : goal.loop-i-preserved
loop-i-preserved c v =
    read_more c.args.self.now c.args.place c.args.words.now c.loop-i.i c.loop-i.found c.values_in-found.result v
    c.loop-i-test.true (c.loop-i.invariant v) (c.values_in-found.ensures.values v)
