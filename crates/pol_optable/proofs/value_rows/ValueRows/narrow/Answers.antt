use Rattle.std.proofs.Common.{ℕ, arith}
use Rattle.pol_optable.specs.ValueWords.{HasNumber, HasValueOf}
use Rattle.pol_optable.proofs.ValueWordLemmas.{put_more, word_and}
use Rattle.pol_optable.proofs.value_rows.ValueRows.narrow.Goals as goal

pub loop-i-preserved : goal.loop-i-preserved
loop-i-preserved c =
    let from = c.args.from.now in
    let i = c.loop-i.i in
    let Has : ℕ → Type 0 = HasValueOf c.args.self.now c.args.place c.args.mask in
    put_more (λ row. HasNumber from row × Has row) c.loop-i.to i _ (omega arith) c.loop-i.invariant
    (λ row same. word_and Has from i c.word_within.result row same (c.word_within.ensures.rows row same))
