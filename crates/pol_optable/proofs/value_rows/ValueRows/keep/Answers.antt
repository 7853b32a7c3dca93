use Rattle.std.proofs.Common.{ℕ, arith}
use Rattle.pol_optable.specs.ValueWords.{HasNumber, HasValue}
use Rattle.pol_optable.proofs.ValueWordLemmas.{put_more, word_and}
use Rattle.pol_optable.proofs.value_rows.ValueRows.keep.Goals as goal

pub loop-i-preserved : goal.loop-i-preserved
loop-i-preserved c =
    let from = c.args.from.now in
    let i = c.loop-i.i in
    let Has : ℕ → Type 0 = HasValue c.args.self.now c.args.place c.args.value in
    put_more (λ row. HasNumber from row × Has row) c.loop-i.to i _ (omega arith) c.loop-i.invariant
    (λ row same. word_and Has from i c.word.result row same (c.word.ensures.rows row same))
