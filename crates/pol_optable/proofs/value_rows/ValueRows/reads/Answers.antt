use Rattle.std.proofs.Common.{refl, inl, inr}
use Rattle.pol_optable.proofs.ValueWordLemmas.{read_split, read_here, read_from, not_read_from}
use Rattle.pol_optable.proofs.value_rows.ValueRows.reads.Goals as goal

pub returns-then-words-i-ne0 : goal.returns-then-words-i-ne0
returns-then-words-i-ne0 c =
    let r = c.args.self.now in
    let words = c.args.words.now in
    let i = c.loop-i.i in
    let word = c.type_inv.words i in
    record {
      reads = (
        λ _. read_here r c.args.place words i c.args.value
            (read_from r c.args.place i _ c.word.result c.args.value word.fits c.if-words-i-ne0.true c.word.ensures.rows),
        λ _. refl,
      );
    }

pub loop-i-preserved : goal.loop-i-preserved
loop-i-preserved c read =
    elim (read_split c.args.self.now c.args.place c.args.words.now c.loop-i.i c.args.value c.loop-i-test.true read) [
      | inl before ↦ c.loop-i.invariant before
      | inr here ↦ not_read_from c.args.self.now c.args.place c.loop-i.i _ c.word.result c.args.value
          c.if-words-i-ne0.false c.word.ensures.rows here
    ]
