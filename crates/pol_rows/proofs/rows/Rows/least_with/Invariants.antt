use Rattle.std.proofs.Common.{take}
use Rattle.pol_rows.specs.Runs.{HasAt, AnswersLeastNumber}
use Rattle.pol_rows.proofs.rows.Rows.least_with.Given as goal

abbrev pub invariant-loop-number : goal.invariant-loop-number
invariant-loop-number l = AnswersLeastNumber (HasAt l.self.rows (take l.number-index l.numbers) l.i l.value) l.least
