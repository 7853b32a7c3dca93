use Rattle.std.proofs.Common.{arith}
use Rattle.pol_text.proofs.LineLemmas.{length-lines_of-le}
use Rattle.pol_report.proofs.text.Text.ended.Goals as goal

-- there are no more lines than bytes
pub overflow_add-self-inside : goal.overflow_add-self-inside
overflow_add-self-inside c = omega (arith, c.self.invariant, length-lines_of-le c.self.inside.bytes.now)
