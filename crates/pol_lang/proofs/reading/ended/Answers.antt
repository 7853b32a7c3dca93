use Rattle.std.proofs.Common.{arith}
use Rattle.pol_text.proofs.LineLemmas.{length-lines_of-le}
use Rattle.pol_lang.proofs.reading.ended.Goals as goal

-- there are no more lines than bytes
pub overflow_add-count_lines : goal.overflow_add-count_lines
overflow_add-count_lines c = omega (arith, length-lines_of-le c.args.bytes.now)
