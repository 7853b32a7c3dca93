use Rattle.std.proofs.Common.{arith}
use Rattle.pol_text.proofs.LineLemmas.{length-tokens_of-le}
use Rattle.pol_text.proofs.lines.Line.tokens.Goals as goal

-- the text of the line is not longer than a `usize` tells
pub returns-clause-few : goal.returns-clause-few
returns-clause-few c = rw c.new.ensures.tokens (omega (arith, length-tokens_of-le c.self.inside.text.now, c.self.told.0))
