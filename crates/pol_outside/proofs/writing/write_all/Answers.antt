use Rattle.pol_outside.proofs.Pieces.{writes_on}
use Rattle.pol_outside.proofs.writing.write_all.Goals as goal
use Rattle.std.proofs.Common.{◌∙◌}

pub loop-rest-preserved : goal.loop-rest-preserved
loop-rest-preserved g c = record {
  split = writes_on _ _ _ _ _ _ _ c.loop-rest.invariant.split.1 c.loop-rest.invariant.split.2 c.in-Ok.ensures.bytes;
  calm = c.in-Ok.ensures.cause.succeeded ∙ c.loop-rest.invariant.calm;
}
