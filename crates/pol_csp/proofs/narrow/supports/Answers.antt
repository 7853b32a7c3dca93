use Rattle.std.proofs.Common.{arith}
use Rattle.pol_csp.proofs.Revising.{at_each_row}
use Rattle.pol_csp.proofs.narrow.supports.Goals as goal

pub returns : goal.returns
returns c = record {
  supports = at_each_row c.args.r.now.rows c.args.masks.now c.args.scope.now c.loop-i.found c.loop-i.i
      (omega (arith, c.len-i-end.ensures)) c.loop-i.invariant;
}
