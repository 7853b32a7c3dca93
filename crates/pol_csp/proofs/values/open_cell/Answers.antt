use Rattle.std.proofs.Common.{arith, ◌≡◌, length}
use Rattle.pol_csp.proofs.Searching.{all_single}
use Rattle.pol_csp.proofs.values.open_cell.Goals as goal

pub returns-clause-settled : goal.returns-clause-settled
returns-clause-settled c =
    let all : c.loop-cell.cell ≡ length c.args.masks.now = omega arith in
    rw (← all) (all_single c.args.masks.now c.loop-cell.cell all c.loop-cell.invariant)
