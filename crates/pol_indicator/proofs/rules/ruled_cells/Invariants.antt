use Rattle.std.proofs.Common.{◌≡◌, ◌^◌, length, []}
use Rattle.pol_indicator.specs.Ruled.{AreRuled}
use Rattle.pol_indicator.proofs.rules.ruled_cells.Given as goal

-- the rules of the cells so far are put
abbrev pub invariant-loop-cell : goal.invariant-loop-cell
invariant-loop-cell g l = record {
  domain : l.problem.domain ≡ l.fn.d;
  cells : length l.problem.masks ≡ l.fn.d ^ g.row.K;
  ruled : AreRuled l.fn.d (g.I.Identity.rule_of l.fn.identity l.fn.d) l.cell l.problem.masks l.problem.ties;
  none : l.problem.constraints ≡ [];
}
