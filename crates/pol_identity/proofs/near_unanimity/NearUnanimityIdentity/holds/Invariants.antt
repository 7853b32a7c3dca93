use Rattle.std.proofs.Common.{ℕ, ◌<◌}
use Rattle.pol_identity.specs.Rules.{Obeys}
use Rattle.pol_identity.specs.NearUnanimityRule.{near_unanimity_rule}
use Rattle.pol_identity.proofs.near_unanimity.NearUnanimityIdentity.holds.Given as goal

abbrev pub invariant-loop-cell : goal.invariant-loop-cell
invariant-loop-cell g l =
    (cell : ℕ)
    → cell < l.cell
    → Obeys l.t.cells cell (near_unanimity_rule l.t.domain g.row.K cell)
