use Rattle.std.proofs.Common.{ℕ, ◌<◌}
use Rattle.pol_maltsev.specs.Scopes.{ReadsOnlyAt}
use Rattle.pol_maltsev.proofs.table.Table.reads_only.Given as goal

-- those of the places before do
abbrev pub invariant-loop-p : goal.invariant-loop-p
invariant-loop-p l = (q : ℕ) → q < l.p → ReadsOnlyAt l.self q l.scope l.r.rows
