use Rattle.std.proofs.Common.{ℕ, ◌<◌, Contains}
use Rattle.pol_rows.specs.Signatures.{InSignature}
use Rattle.pol_maltsev.proofs.listing.leader.Given as goal

-- none of the values before
abbrev pub invariant-loop-b : goal.invariant-loop-b
invariant-loop-b l = (c : ℕ) → c < l.b → ¬ InSignature (Contains l.rows.rows) l.i c l.a
