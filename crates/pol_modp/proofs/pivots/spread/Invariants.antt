use Rattle.std.proofs.Common.{◌≡◌, ◌<◌, ◌%◌, ℕ, List, length, map, take, All, get_or}
use Rattle.pol_modp.specs.Equations.{dot}
use Rattle.pol_modp.specs.Rows.{PivotView}
use Rattle.pol_modp.proofs.pivots.spread.Given as goal

abbrev pub invariant-loop-j : goal.invariant-loop-j
invariant-loop-j l = record {
  below : All (λ v. v < l.p) l.out;
  long : length l.out ≡ length l.fn.out;
  spread : (values : List ℕ) → dot values l.out % l.p ≡ dot l.multipliers (map (λ (b : PivotView). get_or values b.source 0) (take l.j l.basis)) % l.p;
}
