use Rattle.std.proofs.Common.{◌≡◌, ◌≤◌, take}
use Rattle.std.specs.Prelude.{◌==◌}
use Rattle.std.specs.List.{count_by}
use Rattle.pol_base.specs.Tuples.{digits_of}
use Rattle.pol_identity.proofs.near_unanimity.count_of.Given as goal

abbrev pub invariant-loop-place : goal.invariant-loop-place
invariant-loop-place l = record {
  counted : l.count ≡ count_by (λ y. y == l.fn.value) (take l.place (digits_of l.fn.d l.fn.k l.fn.cell));
  within : l.count ≤ l.place;
}
