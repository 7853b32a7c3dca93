use Rattle.std.proofs.Common.{◌≡◌, ℕ, ◌<◌, List}
use Rattle.pol_base.specs.Masks.{single_masks}
use Rattle.pol_optable.specs.Operations.{operation_of}
use Rattle.pol_identity.specs.Association.{Associates}
use Rattle.pol_identity.proofs.association.some_clash.Given as goal

abbrev pub invariant-loop-x : goal.invariant-loop-x
invariant-loop-x l =
    (x y z : ℕ)
    → x < l.x
    → y < l.size
    → z < l.size
    → (cells : List ℕ)
    → l.masks ≡ single_masks cells
    → Associates (operation_of l.d 2 cells) x y z

abbrev pub invariant-loop-y : goal.invariant-loop-y
invariant-loop-y l =
    (y z : ℕ)
    → y < l.y
    → z < l.size
    → (cells : List ℕ)
    → l.masks ≡ single_masks cells
    → Associates (operation_of l.d 2 cells) l.x y z

abbrev pub invariant-loop-z : goal.invariant-loop-z
invariant-loop-z l =
    (z : ℕ)
    → z < l.z
    → (cells : List ℕ)
    → l.masks ≡ single_masks cells
    → Associates (operation_of l.d 2 cells) l.x l.y z
