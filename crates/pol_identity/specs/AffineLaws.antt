-- Affine operations obey their rules.
use Rattle.std.proofs.Common.{ℕ, ◌+◌, ◌-◌, ◌^◌, ◌<◌, ◌≤◌, List, sym, All, slice_index, lit<}
use Rattle.std.proofs.Math.Nat.{mod-lt}
use Rattle.pol_base.specs.Tuples.{cell_of, digits_of}
use Rattle.pol_base.proofs.CellLemmas.{digits_of-below, cell_of-below}
use Rattle.pol_optable.specs.Operations.{Operation}
use Rattle.pol_optable.specs.Identities.{IsLabelling, IsAffineBy, affine_sum}
use Rattle.pol_optable.specs.Tables.{IsOpTable}
use Rattle.pol_identity.specs.Rules.{Obeys, ObeysAll, IsRule}
use Rattle.pol_identity.specs.AffineRule.{affine_rule, sum_at}
use Rattle.pol_identity.specs.LabelLaws.{has_label, labelled_is}
use Rattle.pol_identity.specs.CellLaws.{cells_long, obeys_by_digits}

pub sum_below : (d x y z : ℕ) → 1 ≤ d → affine_sum d x y z < d
sum_below d x y z some = mod-lt (x + (d - y) + z) some

-- a rule names a value of the domain
pub affine_ruled :
    (labels : List ℕ) (d cell : ℕ)
    → 1 ≤ d
    → IsLabelling d labels
    → IsRule d cell (affine_rule labels d cell)
affine_ruled labels d cell some labelling =
    (has_label d labels (sum_at labels d (digits_of d 3 cell)) labelling (sum_below d _ _ _ some)).below

-- an affine operation obeys every rule
pub affine_obeys :
    (labels : List ℕ) (f : Operation)
    → IsOpTable 3 f
    → IsLabelling f.domain labels
    → IsAffineBy labels f
    → ObeysAll f.cells (affine_rule labels f.domain)
affine_obeys labels f is labelling affine = obeys_by_digits 3 f (affine_rule labels f.domain) is obeys
  where
    obeys : (cell : ℕ) → cell < f.domain ^ 3
        → Obeys f.cells (cell_of f.domain (digits_of f.domain 3 cell)) (affine_rule labels f.domain cell)
    obeys cell within =
        let digits = digits_of f.domain 3 cell in
        let below : All (λ v. v < f.domain) digits = digits_of-below f.domain 3 cell is.domain_is.some within in
        let known = cell_of-below f.domain digits below in
        let value_below = is.is_operation.below (cell_of f.domain digits) 0 (rw (cells_long 3 f is) known) in
        sym (labelled_is f.domain labels (sum_at labels f.domain digits) (slice_index f.cells (cell_of f.domain digits))
        labelling value_below
        (affine.sums (slice_index digits 0) (slice_index digits 1) (slice_index digits 2)
        (below 0 0 (lit< tt)) (below 1 0 (lit< tt)) (below 2 0 (lit< tt))))
