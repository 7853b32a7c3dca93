-- What a reader of the rules may rely on.
use Rattle.std.specs.Prelude.{◌≡◌, ◌+◌, ◌==◌, ◌≤◌, ◌↔◌, ℕ, List, length, Some}
use Rattle.std.specs.List.{count_by}
use Rattle.pol_optable.specs.Operations.{Operation}
use Rattle.pol_optable.specs.Identities.{IsConstant, IsSemilattice, IsNearUnanimity, IsMaltsev}
use Rattle.pol_optable.specs.Identities.{IsLabelling, IsAffineBy, IsAffine}
use Rattle.pol_optable.specs.Tables.{IsOpTable}
use Rattle.pol_identity.specs.Rules.{ObeysAll}
use Rattle.pol_identity.specs.ConstantRule.{constant_rule}
use Rattle.pol_identity.specs.NearUnanimityRule.{forced_value, near_unanimity_rule}
use Rattle.pol_identity.specs.MaltsevRule.{maltsev_rule}
use Rattle.pol_identity.specs.Association.{IsAssociative}
use Rattle.pol_identity.specs.SemilatticeRule.{semilattice_rule}
use Rattle.pol_identity.specs.Labels.{IsAffineLabelling}
use Rattle.pol_identity.specs.AffineRule.{affine_rule}

-- an operation is constant exactly where it obeys every rule
abbrev pub ConstantByRules : Type 0
ConstantByRules =
    (f : Operation)
    → IsOpTable 1 f
    → IsConstant f ↔ ObeysAll f.cells constant_rule

-- an operation of three arguments or more is of near unanimity exactly where it obeys every rule
abbrev pub NearUnanimityByRules : Type 0
NearUnanimityByRules =
    (K : ℕ) (f : Operation)
    → 3 ≤ K
    → IsOpTable K f
    → IsNearUnanimity f ↔ ObeysAll f.cells (near_unanimity_rule f.domain K)

-- an operation is a Mal'tsev operation exactly where it obeys every rule
abbrev pub MaltsevByRules : Type 0
MaltsevByRules =
    (f : Operation)
    → IsOpTable 3 f
    → IsMaltsev f ↔ ObeysAll f.cells (maltsev_rule f.domain)

-- an operation is a semilattice operation exactly where it obeys every rule and is associative
abbrev pub SemilatticeByRules : Type 0
SemilatticeByRules =
    (f : Operation)
    → IsOpTable 2 f
    → IsSemilattice f ↔ (ObeysAll f.cells (semilattice_rule f.domain) × IsAssociative f)

-- an operation is affine with given labels exactly where it obeys every rule
abbrev pub AffineByRules : Type 0
AffineByRules =
    (labels : List ℕ) (f : Operation)
    → IsOpTable 3 f
    → IsLabelling f.domain labels
    → IsAffineBy labels f ↔ ObeysAll f.cells (affine_rule labels f.domain)

-- an operation is affine exactly where some labelling turns it into x - y + z
abbrev pub AffineByLabels : Type 0
AffineByLabels =
    (f : Operation)
    → IsOpTable 3 f
    → IsAffine f ↔ ((labels : List ℕ) × IsAffineLabelling f labels)

-- of the operations on one domain a labelling turns one table into x - y + z
abbrev pub LabelsTellTheTable : Type 0
LabelsTellTheTable =
    (f g : Operation) (labels : List ℕ)
    → IsOpTable 3 f
    → IsOpTable 3 g
    → f.domain ≡ g.domain
    → IsAffineLabelling f labels
    → IsAffineLabelling g labels
    → f.cells ≡ g.cells

-- an affine operation is a Mal'tsev operation
abbrev pub AffineIsMaltsev : Type 0
AffineIsMaltsev =
    (f : Operation)
    → IsOpTable 3 f
    → IsAffine f
    → IsMaltsev f

-- three arguments or more force the one value that all of them but at most one are
abbrev pub ForcedIsMost : Type 0
ForcedIsMost =
    (arguments : List ℕ) (x : ℕ)
    → 3 ≤ length arguments
    → (forced_value arguments ≡ Some x) ↔ (length arguments ≤ count_by (λ y. y == x) arguments + 1)
