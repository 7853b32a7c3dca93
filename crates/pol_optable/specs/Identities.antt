-- The identities of the classes of operations.
use Rattle.std.specs.Prelude.{◌≡◌, ◌≢◌, ℕ, ◌+◌, ◌-◌, ◌%◌, ◌<◌, ◌≤◌}
use Rattle.std.specs.Prelude.{◌==◌, ◌⊎◌, List, [], ◌∷◌, slice_index, count_by, AllPairs}
use Rattle.pol_base.specs.Tuples.{IsTuple}
use Rattle.pol_optable.specs.Operations.{Operation, value_at}

-- f(x) = f(y)
pub record IsConstant (f : Operation) : Type 0 where
  pub same : (x y : ℕ) → x < f.domain → y < f.domain → value_at f (x ∷ []) ≡ value_at f (y ∷ [])

-- f(x, x) = x, f(x, y) = f(y, x), f(x, f(y, z)) = f(f(x, y), z)
pub record IsSemilattice (f : Operation) : Type 0 where
  pub idempotent : (x : ℕ) → x < f.domain → value_at f (x ∷ x ∷ []) ≡ x
  pub commutative : (x y : ℕ) → x < f.domain → y < f.domain
      → value_at f (x ∷ y ∷ []) ≡ value_at f (y ∷ x ∷ [])
  pub associative : (x y z : ℕ) → x < f.domain → y < f.domain → z < f.domain
      → value_at f (x ∷ value_at f (y ∷ z ∷ []) ∷ [])
      ≡ value_at f (value_at f (x ∷ y ∷ []) ∷ z ∷ [])

-- f = x wherever all arguments but at most one are x
pub record IsNearUnanimity (f : Operation) : Type 0 where
  pub most : (arguments : List ℕ) (x : ℕ) → IsTuple f.domain f.arity arguments → x < f.domain
      → f.arity ≤ count_by (λ y. y == x) arguments + 1
      → value_at f arguments ≡ x

-- f(x, y, y) = x and f(y, y, x) = x
pub record IsMaltsev (f : Operation) : Type 0 where
  pub right : (x y : ℕ) → x < f.domain → y < f.domain → value_at f (x ∷ y ∷ y ∷ []) ≡ x
  pub left : (x y : ℕ) → x < f.domain → y < f.domain → value_at f (y ∷ y ∷ x ∷ []) ≡ x

-- the label of each value: the numbers below d in some order
pub record IsLabelling (d : ℕ) (labels : List ℕ) : Type 0 where
  pub tuple : IsTuple d d labels
  pub distinct : AllPairs (λ a b. a ≢ b) labels

-- the sizes of domain for which affine operations are sought
abbrev pub IsAffineSize : ℕ → Type 0
IsAffineSize d = (d ≡ 2) ⊎ ((d ≡ 3) ⊎ (d ≡ 5))

-- x - y + z modulo d
abbrev pub affine_sum : (d x y z : ℕ) → ℕ
affine_sum d x y z = (x + (d - y) + z) % d

-- the labels turn the operation into x - y + z modulo d
pub record IsAffineBy (labels : List ℕ) (f : Operation) : Type 0 where
  pub sums : (x y z : ℕ) → x < f.domain → y < f.domain → z < f.domain
      → slice_index labels (value_at f (x ∷ y ∷ z ∷ []))
      ≡ affine_sum f.domain (slice_index labels x) (slice_index labels y) (slice_index labels z)

-- some labelling of a domain of 2, 3 or 5 values turns the operation into x - y + z modulo its size
pub record IsAffine (f : Operation) : Type 0 where
  pub labels : List ℕ
  pub size : IsAffineSize f.domain
  pub is_labelling : IsLabelling f.domain labels
  pub by_labels : IsAffineBy labels f
