-- Tables with one row and one class for each value at each place, for an order of the places.
use Rattle.std.specs.Prelude.{◌≡◌, ◌<◌, ◌≤◌, ◌==◌, ◌⊎◌, cond, ℕ, List, [], ◌∷◌}
use Rattle.std.specs.Prelude.{slice_index, All, Contains}
use Rattle.pol_optable.specs.Operations.{Operation, image}
use Rattle.pol_maltsev.specs.Orders.{InFront, IsOrder}

-- the places of S, and x
abbrev pub Also : (ℕ → Type 0) → ℕ → ℕ → Type 0
Also S x j = S j ⊎ (j ≡ x)

-- two tuples agree at the places of S
abbrev pub Agree : (ℕ → Type 0) → List ℕ → List ℕ → Type 0
Agree S t u = (j : ℕ) → S j → slice_index t j ≡ slice_index u j

-- two values are in one class: a root is below d exactly where a member has the value
pub record SameRoot (d : ℕ) (root : ℕ → ℕ) (a b : ℕ) : Type 0 where
  pub roots : root a ≡ root b
  pub present : root a < d

-- what the rows and roots of place p say of the set T, where the places of S stand before p
pub record IsKnown (d : ℕ) (T : List ℕ → Type 0) (S : ℕ → Type 0) (p : ℕ) (row : ℕ → List ℕ)
    (root : ℕ → ℕ)
    : Type 0 where
  pub inside : (a : ℕ) → a < d → root a < d → T (row a)
  pub there : (a : ℕ) → a < d → root a < d → slice_index (row a) p ≡ a
  pub present : (t : List ℕ) → T t → root (slice_index t p) < d
  pub together : (a b : ℕ) → a < d → b < d → SameRoot d root a b → Agree S (row a) (row b)
  pub joined : (t u : List ℕ) → T t → T u → Agree S t u → root (slice_index t p) ≡ root (slice_index u p)
  pub least : (a : ℕ) → a < d → root a < d → root a ≤ a
  pub fixed : (a : ℕ) → a < d → root a < d → root (root a) ≡ root a

-- the whole table
pub record IsTable (n d : ℕ) (T : List ℕ → Type 0) (ord : List ℕ) (row : ℕ → ℕ → List ℕ)
    (root : ℕ → ℕ → ℕ)
    : Type 0 where
  pub order : IsOrder n ord
  pub known : (k : ℕ) → k < n
      → IsKnown d T (InFront ord k) (slice_index ord k) (row (slice_index ord k)) (root (slice_index ord k))

-- t moved to the value v at place p
abbrev pub step : Operation → ℕ → ℕ → (ℕ → List ℕ) → List ℕ → ℕ → List ℕ
step f n p row t v = cond (slice_index t p == v) t (image f n (t ∷ row (slice_index t p) ∷ row v ∷ []))

-- u is a member that agrees with t at the places of S and has v at p
pub record IsMoved (T : List ℕ → Type 0) (S : ℕ → Type 0) (p v : ℕ) (t u : List ℕ) : Type 0 where
  pub inside : T u
  pub same : Agree S u t
  pub there : slice_index u p ≡ v

-- two members that agree at the places of S have a and b at p
pub record AreJoined (T : List ℕ → Type 0) (S : ℕ → Type 0) (p a b : ℕ) : Type 0 where
  pub one : List ℕ
  pub other : List ℕ
  pub one_in : T one
  pub other_in : T other
  pub same : Agree S one other
  pub one_at : slice_index one p ≡ a
  pub other_at : slice_index other p ≡ b

-- the least value below d of a set
pub record IsLeastOf (d : ℕ) (P : ℕ → Type 0) (b : ℕ) : Type 0 where
  pub below : b < d
  pub holds : P b
  pub first : (c : ℕ) → c < d → P c → b ≤ c

-- the rows list each row of the table, and only members
pub record ListsTable (n d : ℕ) (T : List ℕ → Type 0) (row : ℕ → ℕ → List ℕ)
    (root : ℕ → ℕ → ℕ) (rows : List (List ℕ))
    : Type 0 where
  pub inside : All T rows
  pub listed : (p a : ℕ) → p < n → a < d → root p a < d → Contains rows (row p a)
