-- The kept members that are found for the values of a late place, where a set shrinks.
use Rattle.std.specs.Prelude.{◌≡◌, ◌<◌, ◌≤◌, ℕ, List, [], ◌∷◌, length, slice_index}
use Rattle.std.specs.Prelude.{slice_index_or, slice_set, All}
use Rattle.pol_optable.specs.Operations.{Operation, value_at}
use Rattle.pol_maltsev.specs.Representations.{IsPreserved}
use Rattle.pol_maltsev.specs.Orders.{InFront}
use Rattle.pol_maltsev.specs.Tables.{SameRoot, step}
use Rattle.pol_maltsev.specs.Restrictions.{IsRestricted, IsMadeEarly, IsMadeLate, AreValues, first_row}
use Rattle.pol_maltsev.specs.Views.{ClassesView, TableView, InTable, IsSoundTable, AreClasses, no_classes, row_of}
use Rattle.pol_maltsev.specs.Views.{root_of, root_in, row_in}

-- listed rows, and at how many of the first places a kept member agrees with one of them
pub record Restriction : Type 0 where
  pub rows : List (List ℕ)
  pub first : ℕ

-- a member of the table that the restriction keeps
abbrev pub IsKept : Operation → TableView → Restriction → List ℕ → Type 0
IsKept f v r = IsRestricted (InTable f v) r.rows v.order r.first

-- the listed rows are members, and the kept members are preserved
pub record IsRestriction (f : Operation) (v : TableView) (r : Restriction) : Type 0 where
  pub sound : IsSoundTable f v
  pub inside : All (InTable f v) r.rows
  pub preserved : IsPreserved f v.width (IsKept f v r)

-- a restriction that keeps a preserved set, and a position of the order that is none of its first
pub record IsLatePlace (f : Operation) (v : TableView) (r : Restriction) (k : ℕ) : Type 0 where
  pub sound : IsSoundTable f v
  pub position : k < v.width
  pub late : r.first ≤ k
  pub preserved : IsPreserved f v.width (IsKept f v r)

-- the value has a row in the classes: it has a root
pub record HasSample (d : ℕ) (c : ClassesView) (a : ℕ) : Type 0 where
  pub below : a < d
  pub root : root_of c a < d

-- at the place at position k, for the values of whole classes of the table, kept members that have them
pub record AreSamples (f : Operation) (v : TableView) (r : Restriction) (k : ℕ) (c : ClassesView) : Type 0 where
  pub classes : AreClasses v.domain v.width c
  pub made : IsMadeLate v.domain (IsKept f v r) (InFront v.order k) (slice_index v.order k) (HasSample v.domain c)
      (root_in v (slice_index v.order k)) (row_of c) (root_of c)

-- samples for the old values and maybe for more
pub record AreMoreSamples (f : Operation) (v : TableView) (r : Restriction) (k : ℕ)
    (old new : ClassesView) : Type 0 where
  pub samples : AreSamples f v r k new
  pub more : (a : ℕ) → HasSample v.domain old a → HasSample v.domain new a

-- each value that a member of the table has at the place has a sample
abbrev pub HaveAll : TableView → ℕ → ClassesView → Type 0
HaveAll v p c = (a : ℕ) → a < v.domain → root_in v p a < v.domain → HasSample v.domain c a

-- the row and the root of a value are as before
pub record StaysSame (a : ℕ) (old new : ClassesView) : Type 0 where
  pub row : row_of new a ≡ row_of old a
  pub root : root_of new a ≡ root_of old a

-- each value of the class that t has at place p has got a step of t to it, and the others are as before
pub record IsSpread (f : Operation) (v : TableView) (p : ℕ) (t : List ℕ) (old new : ClassesView) : Type 0 where
  pub classes : AreClasses v.domain v.width new
  pub rows : (a : ℕ) → a < v.domain → SameRoot v.domain (root_in v p) (slice_index t p) a
      → row_of new a ≡ step f v.width p (row_in v p) t a
  pub roots : (a : ℕ) → a < v.domain → SameRoot v.domain (root_in v p) (slice_index t p) a
      → root_of new a ≡ root_in v p a
  pub others : (a : ℕ) → ¬ SameRoot v.domain (root_in v p) (slice_index t p) a → StaysSame a old new

-- the classes with another row and root for a value
abbrev pub set_value : ClassesView → ℕ → List ℕ → ℕ → ClassesView
set_value c a row root = record { rows = slice_set c.rows a row; roots = slice_set c.roots a root }

-- three values with samples of which the operation makes one that has none
pub record IsMissing (f : Operation) (c : ClassesView) (x y z : ℕ) : Type 0 where
  pub first : HasSample f.domain c x
  pub second : HasSample f.domain c y
  pub third : HasSample f.domain c z
  pub none : ¬ HasSample f.domain c (value_at f (x ∷ y ∷ z ∷ []))

-- the operation makes of values with samples values with samples
abbrev pub AreClosed : Operation → ClassesView → Type 0
AreClosed f c = (x y z : ℕ) → HasSample f.domain c x → HasSample f.domain c y → HasSample f.domain c z
    → HasSample f.domain c (value_at f (x ∷ y ∷ z ∷ []))

-- the classes of a place
abbrev pub listed_at : List ClassesView → ℕ → ClassesView
listed_at places p = slice_index_or places p no_classes

-- classes of which each row with a root is a kept member
pub record HaveKeptRows (f : Operation) (v : TableView) (r : Restriction) (c : ClassesView) : Type 0 where
  pub classes : AreClasses v.domain v.width c
  pub kept : (a : ℕ) → HasSample v.domain c a → IsKept f v r (row_of c a)

-- such classes for the places before position k
pub record AreKeptBefore (f : Operation) (v : TableView) (r : Restriction) (k : ℕ)
    (places : List ClassesView) : Type 0 where
  pub long : length places ≡ v.width
  pub each : (i : ℕ) → i < k → HaveKeptRows f v r (listed_at places (slice_index v.order i))

-- the place at position k has a sample for each value that a row of the classes has there
abbrev pub SampleRows : TableView → ℕ → ClassesView → ClassesView → Type 0
SampleRows v k classes c = (a : ℕ) → HasSample v.domain classes a
    → HasSample v.domain c (slice_index (row_of classes a) (slice_index v.order k))

-- samples for all values that kept members have at the place at position k, by the rows of the places before it
pub record AreLateClasses (f : Operation) (v : TableView) (r : Restriction) (k : ℕ)
    (places : List ClassesView) (c : ClassesView) : Type 0 where
  pub samples : AreSamples f v r k c
  pub values : AreValues f k (slice_index v.order k) v.order (λ p a. row_of (listed_at places p) a)
      (λ p a. root_of (listed_at places p) a) (HasSample v.domain c)

-- what the restriction leaves at the place at position k, by the rows of the places before it
pub record AreRestricted (f : Operation) (v : TableView) (r : Restriction) (k : ℕ)
    (places : List ClassesView) (c : ClassesView) : Type 0 where
  pub classes : AreClasses v.domain v.width c
  pub early : k < r.first → IsMadeEarly f.domain r.rows (InFront v.order k) (slice_index v.order k)
      (first_row r.rows (slice_index v.order k)) (row_of c) (root_of c)
  pub late : r.first ≤ k → AreLateClasses f v r k places c

-- what it leaves at the places before position k
pub record AreRestrictedBefore (f : Operation) (v : TableView) (r : Restriction) (k : ℕ)
    (places : List ClassesView) : Type 0 where
  pub long : length places ≡ v.width
  pub each : (i : ℕ) → i < k → AreRestricted f v r i places (listed_at places (slice_index v.order i))
