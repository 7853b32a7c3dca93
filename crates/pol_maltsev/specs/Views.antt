-- How tables are seen, and the set of tuples that one stands for.
use Rattle.std.specs.Prelude.{◌≡◌, ◌<◌, ◌≤◌, ◌+◌, ◌↔◌, ◌≢◌, ◌++◌, ℕ, List, []}
use Rattle.std.specs.Prelude.{◌∷◌, length, slice_index}
use Rattle.std.specs.Prelude.{slice_index_or, slice_set, replicate, All, Bool, ◌==◌, ◌&&◌, nat_lt}
use Rattle.pol_base.specs.Tuples.{IsDomain, IsTuple}
use Rattle.pol_optable.specs.Operations.{Operation, image}
use Rattle.pol_optable.specs.Tables.{IsOpTable}
use Rattle.pol_optable.specs.Identities.{IsMaltsev}
use Rattle.pol_maltsev.specs.Orders.{IsSwapped}
use Rattle.pol_maltsev.specs.Tables.{IsTable}
use Rattle.pol_maltsev.specs.Swaps.{Sides, sides, IsSwappedTable}

-- at one place: for each value a row, and the root of its class, which is the size of the domain where no member has
-- the value
pub record ClassesView : Type 0 where
  pub rows : List (List ℕ)
  pub roots : List ℕ

-- a table: the order of the places, and what is kept at each place
pub record TableView : Type 0 where
  pub domain : ℕ
  pub width : ℕ
  pub order : List ℕ
  pub places : List ClassesView

-- what stands at a place that the table does not have
abbrev pub no_classes : ClassesView
no_classes = record { rows = []; roots = [] }

-- the row of a value
abbrev pub row_of : ClassesView → ℕ → List ℕ
row_of c a = slice_index_or c.rows a []

-- the root of its class
abbrev pub root_of : ClassesView → ℕ → ℕ
root_of c a = slice_index c.roots a

-- what the table keeps of a place
abbrev pub classes_at : TableView → ℕ → ClassesView
classes_at v p = slice_index_or v.places p no_classes

-- the row of a value at a place
abbrev pub row_in : TableView → ℕ → ℕ → List ℕ
row_in v p a = row_of (classes_at v p) a

-- the root of its class
abbrev pub root_in : TableView → ℕ → ℕ → ℕ
root_in v p a = root_of (classes_at v p) a

-- a row of n values below d and a root for each value below d
pub record AreClasses (d n : ℕ) (c : ClassesView) : Type 0 where
  pub all_rows : length c.rows ≡ d
  pub tuples : All (IsTuple d n) c.rows
  pub all_roots : length c.roots ≡ d
  pub most : All (λ r. r ≤ d) c.roots

-- an order of the places, and such rows and roots for each place
pub record IsTableView (v : TableView) : Type 0 where
  pub domain_is : IsDomain v.domain
  pub some_places : 1 ≤ v.width
  pub few_places : v.width ≤ 4096
  pub ordered : length v.order ≡ v.width
  pub below : All (λ p. p < v.width) v.order
  pub all_places : length v.places ≡ v.width
  pub classes : All (AreClasses v.domain v.width) v.places

-- the set that the table stands for: the closure of its rows
pub data InTable (f : Operation) (v : TableView) : List ℕ → Type 0 where
  listed : (p a : ℕ) → p < v.width → a < f.domain → root_in v p a < f.domain → InTable f v (row_in v p a)
  made : (r s t : List ℕ) → InTable f v r → InTable f v s → InTable f v t
      → InTable f v (image f v.width (r ∷ s ∷ t ∷ []))

-- the operation of a table that stands for the closure of its rows
pub record IsSoundTable (f : Operation) (v : TableView) : Type 0 where
  pub operation : IsOpTable 3 f
  pub maltsev : IsMaltsev f
  pub same_domain : v.domain ≡ f.domain
  pub view : IsTableView v
  pub table : IsTable v.width f.domain (InTable f v) v.order (row_in v) (root_in v)

-- the table's sides at positions k and k + 1 of the order
abbrev pub sides_at : TableView → ℕ → Sides
sides_at v k = sides v.order k (row_in v) (root_in v)

-- the table after the swap of positions k and k + 1
abbrev pub IsSwappedView : Operation → ℕ → TableView → TableView → Type 0
IsSwappedView f k old new =
    IsSwappedTable f old.width k old.order new.order (row_in old) (root_in old) (row_in new) (root_in new)

-- the tables are of one domain and one width
pub record HaveOneShape (old new : TableView) : Type 0 where
  pub domain : new.domain ≡ old.domain
  pub width : new.width ≡ old.width

-- the operation's closures of the rows of both tables are one set
abbrev pub HaveOneSet : Operation → TableView → TableView → Type 0
HaveOneSet f old new = (t : List ℕ) → InTable f new t ↔ InTable f old t

-- for each of the first values a row and a root, of which something holds
pub record AreMade (P : ℕ → List ℕ → ℕ → Type 0) (d n count : ℕ) (c : ClassesView) : Type 0 where
  pub all_rows : length c.rows ≡ count
  pub tuples : All (IsTuple d n) c.rows
  pub all_roots : length c.roots ≡ count
  pub most : All (λ r. r ≤ d) c.roots
  pub each : (a : ℕ) → a < count → P a (row_of c a) (root_of c a)

-- the classes with a further row and root
abbrev pub with_value : ClassesView → List ℕ → ℕ → ClassesView
with_value c row root = record { rows = c.rows ++ row ∷ []; roots = c.roots ++ root ∷ [] }

-- a row and a root for a value, of which something holds
pub record IsMade (P : ℕ → List ℕ → ℕ → Type 0) (d n a : ℕ) (row : List ℕ) (root : ℕ) : Type 0 where
  pub tuple : IsTuple d n row
  pub most : root ≤ d
  pub holds : P a row root

-- the classes of the places at positions k and k + 1 are replaced, and the places change their order
pub record IsReplaced (k : ℕ) (late early : ClassesView) (old new : TableView) : Type 0 where
  pub shape : HaveOneShape old new
  pub order : IsSwapped k old.order new.order
  pub late_is : classes_at new (slice_index old.order k) ≡ late
  pub early_is : classes_at new (slice_index old.order (k + 1)) ≡ early
  pub others : (p : ℕ) → p ≢ slice_index old.order k → p ≢ slice_index old.order (k + 1)
      → classes_at new p ≡ classes_at old p

-- for a value at place p of n: the row that has it there and 0 elsewhere, and the root 0
pub record IsFullAt (n p a : ℕ) (row : List ℕ) (root : ℕ) : Type 0 where
  pub row_is : row ≡ slice_set (replicate n 0) p a
  pub root_is : root ≡ 0

-- such rows and roots for each value at each place
abbrev pub IsFull : TableView → Type 0
IsFull v = (p : ℕ) → p < v.width → AreMade (IsFullAt v.width p) v.domain v.width v.domain (classes_at v p)

-- the same set in another order, where the first places have stayed
pub record IsReordered (f : Operation) (stayed : ℕ) (old new : TableView) : Type 0 where
  pub shape : HaveOneShape old new
  pub sound : IsSoundTable f new
  pub set : HaveOneSet f old new
  pub before : (i : ℕ) → i < stayed → slice_index new.order i ≡ slice_index old.order i

-- whether both values are in one class at the place
abbrev pub same_in : TableView → ℕ → ℕ → ℕ → Bool
same_in v p a b = (root_in v p a == root_in v p b) && nat_lt (root_in v p a) v.domain
