-- What an operation makes of tuples, place by place.
use Rattle.std.proofs.Common.{◌≡◌, ℕ, ◌+◌, ◌<◌, ◌≤◌, List, [], length, All, arith, sym, ◌∙◌, get_or, set}
use Rattle.std.specs.Prelude.{count_by, ◌==◌, ◌≢◌}
use Rattle.std.proofs.lemmas.List.{get_or-map, length-map, length-set, ext_get_or}
use Rattle.std.proofs.lemmas.List.Elements.{All-from_get_or, All-set}
use Rattle.std.proofs.lemmas.List.FromFn.{get_or-map-range_with_len, length-map-range_with_len}
use Rattle.pol_base.specs.Tuples.{IsTuple, cell_of}
use Rattle.pol_base.proofs.CellLemmas.{cell_of-IsTuple}
use Rattle.pol_optable.specs.Operations.{Operation, IsOperation, value_at, column, image}
use Rattle.pol_optable.specs.Identities.{IsNearUnanimity}
use Rattle.pol_strong.proofs.Choosing.{count_but_one}

-- a tuple with another value at a place
pub IsTuple-set : (d n : ℕ) (a : List ℕ) (v b : ℕ) → IsTuple d n a → b < d → IsTuple d n (set a v b)
IsTuple-set d n a v b is below = record {
  long = length-set a v b ∙ is.long;
  below = All-set (λ x. x < d) a v b below is.below;
}

-- ---- columns

pub length-column : (ts : List (List ℕ)) (j : ℕ) → length (column ts j) ≡ length ts
length-column ts j = length-map ts (λ t. get_or t j 0)

pub column_place : (ts : List (List ℕ)) (j i : ℕ) (d : List ℕ) → i < length ts
    → get_or (column ts j) i 0 ≡ get_or (get_or ts i d) j 0
column_place ts j i d inside = get_or-map (λ t. get_or t j 0) ts i d 0 inside

pub column-IsTuple : (d n : ℕ) (ts : List (List ℕ)) (j : ℕ) → j < n → All (IsTuple d n) ts
    → IsTuple d (length ts) (column ts j)
column-IsTuple d n ts j known all = record {
  long = length-column ts j;
  below = All-from_get_or (λ v. v < d) (column ts j) 0 (λ i h.
      let inside : i < length ts = omega (arith, length-column ts j) in
      let t : IsTuple d n (get_or ts i []) = all i [] inside in
      rw (column_place ts j i [] inside) (t.below j 0 (omega (arith, t.long))));
}

-- the values at a place, one of each tuple
pub column_is : (ts : List (List ℕ)) (bs : List ℕ) (j : ℕ) → length ts ≡ length bs
    → ((i : ℕ) → i < length ts → get_or (get_or ts i []) j 0 ≡ get_or bs i 0)
    → column ts j ≡ bs
column_is ts bs j counted same = ext_get_or 0 (column ts j) bs (length-column ts j ∙ counted) (λ i h.
    let inside : i < length ts = omega (arith, length-column ts j) in
    column_place ts j i [] inside ∙ same i inside)

-- tuples that have at a place the values that others have at another
pub columns_same : (ss ts : List (List ℕ)) (i j : ℕ) → length ss ≡ length ts
    → ((k : ℕ) → k < length ss → get_or (get_or ss k []) i 0 ≡ get_or (get_or ts k []) j 0)
    → column ss i ≡ column ts j
columns_same ss ts i j counted same = column_is ss (column ts j) i (counted ∙ sym (length-column ts j)) (λ k h.
    same k h ∙ sym (column_place ts j k [] (omega arith)))

-- ---- images

pub length-image : (f : Operation) (n : ℕ) (ts : List (List ℕ)) → length (image f n ts) ≡ n
length-image f n ts = length-map-range_with_len (λ j. value_at f (column ts j)) 0 n

pub image_place : (f : Operation) (n : ℕ) (ts : List (List ℕ)) (j : ℕ) → j < n
    → get_or (image f n ts) j 0 ≡ value_at f (column ts j)
image_place f n ts j known = get_or-map-range_with_len (λ j. value_at f (column ts j)) 0 n j j 0 known (omega arith)

-- the operation's values are values of its domain
pub value_at-below : (f : Operation) → IsOperation f → (arguments : List ℕ) → IsTuple f.domain f.arity arguments
    → value_at f arguments < f.domain
value_at-below f is arguments tuple =
    is.below (cell_of f.domain arguments) 0 (rw is.all_cells (cell_of-IsTuple f.domain f.arity arguments tuple))

-- at a place where all tuples but the one with the number p have one value
pub image_but_one : (f : Operation) → IsNearUnanimity f → (n j x p : ℕ) (ts : List (List ℕ))
    → length ts ≡ f.arity
    → j < n
    → All (IsTuple f.domain n) ts
    → x < f.domain
    → ((i : ℕ) → i < f.arity → i ≢ p → get_or (get_or ts i []) j 0 ≡ x)
    → get_or (image f n ts) j 0 ≡ x
image_but_one f near n j x p ts long known all below same =
    let tuple : IsTuple f.domain f.arity (column ts j) = rw long at (column-IsTuple f.domain n ts j known all) in
    let counted : length (column ts j) ≤ count_by (λ y. y == x) (column ts j) + 1
    = count_but_one (column ts j) x p (λ i h apart.
    let inside : i < length ts = omega (arith, length-column ts j) in
    column_place ts j i [] inside ∙ same i (omega arith) apart) in
    image_place f n ts j known ∙ near.most (column ts j) x tuple below (rw tuple.long at counted)
