-- The lists of row numbers that are broken, in the order in which they are tried.
use Rattle.std.proofs.Common.{◌≡◌, ℕ, zero, suc, ◌+◌, ◌-◌, ◌*◌, ◌^◌, ◌<◌, ◌≤◌, ◌⊎◌, ◌↔◌, inl, inr, List, [], ◌∷◌, ◌++◌, length, take, set, replicate, get_or, All, Contains, Option, Some, None, Bool, true, false, IsTrue, refl, sym, ap, ◌∙◌, subst, arith}
use Rattle.std.specs.Prelude.{IfSome, IfNone, IsNone}
use Rattle.std.specs.Bool.{Decides}
use Rattle.std.proofs.lemmas.Bool.{cases_lt, true≢false}
use Rattle.std.proofs.lemmas.List.{take_more, take_all, drop_all, set_split, length_push, length-take-le, length-map, length-replicate, get_or_push, get_or_default, length-set}
use Rattle.std.proofs.lemmas.List.Elements.{All-take, All-push, All-replicate, All-map, All-head, All-tail, All-nil, All-cons, All-weaker, Contains-get_or}
use Rattle.pol_base.specs.Tuples.{IsTuple, IsBefore, cell_of, digits_of}
use Rattle.pol_base.specs.Least.{IsLeast, AnswersLeast}
use Rattle.pol_base.proofs.CellLemmas.{cell_of-push, cell_of-before, before-cell_of, cell_of-IsTuple, digits_of-cell_of-IsTuple}
use Rattle.pol_base.proofs.Enumeration.{same_list, least_now}
use Rattle.pol_base.specs.Lists.{is_among}
use Rattle.pol_base.proofs.LookupLemmas.{is_among-decides}
use Rattle.pol_relation.specs.Relations.{RelationView}
use Rattle.pol_optable.specs.Operations.{Operation, image, Preserves}
use Rattle.pol_optable.specs.Tables.{IsOpTable}
use Rattle.pol_optable.specs.Breaks.{rows_at, with_last, image_behind, IsBroken, IsBrokenFrom}

-- ---- numbers with another last one

front_long : (n K : ℕ) (numbers : List ℕ) → 1 ≤ K → IsTuple n K numbers → length (take (length numbers - 1) numbers) + 1 ≡ K
front_long n K numbers some tuple =
    let less : length numbers - 1 ≤ length numbers = omega arith in
    omega (arith, length-take-le (length numbers - 1) numbers less, tuple.long)

pub with_last-IsTuple :
    (n K : ℕ) (numbers : List ℕ) (last : ℕ)
    → 1 ≤ K
    → IsTuple n K numbers
    → last < n
    → IsTuple n K (with_last numbers last)
with_last-IsTuple n K numbers last some tuple below = record {
  long = length_push (take (length numbers - 1) numbers) last ∙ front_long n K numbers some tuple;
  below = All-push (λ v. v < n) (take (length numbers - 1) numbers) last (All-take (λ v. v < n) (length numbers - 1) numbers tuple.below) below;
}

-- the number that the list writes with a zero at the last place
abbrev pub front_cell : ℕ → List ℕ → ℕ
front_cell n numbers = cell_of n (take (length numbers - 1) numbers) * n

pub with_last-cell : (n : ℕ) (numbers : List ℕ) (last : ℕ) → cell_of n (with_last numbers last) ≡ front_cell n numbers + last
with_last-cell n numbers last = cell_of-push n (take (length numbers - 1) numbers) last

pub with_last-itself : (numbers : List ℕ) → 1 ≤ length numbers → with_last numbers (get_or numbers (length numbers - 1) 0) ≡ numbers
with_last-itself numbers some =
    let inside : length numbers - 1 < length numbers = omega arith in
    sym (take_more numbers (length numbers - 1) 0 inside) ∙ take_all (length numbers - 1 + 1) numbers (omega arith)

pub own_cell :
    (n K : ℕ) (numbers : List ℕ)
    → 1 ≤ K
    → IsTuple n K numbers
    → cell_of n numbers ≡ front_cell n numbers + get_or numbers (K - 1) 0
own_cell n K numbers some tuple =
    let long : 1 ≤ length numbers = omega (arith, tuple.long) in
    let index : length numbers - 1 ≡ K - 1 = ap (λ k. k - 1) tuple.long in
    sym (ap (cell_of n) (with_last-itself numbers long))
    ∙ with_last-cell n numbers (get_or numbers (length numbers - 1) 0)
    ∙ ap (λ k. front_cell n numbers + get_or numbers k 0) index

pub set-with_last :
    (n K : ℕ) (numbers : List ℕ) (last : ℕ)
    → 1 ≤ K
    → IsTuple n K numbers
    → set numbers (K - 1) last ≡ with_last numbers last
set-with_last n K numbers last some tuple =
    let index : K - 1 ≡ length numbers - 1 = sym (ap (λ k. k - 1) tuple.long) in
    let inside : length numbers - 1 < length numbers = omega (arith, tuple.long) in
    ap (λ k. set numbers k last) index
    ∙ set_split numbers (length numbers - 1) last inside
    ∙ ap (λ rest. take (length numbers - 1) numbers ++ last ∷ rest) (drop_all (suc (length numbers - 1)) numbers (omega arith))

pub last_below :
    (n K : ℕ) (numbers : List ℕ) (last : ℕ)
    → IsTuple n K (with_last numbers last)
    → last < n
last_below n K numbers last tuple =
    let at : get_or (with_last numbers last) (length (take (length numbers - 1) numbers)) 0 ≡ last = get_or_push (take (length numbers - 1) numbers) last 0 (length (take (length numbers - 1) numbers)) refl in
    let below : get_or (with_last numbers last) (length (take (length numbers - 1) numbers)) 0 < n =
    tuple.below (length (take (length numbers - 1) numbers)) 0 (omega (arith, length_push (take (length numbers - 1) numbers) last)) in
    omega (arith, at, below)

-- there is a number below n where there is a list of numbers below n
pub some_below : (n K : ℕ) (numbers : List ℕ) → 1 ≤ K → IsTuple n K numbers → 1 ≤ n
some_below n K numbers some tuple =
    let first : get_or numbers 0 0 < n = tuple.below 0 0 (omega (arith, tuple.long)) in
    omega (arith, first)

-- what holds of the lists before the numbers, and of those with one front up to a last number, holds of all before
pub passed :
    (P : List ℕ → Type 0) (n K : ℕ) (numbers : List ℕ) (top : ℕ)
    → 1 ≤ K
    → IsTuple n K numbers
    → top ≤ n
    → ((qs : List ℕ) → IsTuple n K qs → cell_of n qs < cell_of n numbers → P qs)
    → ((last : ℕ) → get_or numbers (K - 1) 0 ≤ last → last < top → P (with_last numbers last))
    → (qs : List ℕ)
    → IsTuple n K qs
    → cell_of n qs < front_cell n numbers + top
    → P qs
passed P n K numbers top some tuple within before lasts qs q less = by (cases_lt (cell_of n qs) (cell_of n numbers))
  where
    own : cell_of n numbers ≡ front_cell n numbers + get_or numbers (K - 1) 0
    own = own_cell n K numbers some tuple

    by : (cell_of n qs < cell_of n numbers) ⊎ (cell_of n numbers ≤ cell_of n qs) → P qs
    by (inl lower) = before qs q lower
    by (inr from) =
        let last : ℕ = cell_of n qs - front_cell n numbers in
        let at : front_cell n numbers + last ≡ cell_of n qs = omega (arith, own, from) in
        let high : get_or numbers (K - 1) 0 ≤ last = omega (arith, own, from, at) in
        let low : last < top = omega (arith, at, less) in
        let behind : IsTuple n K (with_last numbers last) = with_last-IsTuple n K numbers last some tuple (omega (arith, low, within)) in
        let same : with_last numbers last ≡ qs = same_list n K (with_last numbers last) qs behind q (with_last-cell n numbers last ∙ at) in
        let Q : List ℕ → Type 0 = P in
        subst Q same (lasts last high low)

-- the list of the smaller number has the smaller first number, or the same
pub first_rises :
    (n K : ℕ) (xs ys : List ℕ)
    → 1 ≤ K
    → IsTuple n K xs
    → IsTuple n K ys
    → cell_of n xs ≤ cell_of n ys
    → get_or xs 0 0 ≤ get_or ys 0 0
first_rises n K [] ys some tx ty le = absurd (omega (arith, tx.long))
first_rises n K (x ∷ xs) [] some tx ty le = absurd (omega (arith, ty.long))
first_rises n K (x ∷ xs) (y ∷ ys) some tx ty le = by (cases_lt y x)
  where
    by : (y < x) ⊎ (x ≤ y) → x ≤ y
    by (inl less) =
        let lower : cell_of n (y ∷ ys) < cell_of n (x ∷ xs) = cell_of-before n (y ∷ ys) (x ∷ xs) (ty.long ∙ sym tx.long) ty.below tx.below (inl less) in
        absurd (omega (arith, lower, le))
    by (inr more) = more

-- a list whose number is not smaller does not come before
pub not_before :
    (n K : ℕ) (xs ys : List ℕ)
    → IsTuple n K xs
    → IsTuple n K ys
    → cell_of n ys ≤ cell_of n xs
    → IsBefore xs ys
    → ⊥
not_before n K xs ys tx ty le before =
    let lower : cell_of n xs < cell_of n ys = cell_of-before n xs ys (tx.long ∙ sym ty.long) tx.below ty.below before in
    omega (arith, lower, le)

pub cell_from :
    (n K : ℕ) (xs ys : List ℕ)
    → IsTuple n K xs
    → IsTuple n K ys
    → (IsBefore xs ys → ⊥)
    → cell_of n ys ≤ cell_of n xs
cell_from n K xs ys tx ty not = by (cases_lt (cell_of n xs) (cell_of n ys))
  where
    by : (cell_of n xs < cell_of n ys) ⊎ (cell_of n ys ≤ cell_of n xs) → cell_of n ys ≤ cell_of n xs
    by (inl less) = absurd (not (before-cell_of n xs ys (tx.long ∙ sym ty.long) tx.below ty.below less))
    by (inr more) = more

-- ---- rows and their numbers

pub rows_at-rows : (r : RelationView) (numbers : List ℕ) → All (λ i. i < length r.rows) numbers → All (Contains r.rows) (rows_at r numbers)
rows_at-rows r numbers below =
    All-map (Contains r.rows) (λ i. get_or r.rows i []) numbers
    (All-weaker (λ i. i < length r.rows) (λ i. Contains r.rows (get_or r.rows i [])) (λ i inside. Contains-get_or r.rows i [] inside) numbers below)

-- the numbers of listed rows
pub record AreNumbers (r : RelationView) (rows : List (List ℕ)) : Type 0 where
  pub numbers : List ℕ
  pub below : All (λ i. i < length r.rows) numbers
  pub same : rows_at r numbers ≡ rows

pub numbers_of : (r : RelationView) (rows : List (List ℕ)) → All (Contains r.rows) rows → AreNumbers r rows
numbers_of r [] all = record { numbers = []; below = All-nil (λ i. i < length r.rows); same = refl }
numbers_of r (row ∷ rows) all =
    let here : Contains r.rows row = All-head (Contains r.rows) row rows all in
    let rest : AreNumbers r rows = numbers_of r rows (All-tail (Contains r.rows) row rows all) in
    let found : get_or r.rows here.0 [] ≡ row = get_or_default r.rows here.0 [] row here.1 ∙ here.2 in
    record {
      numbers = here.0 ∷ rest.numbers;
      below = All-cons (λ i. i < length r.rows) here.0 rest.numbers here.1 rest.below;
      same = ap (λ first. first ∷ rows_at r rest.numbers) found ∙ ap (λ behind. row ∷ behind) rest.same;
    }

-- where no list of numbers is broken, the operation preserves the relation
pub unbroken_preserves : (f : Operation) (r : RelationView) → ((numbers : List ℕ) → IsBroken f r numbers → ⊥) → ((t : List ℕ) → (Contains r.rows t → ⊥) ⊎ Contains r.rows t) → Preserves f r
unbroken_preserves f r none decided rows long all = by (decided (image f r.arity rows))
  where
    listed : AreNumbers r rows
    listed = numbers_of r rows all

    numbers_long : length listed.numbers ≡ f.arity
    numbers_long = sym (length-map listed.numbers (λ i. get_or r.rows i [])) ∙ ap length listed.same ∙ long

    by : (Contains r.rows (image f r.arity rows) → ⊥) ⊎ Contains r.rows (image f r.arity rows) → Contains r.rows (image f r.arity rows)
    by (inl out) = absurd (none listed.numbers (record {
      are_rows = record { long = numbers_long; below = listed.below };
      no_row = subst (λ (some : List (List ℕ)). Contains r.rows (image f r.arity some) → ⊥) (sym listed.same) out;
    }))
    by (inr inside) = inside

-- a broken list shows that it does not
pub broken_refutes : (f : Operation) (r : RelationView) (numbers : List ℕ) → IsBroken f r numbers → Preserves f r → ⊥
broken_refutes f r numbers broken preserves =
    broken.no_row (preserves (rows_at r numbers) (length-map numbers (λ i. get_or r.rows i []) ∙ broken.are_rows.long) (rows_at-rows r numbers broken.are_rows.below))

pub row_or_not : (r : RelationView) (t : List ℕ) → (Contains r.rows t → ⊥) ⊎ Contains r.rows t
row_or_not r t = by (is_among r.rows t) (is_among-decides r.rows t)
  where
    by : (b : Bool) → Decides b (Contains r.rows t) → (Contains r.rows t → ⊥) ⊎ Contains r.rows t
    by true decides = inr (decides.0 refl)
    by false decides = inl (λ member. true≢false (sym (decides.1 member)))

-- where no list is broken the operation preserves the relation
pub preserves_from_none : (f : Operation) (r : RelationView) → ((numbers : List ℕ) → ¬ IsBroken f r numbers) → Preserves f r
preserves_from_none f r none = unbroken_preserves f r none (row_or_not r)

-- the answer is none exactly where the operation preserves the relation
pub none_preserves : (f : Operation) (r : RelationView) (answer : Option (List ℕ)) → AnswersLeast (IsBroken f r) answer → IsNone answer ↔ Preserves f r
none_preserves f r None none = (λ _. preserves_from_none f r none, λ _. refl)
none_preserves f r (Some numbers) least = (λ no. absurd (true≢false no), λ preserves. absurd (broken_refutes f r numbers least.holds preserves))

-- ---- the list of zeros is the first

pub zeros_first : (K : ℕ) (xs : List ℕ) → IsBefore xs (replicate K 0) → ⊥
zeros_first zero [] before = before
zeros_first zero (x ∷ xs) before = before
zeros_first (suc K) [] before = before
zeros_first (suc K) (x ∷ xs) before = elim before [ inl less ↦ omega (arith, less) | inr equal ↦ zeros_first K xs equal.1 ]

pub zeros-IsTuple : (n K : ℕ) → 1 ≤ n → IsTuple n K (replicate K 0)
zeros-IsTuple n K some = record { long = length-replicate K 0; below = All-replicate (λ v. v < n) K 0 some }

-- without rows no list is broken
pub unbroken_without_rows : (K : ℕ) (f : Operation) (r : RelationView) → IsOpTable K f → length r.rows ≡ 0 → (numbers : List ℕ) → IsBroken f r numbers → ⊥
unbroken_without_rows K f r table none numbers broken =
    let some = some_below (length r.rows) f.arity numbers table.is_operation.some_arguments broken.are_rows in
    omega (arith, none, some)

-- the least broken list from the first one on is the least broken list
pub least_from_first :
    (K : ℕ) (f : Operation) (r : RelationView) (answer : Option (List ℕ))
    → IsOpTable K f
    → IfSome answer (IsLeast (IsBrokenFrom f r (replicate K 0)))
    → IfNone answer ((numbers : List ℕ) → IsBrokenFrom f r (replicate K 0) numbers → length r.rows ≤ get_or numbers 0 0)
    → AnswersLeast (IsBroken f r) answer
least_from_first K f r None table least none = λ numbers broken.
    let first : get_or numbers 0 0 < length r.rows = broken.are_rows.below 0 0 (omega (arith, broken.are_rows.long, table.is_operation.some_arguments)) in
    let high = none numbers (record { broken = broken; behind = zeros_first K numbers }) in
    omega (arith, first, high)
least_from_first K f r (Some numbers) table least none = record {
  holds = least.holds.broken;
  first = λ ys long broken. least.first ys long (record { broken = broken; behind = zeros_first K ys });
}

-- ---- the test of one list

-- the mark of the cell tells of the image
pub tested :
    (K : ℕ) (f : Operation) (r : RelationView) (numbers : List ℕ) (last cell : ℕ) (b : Bool)
    → length numbers ≡ K
    → IsTuple r.domain r.arity (image_behind f r (take (K - 1) numbers) last)
    → cell ≡ cell_of r.domain (image_behind f r (take (K - 1) numbers) last)
    → (IsTrue b ↔ Contains r.rows (digits_of r.domain r.arity cell))
    → IsTrue b ↔ Contains r.rows (image f r.arity (rows_at r (with_last numbers last)))
tested K f r numbers last cell b long tuple is told = subst (λ (t : List ℕ). IsTrue b ↔ Contains r.rows t) same told
  where
    same : digits_of r.domain r.arity cell ≡ image f r.arity (rows_at r (with_last numbers last))
    same = ap (digits_of r.domain r.arity) is
        ∙ digits_of-cell_of-IsTuple r.domain r.arity (image_behind f r (take (K - 1) numbers) last) tuple
        ∙ ap (λ k. image_behind f r (take (k - 1) numbers) last) (sym long)

-- ---- the fronts, one after another

-- no broken list from the first one on comes before one that is not before it
pub unbroken_before :
    (n K : ℕ) (f : Operation) (r : RelationView) (from qs : List ℕ)
    → IsTuple n K from
    → IsTuple n K qs
    → cell_of n qs < cell_of n from
    → IsBrokenFrom f r from qs
    → ⊥
unbroken_before n K f r from qs from_tuple q less broken =
    broken.behind (before-cell_of n qs from (q.long ∙ sym from_tuple.long) q.below from_tuple.below less)

module _ (n K : ℕ) (f : Operation) (r : RelationView) (from numbers : List ℕ)
    (table : IsOpTable K f)
    (count : n ≡ length r.rows)
    (tuple : IsTuple n K numbers)
    (before : (qs : List ℕ) → IsTuple n K qs → cell_of n qs < cell_of n numbers → IsBrokenFrom f r from qs → ⊥) where
  some_arguments : 1 ≤ K
  some_arguments = rw table.arity_is at table.is_operation.some_arguments

  broken_tuple : (qs : List ℕ) → IsBroken f r qs → IsTuple n K qs
  broken_tuple qs broken = rw (count, ← table.arity_is) broken.are_rows

  set_cell : (last : ℕ) → cell_of n (set numbers (K - 1) last) ≡ front_cell n numbers + last
  set_cell last = ap (cell_of n) (set-with_last n K numbers last some_arguments tuple) ∙ with_last-cell n numbers last

  -- the first last number that breaks the front makes the least broken list
  pub found_least :
      (last : ℕ)
      → IsTuple n K from
      → cell_of n from ≤ cell_of n numbers
      → get_or numbers (K - 1) 0 ≤ last
      → IsBroken f r (with_last numbers last)
      → ((k : ℕ) → get_or numbers (K - 1) 0 ≤ k → k < last → IsBroken f r (with_last numbers k) → ⊥)
      → IsLeast (IsBrokenFrom f r from) (set numbers (K - 1) last)
  found_least last from_tuple behind high broken first =
      let now_tuple : IsTuple n K (with_last numbers last) = broken_tuple (with_last numbers last) broken in
      let below : last < n = last_below n K numbers last now_tuple in
      let own = own_cell n K numbers some_arguments tuple in
      let now_cell = with_last-cell n numbers last in
      rw (set-with_last n K numbers last some_arguments tuple)
      (least_now n K (IsBrokenFrom f r from) (with_last numbers last)
      (λ qs other. broken_tuple qs other.broken)
      (λ qs q less. passed (λ ys. IsBrokenFrom f r from ys → ⊥) n K numbers last some_arguments tuple (omega (arith, below))
      before (λ k from_last to_last other. first k from_last to_last other.broken) qs q (omega (arith, less, now_cell)))
      (record {
        broken = broken;
        behind = not_before n K (with_last numbers last) from now_tuple from_tuple (omega (arith, behind, own, now_cell, high));
      }))

  module _ (none : (k : ℕ) → get_or numbers (K - 1) 0 ≤ k → IsBroken f r (with_last numbers k) → ⊥) where
    some_rows : 1 ≤ n
    some_rows = some_below n K numbers some_arguments tuple

    -- no list up to the last one of the front is broken
    pub unbroken_front :
        (qs : List ℕ)
        → IsTuple n K qs
        → cell_of n qs < cell_of n (set numbers (K - 1) (n - 1)) + 1
        → IsBrokenFrom f r from qs
        → ⊥
    unbroken_front qs q less =
        let end = set_cell (n - 1) in
        passed (λ ys. IsBrokenFrom f r from ys → ⊥) n K numbers n some_arguments tuple (omega arith)
        before (λ k from_last to_last other. none k from_last other.broken) qs q (omega (arith, less, end, some_rows))

    -- so none is, where that is the last list of all
    pub unbroken_all :
        cell_of n (set numbers (K - 1) (n - 1)) + 1 ≡ n ^ length (set numbers (K - 1) (n - 1))
        → (qs : List ℕ)
        → IsBrokenFrom f r from qs
        → ⊥
    unbroken_all last qs broken =
        let q = broken_tuple qs broken.broken in
        let long : length (set numbers (K - 1) (n - 1)) ≡ K = length-set numbers (K - 1) (n - 1) ∙ tuple.long in
        let within : cell_of n qs < n ^ K = cell_of-IsTuple n K qs q in
        unbroken_front qs q (rw (last, long) within) broken

    -- and those that are begin with no smaller row than the next front
    pub broken_behind :
        (next qs : List ℕ)
        → IsTuple n K next
        → cell_of n next ≡ cell_of n (set numbers (K - 1) (n - 1)) + 1
        → IsBrokenFrom f r from qs
        → get_or next 0 0 ≤ get_or qs 0 0
    broken_behind next qs next_tuple following broken =
        let q = broken_tuple qs broken.broken in
        first_rises n K next qs some_arguments next_tuple q (by q (cases_lt (cell_of n qs) (cell_of n next)))
      where
        by : IsTuple n K qs → (cell_of n qs < cell_of n next) ⊎ (cell_of n next ≤ cell_of n qs) → cell_of n next ≤ cell_of n qs
        by q (inl less) = absurd (unbroken_front qs q (omega (arith, less, following)) broken)
        by q (inr more) = more

  -- the last list of the front is not before the numbers
  pub front_rises : cell_of n numbers ≤ cell_of n (set numbers (K - 1) (n - 1))
  front_rises =
      let own = own_cell n K numbers some_arguments tuple in
      let last : get_or numbers (K - 1) 0 < n = tuple.below (K - 1) 0 (omega (arith, tuple.long, some_arguments)) in
      omega (arith, own, last, set_cell (n - 1))
