-- The order of lists: transitive, irreflexive, total at one length, and the answers of `slice_cmp`.
use Rattle.std.proofs.Common.{ℕ, inl, inr, List, [], ◌∷◌, ◌∙◌, arith, ◌≡◌, sym, length, refl, ◌<◌, Less, Equal, Greater, suc, AllPairs, get_or}
use Rattle.std.specs.Bool.{Decides}
use Rattle.std.specs.Cmp.{nat_cmp_is}
use Rattle.std.specs.Cmp.Lexicographic.{slice_cmp}
use Rattle.std.specs.Ordering.{nat_cmp, is_eq}
use Rattle.std.proofs.lemmas.Bool.{cases_order}
use Rattle.std.specs.Str.{bytes_eq}
use Rattle.std.specs.List.Sorted.{IsStrictlySortedBy}
use Rattle.std.proofs.lemmas.Bool.Decides.{Decides-at}
use Rattle.std.proofs.lemmas.Slice.Eq.{bytes_eq-Decides}
use Rattle.std.proofs.lemmas.Map.Text.{is_eq-slice_cmp}
use Rattle.std.proofs.lemmas.List.Elements.{recursion_from_All}
use Rattle.pol_base.specs.Tuples.{IsBefore}

pub IsBefore-trans : (xs ys zs : List ℕ) → IsBefore xs ys → IsBefore ys zs → IsBefore xs zs
IsBefore-trans [] ys zs first second = absurd first
IsBefore-trans (x ∷ xs) [] zs first second = absurd first
IsBefore-trans (x ∷ xs) (y ∷ ys) [] first second = absurd second
IsBefore-trans (x ∷ xs) (y ∷ ys) (z ∷ zs) first second =
    elim first [
      | inl less ↦ elim second [ inl more ↦ inl (omega arith) | inr tied ↦ inl (omega arith) ]
      | inr equal ↦ elim second [
        | inl more ↦ inl (omega arith)
        | inr tied ↦ inr (equal.0 ∙ tied.0, IsBefore-trans xs ys zs equal.1 tied.1)
      ]
    ]

pub IsBefore-irrefl : (xs : List ℕ) → IsBefore xs xs → ⊥
IsBefore-irrefl [] before = before
IsBefore-irrefl (x ∷ xs) before = elim before [ inl less ↦ omega arith | inr equal ↦ IsBefore-irrefl xs equal.1 ]

-- one list comes before the other, or they are one
pub data Order (xs ys : List ℕ) : Type 0 where
  Before : IsBefore xs ys → Order xs ys
  Same : xs ≡ ys → Order xs ys
  After : IsBefore ys xs → Order xs ys

order_behind : (x y : ℕ) (xs ys : List ℕ) → x ≡ y → Order xs ys → Order (x ∷ xs) (y ∷ ys)
order_behind x y xs ys heads order =
    elim order [
      | Before before ↦ Order.Before (inr (heads, before))
      | Same same ↦ Order.Same (cc)
      | After after ↦ Order.After (inr (sym heads, after))
    ]

-- lists of one length are in some order
pub order_of : (xs ys : List ℕ) → length xs ≡ length ys → Order xs ys
order_of [] [] long = Order.Same refl
order_of [] (y ∷ ys) long = absurd (cc)
order_of (x ∷ xs) [] long = absurd (cc)
order_of (x ∷ xs) (y ∷ ys) long =
    let rest = order_of xs ys (cc) in
    elim (cases_order x y) [
      | inl equal ↦ order_behind x y xs ys equal rest
      | inr unequal ↦ elim unequal [ inl less ↦ Order.Before (inl less) | inr more ↦ Order.After (inl more) ]
    ]

nat_cmp-less : (x y : ℕ) → x < y → nat_cmp x y ≡ Less
nat_cmp-less x y less = sym (nat_cmp_is x y Less less)

nat_cmp-equal : (x y : ℕ) → x ≡ y → nat_cmp x y ≡ Equal
nat_cmp-equal x y equal = sym (nat_cmp_is x y Equal equal)

nat_cmp-greater : (x y : ℕ) → y < x → nat_cmp x y ≡ Greater
nat_cmp-greater x y more = sym (nat_cmp_is x y Greater more)

pub slice_cmp-before : (xs ys : List ℕ) → IsBefore xs ys → slice_cmp nat_cmp xs ys ≡ Less
slice_cmp-before [] ys before = absurd before
slice_cmp-before (x ∷ xs) [] before = absurd before
slice_cmp-before (x ∷ xs) (y ∷ ys) before =
    elim before [
      | inl less ↦ rw (nat_cmp-less x y less) refl
      | inr equal ↦ rw (nat_cmp-equal x y equal.0) (slice_cmp-before xs ys equal.1)
    ]

pub slice_cmp-after : (xs ys : List ℕ) → IsBefore ys xs → slice_cmp nat_cmp xs ys ≡ Greater
slice_cmp-after xs [] after = absurd after
slice_cmp-after [] (y ∷ ys) after = absurd after
slice_cmp-after (x ∷ xs) (y ∷ ys) after =
    elim after [
      | inl more ↦ rw (nat_cmp-greater x y more) refl
      | inr equal ↦ rw (nat_cmp-equal x y (sym equal.0)) (slice_cmp-after xs ys equal.1)
    ]

pub slice_cmp-itself : (xs : List ℕ) → slice_cmp nat_cmp xs xs ≡ Equal
slice_cmp-itself [] = refl
slice_cmp-itself (x ∷ xs) = rw (nat_cmp-equal x x refl) (slice_cmp-itself xs)

pub slice_cmp-same : (xs ys : List ℕ) → xs ≡ ys → slice_cmp nat_cmp xs ys ≡ Equal
slice_cmp-same xs ys same = rw same (slice_cmp-itself ys)

pub before-slice_cmp : (xs ys : List ℕ) → length xs ≡ length ys → slice_cmp nat_cmp xs ys ≡ Less → IsBefore xs ys
before-slice_cmp xs ys long less =
    elim (order_of xs ys long) [
      | Before before ↦ before
      | Same same ↦ absurd (let other = slice_cmp-same xs ys same in cc)
      | After after ↦ absurd (let other = slice_cmp-after xs ys after in cc)
    ]

pub after-slice_cmp : (xs ys : List ℕ) → length xs ≡ length ys → slice_cmp nat_cmp xs ys ≡ Greater → IsBefore ys xs
after-slice_cmp xs ys long more =
    elim (order_of xs ys long) [
      | Before before ↦ absurd (let other = slice_cmp-before xs ys before in cc)
      | Same same ↦ absurd (let other = slice_cmp-same xs ys same in cc)
      | After after ↦ after
    ]

pub is_eq-decides : (xs ys : List ℕ) → Decides (is_eq (slice_cmp nat_cmp xs ys)) (xs ≡ ys)
is_eq-decides xs ys = Decides-at (is_eq (slice_cmp nat_cmp xs ys)) (bytes_eq xs ys) (is_eq-slice_cmp xs ys) (bytes_eq-Decides xs ys)

pub sorted_from_ascending : (rows : List (List ℕ)) → AllPairs IsBefore rows → IsStrictlySortedBy (slice_cmp nat_cmp) rows
unfolding IsStrictlySortedBy
sorted_from_ascending [] ascending = tt
sorted_from_ascending (row ∷ rows) ascending = (
  recursion_from_All (λ y. slice_cmp nat_cmp row y ≡ Less) rows (λ k d inside. slice_cmp-before row (get_or rows k d) (ascending 0 (suc k) d (omega arith) (omega arith))),
  sorted_from_ascending rows (λ i j d less inside. ascending (suc i) (suc j) d (omega arith) (omega arith)),
)
