-- The value that all arguments but at most one are.
use Rattle.std.proofs.Common.{◌≡◌, ℕ, zero, suc, ◌+◌, ◌<◌, ◌≤◌, List, [], ◌∷◌, length, get_or, take, arith, sym, ap, ◌∙◌, subst, refl, Bool, true, false, cond, Option, Some, None}
use Rattle.std.specs.Prelude.{◌==◌, ◌≢◌, nat_le}
use Rattle.std.specs.List.{count_by, find}
use Rattle.std.proofs.lemmas.Bool.{true≢false}
use Rattle.std.proofs.lemmas.Bool.Decides.{Decides-eqb, nat_tests}
use Rattle.std.proofs.lemmas.Option.{none-some}
use Rattle.std.proofs.lemmas.List.Sums.{sum_by-cons, count_by_more_yes, count_by_more_no}
use Rattle.pol_identity.specs.NearUnanimityRule.{forced_value}
use Rattle.pol_identity.specs.NearUnanimityLaws.{find_passes, le_from}

not_equal : (x y : ℕ) → (x ≡ y → ⊥) → (x == y) ≡ false
not_equal x y apart = grind (arith, nat_tests)

-- one element more
counted :
    (x v : ℕ) (xs : List ℕ) (b : Bool)
    → (v == x) ≡ b
    → count_by (λ w. w == x) (v ∷ xs) ≡ cond b 1 0 + count_by (λ w. w == x) xs
counted x v xs b same =
    sum_by-cons (λ w. cond (w == x) 1 0) v xs ∙ ap (λ t. cond t 1 0 + count_by (λ w. w == x) xs) same

-- the count in a longer front of the list, where the next element is the value
pub count_same :
    (xs : List ℕ) (i x v : ℕ)
    → i < length xs
    → v ≡ get_or xs i 0
    → v ≡ x
    → count_by (λ y. y == x) (take (i + 1) xs) ≡ count_by (λ y. y == x) (take i xs) + 1
count_same xs i x v inside here same =
    count_by_more_yes (λ y. y == x) xs i 0 inside ((Decides-eqb (get_or xs i 0) x).1 (sym here ∙ same))

-- and where it is another
pub count_other :
    (xs : List ℕ) (i x v : ℕ)
    → i < length xs
    → v ≡ get_or xs i 0
    → (v ≡ x → ⊥)
    → count_by (λ y. y == x) (take (i + 1) xs) ≡ count_by (λ y. y == x) (take i xs)
count_other xs i x v inside here apart =
    count_by_more_no (λ y. y == x) xs i 0 inside (not_equal (get_or xs i 0) x (λ same. apart (here ∙ same)))

-- ---- the first that passes a test

module _ (test : ℕ → Bool) where
  -- where none is found, what passes does not occur
  find_none : (xs : List ℕ) (x : ℕ) → test x ≡ true → find test xs ≡ None → count_by (λ y. y == x) xs ≡ 0
  find_none [] x passes none = refl
  find_none (y ∷ xs) x passes none = by (test y) (y == x) refl refl none (find_none xs x passes)
    where
      by : (b e : Bool) → test y ≡ b → (y == x) ≡ e → cond b (Some y) (find test xs) ≡ None
          → (find test xs ≡ None → count_by (λ v. v == x) xs ≡ 0)
          → count_by (λ v. v == x) (y ∷ xs) ≡ 0
      by true e here same found behind = absurd (none-some y (sym found))
      by false true fails same found behind =
          absurd (true≢false (sym passes ∙ (sym (ap test ((Decides-eqb y x).0 same)) ∙ fails)))
      by false false fails apart found behind =
          let rest = behind found in
          let one = counted x y xs false apart in
          omega arith

  -- the first place whose element passes
  find_at :
      (xs : List ℕ) (i : ℕ)
      → i < length xs
      → test (get_or xs i 0) ≡ true
      → ((j : ℕ) → j < i → test (get_or xs j 0) ≡ false)
      → find test xs ≡ Some (get_or xs i 0)
  find_at [] i inside passes before = absurd (omega arith)
  find_at (y ∷ xs) zero inside passes before = ap (λ b. cond b (Some y) (find test xs)) passes
  find_at (y ∷ xs) (suc i) inside passes before =
      ap (λ b. cond b (Some y) (find test xs)) (before 0 (omega arith))
      ∙ find_at xs i (omega arith) passes (λ j less. before (suc j) (omega arith))

  -- no place has an element that passes
  find_nowhere : (xs : List ℕ) → ((j : ℕ) → j < length xs → test (get_or xs j 0) ≡ false) → find test xs ≡ None
  find_nowhere [] fails = refl
  find_nowhere (y ∷ xs) fails =
      ap (λ b. cond b (Some y) (find test xs)) (fails 0 (omega arith))
      ∙ find_nowhere xs (λ j inside. fails (suc j) (omega arith))

-- ---- the value that most arguments are

-- all arguments but at most one are x
abbrev pub IsMost : List ℕ → ℕ → Type 0
IsMost arguments x = length arguments ≤ count_by (λ y. y == x) arguments + 1

le_to : (m n : ℕ) → m ≤ n → nat_le m n ≡ true
le_to m n less = grind (arith, nat_tests)

le_not : (m n : ℕ) → n < m → nat_le m n ≡ false
le_not m n more = grind (arith, nat_tests)

-- two values share the places
both_counted : (xs : List ℕ) (x y : ℕ) → x ≢ y → count_by (λ v. v == x) xs + count_by (λ v. v == y) xs ≤ length xs
both_counted [] x y apart = omega arith
both_counted (v ∷ xs) x y apart =
    by (v == x) (v == y) refl refl (both_counted xs x y apart)
  where
    by : (b e : Bool) → (v == x) ≡ b → (v == y) ≡ e
        → count_by (λ w. w == x) xs + count_by (λ w. w == y) xs ≤ length xs
        → count_by (λ w. w == x) (v ∷ xs) + count_by (λ w. w == y) (v ∷ xs) ≤ length (v ∷ xs)
    by true true one other rest = absurd (apart (sym ((Decides-eqb v x).0 one) ∙ (Decides-eqb v y).0 other))
    by true false one other rest = omega (arith, rest, counted x v xs true one, counted y v xs false other)
    by false true one other rest = omega (arith, rest, counted x v xs false one, counted y v xs true other)
    by false false one other rest = omega (arith, rest, counted x v xs false one, counted y v xs false other)

-- of three arguments or more at most one value is all but at most one
one_most : (xs : List ℕ) (x y : ℕ) → 3 ≤ length xs → IsMost xs x → IsMost xs y → x ≡ y
one_most xs x y enough x_most y_most = by (x == y) refl
  where
    by : (b : Bool) → (x == y) ≡ b → x ≡ y
    by true same = (Decides-eqb x y).0 same
    by false apart =
        let differ : x ≢ y = λ same. true≢false (sym ((Decides-eqb x y).1 same) ∙ apart) in
        absurd (omega (arith, both_counted xs x y differ))

-- the test of the definition
abbrev is_most : List ℕ → ℕ → Bool
is_most xs x = nat_le (length xs) (count_by (λ y. y == x) xs + 1)

-- what all but at most one are is what they force
pub most_forced : (xs : List ℕ) (x : ℕ) → 3 ≤ length xs → IsMost xs x → forced_value xs ≡ Some x
unfolding forced_value
most_forced xs x enough most = by (find (is_most xs) xs) refl
  where
    by : (r : Option ℕ) → find (is_most xs) xs ≡ r → r ≡ Some x
    by None none =
        let passes : is_most xs x ≡ true = le_to (length xs) (count_by (λ y. y == x) xs + 1) most in
        let never : count_by (λ y. y == x) xs ≡ 0 = find_none (is_most xs) xs x passes none in
        absurd (omega arith)
    by (Some y) found =
        let passes : is_most xs y ≡ true = find_passes (is_most xs) xs y found in
        ap Some (one_most xs y x enough (le_from (length xs) (count_by (λ v. v == y) xs + 1) passes) most)

-- the first place whose argument is all of the k but at most one
pub forced_at :
    (k : ℕ) (xs : List ℕ) (i x : ℕ)
    → length xs ≡ k
    → i < k
    → x ≡ get_or xs i 0
    → k ≤ count_by (λ y. y == x) xs + 1
    → ((j : ℕ) → j < i → count_by (λ y. y == get_or xs j 0) xs + 1 < k)
    → forced_value xs ≡ Some x
unfolding forced_value
forced_at k xs i x long inside here most before =
    let passes : is_most xs (get_or xs i 0) ≡ true
    = subst (λ (v : ℕ). is_most xs v ≡ true) here (le_to (length xs) (count_by (λ y. y == x) xs + 1) (rw long most)) in
    let fails : (j : ℕ) → j < i → is_most xs (get_or xs j 0) ≡ false
    = λ j less. le_not (length xs) (count_by (λ y. y == get_or xs j 0) xs + 1) (rw long (before j less)) in
    find_at (is_most xs) xs i (rw long inside) passes fails ∙ ap Some (sym here)

-- no place has such an argument
pub forced_nowhere :
    (k : ℕ) (xs : List ℕ)
    → length xs ≡ k
    → ((j : ℕ) → j < k → count_by (λ y. y == get_or xs j 0) xs + 1 < k)
    → forced_value xs ≡ None
unfolding forced_value
forced_nowhere k xs long none =
    find_nowhere (is_most xs) xs
    (λ j inside. le_not (length xs) (count_by (λ y. y == get_or xs j 0) xs + 1) (rw long (none j (rw (← long) inside))))
