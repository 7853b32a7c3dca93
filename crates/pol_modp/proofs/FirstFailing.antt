-- One test for all of a list, in the words of its members, and the first that fails it.
use Rattle.std.proofs.Common.{◌≡◌, ℕ, zero, suc, ◌+◌, ◌<◌, Bool, true, false, ◌&&◌, List, [], ◌∷◌, length, get_or, take, Option, Some, None, All, if◌then◌else◌, refl, sym, ap, subst, ◌∙◌, arith}
use Rattle.std.specs.Prelude.{option_map}
use Rattle.std.specs.List.{list_all}
use Rattle.std.proofs.lemmas.Bool.{and_parts, and_from}
use Rattle.std.proofs.lemmas.List.Elements.{All-weaker}
use Rattle.std.proofs.lemmas.List.Folds.{list_all_more}
use Rattle.std.proofs.lemmas.List.Sums.{AllPass-from_list_all, list_all-from_AllPass}
use Rattle.std.proofs.lemmas.Option.{none-some, same_Some}
use Rattle.pol_modp.specs.CombinationFaults.{first_failing}

pub All-from_list_all : {X : Type 0} (test : X → Bool) (P : X → Type 0) → ((x : X) → test x ≡ true → P x) → (xs : List X) → list_all test xs ≡ true → All P xs
All-from_list_all test P says xs passes = All-weaker (λ x. test x ≡ true) P says xs (AllPass-from_list_all test xs passes)

pub list_all-from_All : {X : Type 0} (test : X → Bool) (P : X → Type 0) → ((x : X) → P x → test x ≡ true) → (xs : List X) → All P xs → list_all test xs ≡ true
list_all-from_All test P passes xs holds = list_all-from_AllPass test xs (All-weaker P (λ x. test x ≡ true) passes xs holds)

-- one more passes
pub all-next : {X : Type 0} (test : X → Bool) (xs : List X) (i : ℕ) (d : X) → i < length xs → list_all test (take i xs) ≡ true → test (get_or xs i d) ≡ true → list_all test (take (i + 1) xs) ≡ true
all-next test xs i d inside all passes = list_all_more test xs i d inside ∙ and_from (list_all test (take i xs)) (test (get_or xs i d)) all passes

-- all pass where none is the first that fails

pub first_failing-none : {X : Type 0} (test : X → Bool) (xs : List X) → first_failing test xs ≡ None → list_all test xs ≡ true
first_failing-none test [] none = refl
first_failing-none test (x ∷ xs) none = by (test x) (first_failing test xs) none (first_failing-none test xs)
  where
    by : (b : Bool) (found : Option ℕ) → (if b then option_map (λ k. k + 1) found else Some 0) ≡ None → (found ≡ None → list_all test xs ≡ true) → (b && list_all test xs) ≡ true
    by false found none rest = absurd (none-some 0 (sym none))
    by true None none rest = rest refl
    by true (Some k) none rest = absurd (none-some (k + 1) (sym none))

pub first_failing-all : {X : Type 0} (test : X → Bool) (xs : List X) → list_all test xs ≡ true → first_failing test xs ≡ None
first_failing-all test [] all = refl
first_failing-all test (x ∷ xs) all =
    let parts = and_parts (test x) (list_all test xs) all in
    ap (λ b. if b then option_map (λ k. k + 1) (first_failing test xs) else Some 0) parts.0 ∙ ap (option_map (λ k. k + 1)) (first_failing-all test xs parts.1)

-- the first that fails, behind those that pass
pub first_failing-at : {X : Type 0} (test : X → Bool) (xs : List X) (i : ℕ) (d : X) → i < length xs → list_all test (take i xs) ≡ true → test (get_or xs i d) ≡ false → first_failing test xs ≡ Some i
first_failing-at test [] i d inside before fails = absurd (omega arith)
first_failing-at test (x ∷ xs) zero d inside before fails = ap (λ b. if b then option_map (λ k. k + 1) (first_failing test xs) else Some 0) fails
first_failing-at test (x ∷ xs) (suc i) d inside before fails =
    let parts = and_parts (test x) (list_all test (take i xs)) before in
    let one : i + 1 ≡ suc i = omega arith in
    ap (λ b. if b then option_map (λ k. k + 1) (first_failing test xs) else Some 0) parts.0 ∙ (ap (option_map (λ k. k + 1)) (first_failing-at test xs i d (omega arith) parts.1 fails) ∙ ap Some one)

-- what the number of the first that fails says
pub record IsFirstFailing {X : Type 0} (test : X → Bool) (xs : List X) (k : ℕ) (d : X) : Type 0 where
  pub known : k < length xs
  pub before : list_all test (take k xs) ≡ true
  pub here : test (get_or xs k d) ≡ false

pub first_failing-some : {X : Type 0} (test : X → Bool) (xs : List X) (k : ℕ) (d : X) → first_failing test xs ≡ Some k → IsFirstFailing test xs k d
first_failing-some test [] k d found = absurd (none-some k found)
first_failing-some test (x ∷ xs) k d found = by (test x) refl (first_failing test xs) refl found (λ j rest. first_failing-some test xs j d rest)
  where
    by : (passes : Bool) → test x ≡ passes → (rest : Option ℕ) → first_failing test xs ≡ rest → (if passes then option_map (λ j. j + 1) rest else Some 0) ≡ Some k → ((j : ℕ) → first_failing test xs ≡ Some j → IsFirstFailing test xs j d) → IsFirstFailing test (x ∷ xs) k d
    by false fails rest same found onwards =
        let here : 0 ≡ k = same_Some 0 k found in
        subst (λ (m : ℕ). IsFirstFailing test (x ∷ xs) m d) here (record { known = omega arith; before = refl; here = fails })
    by true passes None same found onwards = absurd (none-some k found)
    by true passes (Some j) same found onwards =
        let here : j + 1 ≡ k = same_Some (j + 1) k found in
        let next : suc j ≡ k = omega (arith, here) in
        let behind = onwards j same in
        subst (λ (m : ℕ). IsFirstFailing test (x ∷ xs) m d) next (record { known = omega (arith, behind.known); before = and_from (test x) (list_all test (take j xs)) passes behind.before; here = behind.here })
