-- Members of a list, also of mapped and filtered ones, and lists without repeats.
use Rattle.std.proofs.Common.{List, [], ◌∷◌, Contains, refl, arith, suc, ◌≡◌, ℕ, zero, ◌<◌, ◌⊎◌, inl, inr, length, get_or, AllPairs, All, map, sym, ap, ◌∙◌, subst, Bool, true, false, filter, ◌≢◌, ◌≤◌}
use Rattle.std.proofs.lemmas.Bool.{cases_Bool, cond-true, cond-false, true≢false}
use Rattle.std.proofs.lemmas.List.{length-map, get_or-map}
use Rattle.std.proofs.lemmas.List.Elements.{All-head, All-tail}

-- ---- members of a list with a first element

pub Contains-here : {X : Type 0} (x : X) (xs : List X) → Contains (x ∷ xs) x
Contains-here x xs = (0, omega arith, refl)

pub Contains-there : {X : Type 0} (y x : X) (xs : List X) → Contains xs x → Contains (y ∷ xs) x
Contains-there y x xs inside = (suc inside.0, omega arith, inside.2)

member_at : {X : Type 0} (y x : X) (xs : List X) (k : ℕ) → k < suc (length xs) → get_or (y ∷ xs) k x ≡ x → (y ≡ x) ⊎ Contains xs x
member_at y x xs zero within found = inl found
member_at y x xs (suc k) within found = inr (k, omega arith, found)

pub Contains-cons_cases : {X : Type 0} (y x : X) (xs : List X) → Contains (y ∷ xs) x → (y ≡ x) ⊎ Contains xs x
Contains-cons_cases y x xs inside = member_at y x xs inside.0 inside.1 inside.2

pub Contains-nil : {X : Type 0} (x : X) → Contains [] x → ⊥
Contains-nil x inside = omega arith

-- ---- what holds of each two elements

pub AllPairs-nil : {X : Type 0} (R : X → X → Type 0) → AllPairs R []
AllPairs-nil R = λ i j d less inside. absurd (omega arith)

pub AllPairs-head : {X : Type 0} (R : X → X → Type 0) (x : X) (xs : List X) → AllPairs R (x ∷ xs) → All (R x) xs
AllPairs-head R x xs pairs = λ k d inside. pairs 0 (suc k) d (omega arith) (omega arith)

pub AllPairs-tail : {X : Type 0} (R : X → X → Type 0) (x : X) (xs : List X) → AllPairs R (x ∷ xs) → AllPairs R xs
AllPairs-tail R x xs pairs = λ i j d less inside. pairs (suc i) (suc j) d (omega arith) (omega arith)

-- ---- mapped and filtered lists

pub in_map : {X Y : Type 0} (f : X → Y) (xs : List X) (x : X) → Contains xs x → Contains (map f xs) (f x)
in_map f xs x inside =
    (inside.0, subst (λ n. inside.0 < n) (sym (length-map xs f)) inside.1, get_or-map f xs inside.0 x (f x) inside.1 ∙ ap f inside.2)

pub in_filter : {X : Type 0} (test : X → Bool) (xs : List X) (x : X) → Contains xs x → test x ≡ true → Contains (filter test xs) x
in_filter test [] x inside passes = absurd (Contains-nil x inside)
in_filter {X = X} test (y ∷ xs) x inside passes = by (cases_Bool (test y)) (Contains-cons_cases y x xs inside) (λ behind. in_filter test xs x behind passes)
  where
    by : (test y ≡ true) ⊎ (test y ≡ false) → (y ≡ x) ⊎ Contains xs x → (Contains xs x → Contains (filter test xs) x) → Contains (filter test (y ∷ xs)) x
    by (inl kept) (inl same) behind = subst (λ (some : List X). Contains some x) (sym (cond-true (test y) (y ∷ filter test xs) (filter test xs) kept)) (subst (λ (z : X). Contains (y ∷ filter test xs) z) same (Contains-here y (filter test xs)))
    by (inl kept) (inr there) behind = subst (λ (some : List X). Contains some x) (sym (cond-true (test y) (y ∷ filter test xs) (filter test xs) kept)) (Contains-there y x (filter test xs) (behind there))
    by (inr left) (inl same) behind = absurd (true≢false (sym passes ∙ (sym (ap test same) ∙ left)))
    by (inr left) (inr there) behind = subst (λ (some : List X). Contains some x) (sym (cond-false (test y) (y ∷ filter test xs) (filter test xs) left)) (behind there)

-- ---- lists without repeats

-- a list without the first place of a member
abbrev without : {X : Type 0} → List X → ℕ → List X
without [] k = []
without (x ∷ xs) zero = xs
without (x ∷ xs) (suc k) = x ∷ without xs k

length-without : {X : Type 0} (xs : List X) (k : ℕ) → k < length xs → suc (length (without xs k)) ≡ length xs
length-without [] k inside = absurd (omega arith)
length-without (x ∷ xs) zero inside = refl
length-without (x ∷ xs) (suc k) inside = ap suc (length-without xs k (omega arith))

-- another member stays
still_in : {X : Type 0} (xs : List X) (k : ℕ) (x y : X) → k < length xs → get_or xs k x ≡ x → x ≢ y → Contains xs y → Contains (without xs k) y
still_in [] k x y inside found apart member = member
still_in (z ∷ xs) zero x y inside found apart member = by (Contains-cons_cases z y xs member)
  where
    by : (z ≡ y) ⊎ Contains xs y → Contains xs y
    by (inl same) = absurd (apart (sym found ∙ same))
    by (inr there) = there
still_in (z ∷ xs) (suc k) x y inside found apart member = by (Contains-cons_cases z y xs member) (still_in xs k x y (omega arith) found apart)
  where
    by : (z ≡ y) ⊎ Contains xs y → (Contains xs y → Contains (without xs k) y) → Contains (z ∷ without xs k) y
    by (inl same) behind = subst (λ other. Contains (z ∷ without xs k) other) same (Contains-here z (without xs k))
    by (inr there) behind = Contains-there z y (without xs k) (behind there)

-- a list without repeats is no longer than one that has all its members
pub no_longer : {X : Type 0} (xs ys : List X) → AllPairs (λ x y. x ≢ y) xs → All (Contains ys) xs → length xs ≤ length ys
no_longer [] ys apart inside = omega arith
no_longer {X = X} (x ∷ xs) ys apart inside =
    let member : Contains ys x = All-head (Contains ys) x xs inside in
    let others : All (Contains ys) xs = All-tail (Contains ys) x xs inside in
    let differ : All (λ y. x ≢ y) xs = AllPairs-head (λ (a b : X). a ≢ b) x xs apart in
    let rest = no_longer xs (without ys member.0) (AllPairs-tail (λ (a b : X). a ≢ b) x xs apart) (λ k d within. still_in ys member.0 x (get_or xs k d) member.1 member.2 (differ k d within) (others k d within)) in
    omega (arith, length-without ys member.0 member.1)
