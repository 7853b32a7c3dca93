-- A list of one choice for each number, and how often a value stands in a list that has it at all places but one.
use Rattle.std.proofs.Common.{◌≡◌, ℕ, suc, zero, ◌+◌, ◌<◌, ◌≤◌, List, [], ◌∷◌, length, arith, ap, ◌∙◌, get_or, refl, cond}
use Rattle.std.specs.Prelude.{count_by, ◌==◌, ◌≢◌}
use Rattle.std.proofs.lemmas.Bool.{eq-eqb}
use Rattle.std.proofs.lemmas.List.Sums.{sum_by-cons}

-- one choice for each number below n, as the element at that place
pub choose :
    {X : Type 0} (Q : ℕ → X → Type 0) (n : ℕ)
    → ((i : ℕ) → i < n → (x : X) × Q i x)
    → (xs : List X) × (length xs ≡ n) × ((i : ℕ) (d : X) → i < n → Q i (get_or xs i d))
choose {X = X} Q zero pick = ([], refl, λ i d h. absurd (omega arith))
choose {X = X} Q (suc n) pick =
    let head = pick 0 (omega arith) in
    let rest = choose (λ i. Q (suc i)) n (λ i h. pick (suc i) (omega arith)) in
    (head.0 ∷ rest.0, ap suc rest.1, at head.0 rest.0 head.1 rest.2)
  where
    at : (x : X) (xs : List X) → Q 0 x → ((i : ℕ) (d : X) → i < n → Q (suc i) (get_or xs i d))
        → (i : ℕ) (d : X) → i < suc n → Q i (get_or (x ∷ xs) i d)
    at x xs first later zero d h = first
    at x xs first later (suc i) d h = later i d (omega arith)

-- one more element, the first
count_more : (y : ℕ) (ys : List ℕ) (x : ℕ)
    → count_by (λ z. z == x) (y ∷ ys) ≡ cond (y == x) 1 0 + count_by (λ z. z == x) ys
count_more y ys x = sum_by-cons (λ z. cond (z == x) 1 0) y ys

count_first : (y : ℕ) (ys : List ℕ) (x : ℕ) → y ≡ x → count_by (λ z. z == x) (y ∷ ys) ≡ 1 + count_by (λ z. z == x) ys
count_first y ys x same = count_more y ys x ∙ ap (λ b. cond b 1 0 + count_by (λ z. z == x) ys) (eq-eqb y x same)

-- a list that has one value at each place
count_all : (xs : List ℕ) (x : ℕ) → ((i : ℕ) → i < length xs → get_or xs i 0 ≡ x)
    → count_by (λ y. y == x) xs ≡ length xs
count_all [] x same = refl
count_all (y ∷ ys) x same =
    let rest : count_by (λ z. z == x) ys ≡ length ys = count_all ys x (λ i h. same (suc i) (omega arith)) in
    count_first y ys x (same 0 (omega arith)) ∙ omega (arith, rest)

-- and one that may have another at p
pub count_but_one : (xs : List ℕ) (x p : ℕ) → ((i : ℕ) → i < length xs → i ≢ p → get_or xs i 0 ≡ x)
    → length xs ≤ count_by (λ y. y == x) xs + 1
count_but_one [] x p same = omega arith
count_but_one (y ∷ ys) x zero same =
    let rest : count_by (λ z. z == x) ys ≡ length ys
    = count_all ys x (λ i h. same (suc i) (omega arith) (omega arith)) in
    omega (arith, count_more y ys x, rest)
count_but_one (y ∷ ys) x (suc p) same =
    let rest : length ys ≤ count_by (λ z. z == x) ys + 1
    = count_but_one ys x p (λ i h apart. same (suc i) (omega arith) (omega arith)) in
    omega (arith, count_first y ys x (same 0 (omega arith) (omega arith)), rest)
