-- Equations that multipliers add up to 0 equal to another number have no common solution.
use Rattle.std.proofs.Common.{◌≡◌, ℕ, zero, suc, ◌+◌, ◌*◌, ◌%◌, ◌<◌, ◌≤◌, List, [], ◌∷◌, length, get_or, map, All, refl, sym, ap, ◌∙◌, arith}
use Rattle.std.proofs.Math.Nat.{zero-mod}
use Rattle.std.proofs.lemmas.List.Elements.{All-head, All-tail}
use Rattle.pol_modp.specs.Equations.{EquationView, IsEquation, dot, MeetsEquation, coefs_at, rights_of, IsClash}
use Rattle.pol_modp.proofs.Modular.{add_same, mul_same, add_zero, mul_zero_left}

-- f 0 + .. + f (n - 1)
abbrev pub sum_below : ℕ → (ℕ → ℕ) → ℕ
sum_below zero f = 0
sum_below (suc n) f = sum_below n f + f n

pub sum_below-same : (n : ℕ) (f g : ℕ → ℕ) → ((v : ℕ) → f v ≡ g v) → sum_below n f ≡ sum_below n g
sum_below-same zero f g same = refl
sum_below-same (suc n) f g same = let rest = sum_below-same n f g same in let last = same n in omega (arith, rest, last)

pub sum_below-add : (n : ℕ) (f g : ℕ → ℕ) → sum_below n (λ v. f v + g v) ≡ sum_below n f + sum_below n g
sum_below-add zero f g = refl
sum_below-add (suc n) f g = let rest = sum_below-add n f g in omega (arith, rest)

pub sum_below-mul : (n k : ℕ) (f : ℕ → ℕ) → sum_below n (λ v. k * f v) ≡ k * sum_below n f
sum_below-mul zero k f = by k
  where
    by : (k : ℕ) → 0 ≡ k * 0
    by k = grind arith
sum_below-mul (suc n) k f = step (sum_below n (λ v. k * f v)) (sum_below n f) (f n) (sum_below-mul n k f)
  where
    step : (a b c : ℕ) → a ≡ k * b → a + k * c ≡ k * (b + c)
    step a b c same = grind arith

pub sum_below-zero : (n : ℕ) (f : ℕ → ℕ) → ((v : ℕ) → f v ≡ 0) → sum_below n f ≡ 0
sum_below-zero zero f zeros = refl
sum_below-zero (suc n) f zeros = let rest = sum_below-zero n f zeros in let last = zeros n in omega (arith, rest, last)

-- the first term apart
pub sum_below-first : (n : ℕ) (f : ℕ → ℕ) → sum_below (suc n) f ≡ f 0 + sum_below n (λ v. f (suc v))
sum_below-first zero f = plain (f 0)
  where
    plain : (a : ℕ) → 0 + a ≡ a + 0
    plain a = omega arith
sum_below-first (suc n) f = let rest = sum_below-first n f in omega (arith, rest)

-- terms with a factor that is 0 modulo p
pub sum_below-vanishes : (p n : ℕ) (f g : ℕ → ℕ) → ((v : ℕ) → v < n → f v % p ≡ 0) → sum_below n (λ v. f v * g v) % p ≡ 0
sum_below-vanishes p zero f g zeros = zero-mod p
sum_below-vanishes p (suc n) f g zeros = add_zero p (sum_below n (λ v. f v * g v)) (f n * g n) (sum_below-vanishes p n f g (λ v inside. zeros v (omega arith))) (mul_zero_left p (f n) (g n) (zeros n (omega arith)))

-- the products of the equation's coefficients, one for each variable
pub dot-sum_below : (xs ys : List ℕ) (n : ℕ) → length xs ≤ n → dot xs ys ≡ sum_below n (λ v. get_or xs v 0 * get_or ys v 0)
dot-sum_below [] ys n long = sym (sum_below-zero n (λ v. 0 * get_or ys v 0) (λ v. by (get_or ys v 0)))
  where
    by : (a : ℕ) → 0 * a ≡ 0
    by a = grind arith
dot-sum_below (x ∷ xs) ys zero long = absurd (omega arith)
dot-sum_below (x ∷ xs) [] (suc n) long = sym (sum_below-zero (suc n) (λ v. get_or (x ∷ xs) v 0 * 0) (λ v. by (get_or (x ∷ xs) v 0)))
  where
    by : (a : ℕ) → a * 0 ≡ 0
    by a = grind arith
dot-sum_below (x ∷ xs) (y ∷ ys) (suc n) long =
    ap (λ s. x * y + s) (dot-sum_below xs ys n (omega arith)) ∙ sym (sum_below-first n (λ v. get_or (x ∷ xs) v 0 * get_or (y ∷ ys) v 0))

-- the sums over equations and over variables can change places
pub exchange : (n : ℕ) (multipliers : List ℕ) (equations : List EquationView) (x : List ℕ) → All (λ (e : EquationView). length e.coefs ≤ n) equations
    → dot multipliers (map (λ (e : EquationView). dot e.coefs x) equations) ≡ sum_below n (λ v. dot multipliers (coefs_at v equations) * get_or x v 0)
exchange n [] equations x long = sym (sum_below-zero n (λ v. 0 * get_or x v 0) (λ v. by (get_or x v 0)))
  where
    by : (a : ℕ) → 0 * a ≡ 0
    by a = grind arith
exchange n (m ∷ ms) [] x long = sym (sum_below-zero n (λ v. 0 * get_or x v 0) (λ v. by (get_or x v 0)))
  where
    by : (a : ℕ) → 0 * a ≡ 0
    by a = grind arith
exchange n (m ∷ ms) (e ∷ es) x long =
    let rest = exchange n ms es x (All-tail (λ (e : EquationView). length e.coefs ≤ n) e es long) in
    let here = dot-sum_below e.coefs x n (All-head (λ (e : EquationView). length e.coefs ≤ n) e es long) in
    let f : ℕ → ℕ = λ v. get_or e.coefs v 0 * get_or x v 0 in
    let g : ℕ → ℕ = λ v. dot ms (coefs_at v es) * get_or x v 0 in
    ap (λ s. m * dot e.coefs x + s) rest ∙ (ap (λ s. m * s + sum_below n g) here ∙ (ap (λ s. s + sum_below n g) (sym (sum_below-mul n m f)) ∙ (sym (sum_below-add n (λ v. m * f v) g)
    ∙ sum_below-same n (λ v. m * f v + g v) (λ v. (m * get_or e.coefs v 0 + dot ms (coefs_at v es)) * get_or x v 0) (λ v. turn m (get_or e.coefs v 0) (get_or x v 0) (dot ms (coefs_at v es))))))
  where
    turn : (m a b c : ℕ) → m * (a * b) + c * b ≡ (m * a + c) * b
    turn m a b c = grind arith

-- of equations that are met, the sums of both sides are the same modulo p
pub sides_same : (p : ℕ) (multipliers : List ℕ) (equations : List EquationView) (x : List ℕ) → All (MeetsEquation p x) equations
    → dot multipliers (map (λ (e : EquationView). dot e.coefs x) equations) % p ≡ dot multipliers (rights_of equations) % p
sides_same p [] equations x meets = refl
sides_same p (m ∷ ms) [] x meets = refl
sides_same p (m ∷ ms) (e ∷ es) x meets =
    add_same p (m * dot e.coefs x) (m * e.right) (dot ms (map (λ (e : EquationView). dot e.coefs x) es)) (dot ms (rights_of es))
    (mul_same p m (dot e.coefs x) e.right (All-head (MeetsEquation p x) e es meets)) (sides_same p ms es x (All-tail (MeetsEquation p x) e es meets))

pub clash_refutes : (p n : ℕ) (equations : List EquationView) (multipliers x : List ℕ) → All (IsEquation p n) equations → IsClash p n equations multipliers → All (MeetsEquation p x) equations → ⊥
clash_refutes p n equations multipliers x are clash meets =
    let f : ℕ → ℕ = λ v. dot multipliers (coefs_at v equations) in
    let zeros = sum_below-vanishes p n f (λ v. get_or x v 0) clash.coefs_zero in
    let same = exchange n multipliers equations x (λ k d inside. omega (arith, (are k d inside).long)) in
    clash.right_nonzero (sym (sides_same p multipliers equations x meets) ∙ (ap (λ s. s % p) same ∙ zeros))
