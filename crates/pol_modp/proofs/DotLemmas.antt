-- Sums of products, and what a change of one place makes of them.
use Rattle.std.proofs.Common.{◌≡◌, ℕ, zero, suc, ◌+◌, ◌*◌, ◌%◌, ◌<◌, ◌≤◌, List, [], ◌∷◌, ◌++◌, length, get_or, set, take, refl, sym, ap, ◌∙◌, arith}
use Rattle.std.specs.Prelude.{replicate}
use Rattle.std.proofs.lemmas.Nat.{mul-mod_second}
use Rattle.std.proofs.lemmas.List.{length-set, length-replicate}
use Rattle.pol_modp.specs.Equations.{dot}
use Rattle.pol_modp.proofs.Modular.{add_same}

pub dot-nil : (xs : List ℕ) → dot xs [] ≡ 0
dot-nil [] = refl
dot-nil (x ∷ xs) = refl

pub dot-comm : (xs ys : List ℕ) → dot xs ys ≡ dot ys xs
dot-comm [] ys = sym (dot-nil ys)
dot-comm (x ∷ xs) [] = refl
dot-comm (x ∷ xs) (y ∷ ys) = turn x y (dot xs ys) (dot ys xs) (dot-comm xs ys)
  where
    turn : (x y a b : ℕ) → a ≡ b → x * y + a ≡ y * x + b
    turn x y a b same = grind arith

pub dot-append : (xs us ys vs : List ℕ) → length xs ≡ length ys → dot (xs ++ us) (ys ++ vs) ≡ dot xs ys + dot us vs
dot-append [] us [] vs long = plain (dot us vs)
  where
    plain : (a : ℕ) → a ≡ 0 + a
    plain a = omega arith
dot-append [] us (y ∷ ys) vs long = absurd (omega arith)
dot-append (x ∷ xs) us [] vs long = absurd (omega arith)
dot-append (x ∷ xs) us (y ∷ ys) vs long = let rest = dot-append xs us ys vs (omega arith) in omega (arith, rest)

-- what stands behind the end of the other list does not count
pub dot-front : (xs us ys : List ℕ) → length ys ≤ length xs → dot (xs ++ us) ys ≡ dot xs ys
dot-front [] us [] long = dot-nil us
dot-front [] us (y ∷ ys) long = absurd (omega arith)
dot-front (x ∷ xs) us [] long = refl
dot-front (x ∷ xs) us (y ∷ ys) long = ap (λ s. x * y + s) (dot-front xs us ys (omega arith))

pub dot-zeros : (xs : List ℕ) (n : ℕ) → dot xs (replicate n 0) ≡ 0
dot-zeros [] n = refl
dot-zeros (x ∷ xs) zero = refl
dot-zeros (x ∷ xs) (suc n) = let rest = dot-zeros xs n in step x (dot xs (replicate n 0)) rest
  where
    step : (x a : ℕ) → a ≡ 0 → x * 0 + a ≡ 0
    step x a same = grind arith

-- a row of zeros with one number behind them
pub dot-last : (k a : ℕ) (ys : List ℕ) → dot (replicate k 0 ++ a ∷ []) ys ≡ a * get_or ys k 0
dot-last zero a [] = by a
  where
    by : (a : ℕ) → 0 ≡ a * 0
    by a = grind arith
dot-last zero a (y ∷ ys) = by (a * y)
  where
    by : (a : ℕ) → a + 0 ≡ a
    by a = omega arith
dot-last (suc k) a [] = by a
  where
    by : (a : ℕ) → 0 ≡ a * 0
    by a = grind arith
dot-last (suc k) a (y ∷ ys) = step y (dot (replicate k 0 ++ a ∷ []) ys) (a * get_or ys k 0) (dot-last k a ys)
  where
    step : (y a b : ℕ) → a ≡ b → 0 * y + a ≡ b
    step y a b same = grind arith

-- a list of zeros, but for a 1 at one place
pub unit : ℕ → ℕ → List ℕ
unit n v = set (replicate n 0) v 1

pub length-unit : (n v : ℕ) → length (unit n v) ≡ n
unfolding unit
length-unit n v = length-set (replicate n 0) v 1 ∙ length-replicate n 0

pub dot-unit : (xs : List ℕ) (n v : ℕ) → v < n → dot xs (unit n v) ≡ get_or xs v 0
unfolding unit
dot-unit [] n v inside = refl
dot-unit (x ∷ xs) zero v inside = absurd (omega arith)
dot-unit (x ∷ xs) (suc n) zero inside = step x (dot xs (replicate n 0)) (dot-zeros xs n)
  where
    step : (x a : ℕ) → a ≡ 0 → x * 1 + a ≡ x
    step x a same = grind arith
dot-unit (x ∷ xs) (suc n) (suc v) inside = step x (dot xs (unit n v)) (get_or xs v 0) (dot-unit xs n v (omega arith))
  where
    step : (x a b : ℕ) → a ≡ b → x * 0 + a ≡ b
    step x a b same = grind arith

-- one place grows modulo p
pub dot-raise : (p : ℕ) (xs ys : List ℕ) (c k : ℕ) → c < length ys → dot xs (set ys c ((get_or ys c 0 + k) % p)) % p ≡ (dot xs ys + get_or xs c 0 * k) % p
dot-raise p [] ys c k inside = ap (λ a. a % p) (plain k)
  where
    plain : (k : ℕ) → 0 ≡ 0 + 0 * k
    plain k = grind arith
dot-raise p (x ∷ xs) [] c k inside = absurd (omega arith)
dot-raise p (x ∷ xs) (y ∷ ys) zero k inside =
    add_same p (x * ((y + k) % p)) (x * (y + k)) (dot xs ys) (dot xs ys) (mul-mod_second x (y + k) p) refl ∙ ap (λ a. a % p) (turn x y k (dot xs ys))
  where
    turn : (x y k a : ℕ) → x * (y + k) + a ≡ x * y + a + x * k
    turn x y k a = grind arith
dot-raise p (x ∷ xs) (y ∷ ys) (suc c) k inside =
    add_same p (x * y) (x * y) (dot xs (set ys c ((get_or ys c 0 + k) % p))) (dot xs ys + get_or xs c 0 * k) refl (dot-raise p xs ys c k (omega arith)) ∙ ap (λ a. a % p) (turn (x * y) (dot xs ys) (get_or xs c 0 * k))
  where
    turn : (a b c : ℕ) → a + (b + c) ≡ a + b + c
    turn a b c = omega arith

-- a sum of products as far as a loop has come

pub dot-more : (xs ys : List ℕ) (i : ℕ) → i < length xs → i < length ys → dot (take (suc i) xs) (take (suc i) ys) ≡ dot (take i xs) (take i ys) + get_or xs i 0 * get_or ys i 0
dot-more [] ys i first second = absurd (omega arith)
dot-more (x ∷ xs) [] i first second = absurd (omega arith)
dot-more (x ∷ xs) (y ∷ ys) zero first second = by (x * y)
  where
    by : (a : ℕ) → a + 0 ≡ 0 + a
    by a = omega arith
dot-more (x ∷ xs) (y ∷ ys) (suc i) first second = let rest = dot-more xs ys i (omega arith) (omega arith) in omega (arith, rest)

pub dot-take : (n : ℕ) (xs ys : List ℕ) → length ys ≤ n → dot (take n xs) ys ≡ dot xs ys
dot-take zero xs [] long = sym (dot-nil xs)
dot-take zero xs (y ∷ ys) long = absurd (omega arith)
dot-take (suc n) [] ys long = refl
dot-take (suc n) (x ∷ xs) [] long = refl
dot-take (suc n) (x ∷ xs) (y ∷ ys) long = ap (λ s. x * y + s) (dot-take n xs ys (omega arith))
