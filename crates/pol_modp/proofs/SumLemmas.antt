-- Loops that add up, or that look for the first that fails, as far as they have come.
use Rattle.std.proofs.Common.{◌≡◌, ℕ, zero, suc, ◌+◌, ◌<◌, ◌≤◌, Bool, true, ◌&&◌, eqb, List, [], ◌∷◌, length, get_or, take, if◌then◌else◌, refl, ap, ◌∙◌, arith}
use Rattle.pol_modp.specs.Combinations.{weight_at}
use Rattle.pol_modp.specs.Equations.{dot}
use Rattle.pol_modp.proofs.DotLemmas.{dot-comm, dot-take}

pub weight-more : (v : ℕ) (scope coefs : List ℕ) (i : ℕ) → i < length coefs → length coefs ≤ length scope
    → weight_at v (take (suc i) scope) (take (suc i) coefs) ≡ weight_at v (take i scope) (take i coefs) + (if eqb (get_or scope i 0) v then get_or coefs i 0 else 0)
weight-more v [] coefs i inside within = absurd (omega arith)
weight-more v (x ∷ scope) [] i inside within = absurd (omega arith)
weight-more v (x ∷ scope) (a ∷ coefs) zero inside within = by (if eqb x v then a else 0)
  where
    by : (b : ℕ) → b + 0 ≡ 0 + b
    by b = omega arith
weight-more v (x ∷ scope) (a ∷ coefs) (suc i) inside within = let rest = weight-more v scope coefs i (omega arith) (omega arith) in step (if eqb x v then a else 0) (weight_at v (take (suc i) scope) (take (suc i) coefs)) (weight_at v (take i scope) (take i coefs)) (if eqb (get_or scope i 0) v then get_or coefs i 0 else 0) rest
  where
    step : (b m n k : ℕ) → m ≡ n + k → b + m ≡ b + n + k
    step b m n k same = omega arith

pub weight-all : (v : ℕ) (scope coefs : List ℕ) (i : ℕ) → length coefs ≤ i → weight_at v (take i scope) (take i coefs) ≡ weight_at v scope coefs
weight-all v [] coefs zero all = refl
weight-all v [] coefs (suc i) all = refl
weight-all v (x ∷ scope) [] zero all = refl
weight-all v (x ∷ scope) [] (suc i) all = refl
weight-all v (x ∷ scope) (a ∷ coefs) zero all = absurd (omega arith)
weight-all v (x ∷ scope) (a ∷ coefs) (suc i) all = ap (λ s. (if eqb x v then a else 0) + s) (weight-all v scope coefs i (omega arith))

-- as far as the first list goes
pub dot-all : (xs ys : List ℕ) (i : ℕ) → length xs ≤ i → dot xs (take i ys) ≡ dot xs ys
dot-all xs ys i all = dot-comm xs (take i ys) ∙ (dot-take i ys xs all ∙ dot-comm ys xs)

-- the last of five tests, behind four that pass
pub last_test : (k m u r b : Bool) → k ≡ true → m ≡ true → u ≡ true → r ≡ true → b ≡ (k && m && u && r && b)
last_test k m u r b first second third fourth = rw (first, second, third, fourth) refl
