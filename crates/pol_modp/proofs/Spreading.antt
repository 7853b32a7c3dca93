-- Multipliers that are added up at the numbers of their sources.
use Rattle.std.proofs.Common.{◌≡◌, ℕ, ◌+◌, ◌*◌, List, [], ◌∷◌, ◌++◌, length, get_or, arith}
use Rattle.pol_modp.specs.Equations.{dot}
use Rattle.pol_modp.proofs.DotLemmas.{dot-nil}

-- one more number at the end of the second list
pub dot-push : (xs ys : List ℕ) (y : ℕ) → dot xs (ys ++ y ∷ []) ≡ dot xs ys + get_or xs (length ys) 0 * y
dot-push [] ys y = by y
  where
    by : (y : ℕ) → 0 ≡ 0 + 0 * y
    by y = grind arith
dot-push (x ∷ xs) [] y = by (x * y) (dot xs []) (dot-nil xs)
  where
    by : (a b : ℕ) → b ≡ 0 → a + b ≡ 0 + a
    by a b zeros = omega arith
dot-push (x ∷ xs) (z ∷ ys) y = let rest = dot-push xs ys y in step (x * z) (dot xs (ys ++ y ∷ [])) (dot xs ys) (get_or xs (length ys) 0 * y) rest
  where
    step : (b m n k : ℕ) → m ≡ n + k → b + m ≡ b + n + k
    step b m n k same = omega arith
