-- How many values stand in a class, and how many pairs of values stand together.
use Rattle.std.proofs.Common.{ℕ, suc, zero, ◌+◌, ◌<◌, ◌≤◌, ◌≡◌, Bool, cond, arith, ◌⊎◌, inl, inr}
use Rattle.std.proofs.lemmas.Bool.{cases_lt}
use Rattle.pol_rows.specs.Signatures.{sum_below, count_triples}
use Rattle.pol_rows.proofs.SizeLemmas.{sum_below-le}

-- one term is at most the sum
pub term-le-sum : (n k : ℕ) (f : ℕ → ℕ) → k < n → f k ≤ sum_below n f
term-le-sum zero k f low = absurd (omega (arith, low))
term-le-sum (suc n) k f low = at (cases_lt k n) (λ less. term-le-sum n k f less)
  where
    at : (k < n) ⊎ (n ≤ k) → (k < n → f k ≤ sum_below n f) → f k ≤ sum_below n f + f n
    at (inl less) more = omega (arith, more less)
    at (inr most) more = let same : k ≡ n = omega (arith, most, low) in rw same (omega arith)

-- the values that stand with themselves are at most the pairs that stand together
pub singles-le : (n d : ℕ) (test : ℕ → ℕ → ℕ → Bool) → sum_below n (λ i. sum_below d (λ a. cond (test i a a) 1 0)) ≤ count_triples n d test
singles-le n d test =
    sum_below-le n _ _ (λ i low. sum_below-le d (λ a. cond (test i a a) 1 0) (λ a. sum_below d (λ b. cond (test i a b) 1 0)) (λ a a_low. term-le-sum d a (λ b. cond (test i a b) 1 0) a_low))
