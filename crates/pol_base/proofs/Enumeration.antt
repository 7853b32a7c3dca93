-- All lists of k numbers below n, one after another.
use Rattle.std.proofs.Common.{◌≡◌, ℕ, zero, suc, ◌+◌, ◌^◌, ◌<◌, List, arith, sym, ◌∙◌, subst, ◌⊎◌, inl, inr, replicate, refl}
use Rattle.std.proofs.lemmas.Bool.{cases_eq}
use Rattle.pol_base.specs.Tuples.{IsTuple, cell_of}
use Rattle.pol_base.specs.Least.{IsLeast}
use Rattle.pol_base.proofs.CellLemmas.{cell_of-below, digits_of-cell_of, cell_of-before}

-- one list for each number
pub same_list :
    (d n : ℕ) (xs ys : List ℕ)
    → IsTuple d n xs
    → IsTuple d n ys
    → cell_of d xs ≡ cell_of d ys
    → xs ≡ ys
same_list d n xs ys tx ty e =
    sym (digits_of-cell_of d xs tx.below) ∙ rw (tx.long, e, ← ty.long) (digits_of-cell_of d ys ty.below)

pub first_list : (d n : ℕ) → cell_of d (replicate n 0) ≡ 0
first_list d zero = refl
first_list d (suc n) = omega (arith, first_list d n)

module _ (n k : ℕ) (P : List ℕ → Type 0) (now : List ℕ) (tuple : IsTuple n k now)
    (before : (qs : List ℕ) → IsTuple n k qs → cell_of n qs < cell_of n now → P qs) where
  pub one_more : P now → (qs : List ℕ) → IsTuple n k qs → cell_of n qs < cell_of n now + 1 → P qs
  one_more here qs q h = at (cases_eq (cell_of n qs) (cell_of n now))
    where
      at : (cell_of n qs ≡ cell_of n now) ⊎ (cell_of n qs ≡ cell_of n now → ⊥) → P qs
      at (inl e) = let Q : List ℕ → Type 0 = P in subst Q (sym (same_list n k qs now q tuple e)) here
      at (inr ne) = before qs q (omega arith)

  pub all_lists : P now → cell_of n now + 1 ≡ n ^ k → (qs : List ℕ) → IsTuple n k qs → P qs
  all_lists here last qs q = one_more here qs q (rw (last, ← q.long) (cell_of-below n qs q.below))

-- the first list that is met is the least
pub least_now :
    (n k : ℕ) (P : List ℕ → Type 0) (now : List ℕ)
    → ((qs : List ℕ) → P qs → IsTuple n k qs)
    → ((qs : List ℕ) → IsTuple n k qs → cell_of n qs < cell_of n now → P qs → ⊥)
    → P now
    → IsLeast P now
least_now n k P now tuples before here = record {
  holds = here;
  first = λ ys long other earlier.
      let lower = cell_of-before n ys now long (tuples ys other).below (tuples now here).below earlier in
      before ys (tuples ys other) lower other;
}
