-- The least list, also where one more list comes into question, and comparing lists.
use Rattle.std.proofs.Common.{◌≡◌, ℕ, ◌⊎◌, inl, inr, List, length, Option, Some, None, sym, ap, ◌∙◌, subst}
use Rattle.std.specs.Prelude.{◌↔◌, IsTrue}
use Rattle.std.specs.Cmp.Lexicographic.{slice_cmp}
use Rattle.std.specs.Ordering.{nat_cmp, is_lt}
use Rattle.std.proofs.lemmas.Bool.{true≢false}
use Rattle.pol_base.specs.Tuples.{IsBefore}
use Rattle.pol_base.specs.Least.{IsLeast, AnswersLeast}
use Rattle.pol_base.proofs.OrderLemmas.{IsBefore-trans, IsBefore-irrefl, order_of, slice_cmp-before, slice_cmp-same, slice_cmp-after}
use Rattle.pol_base.proofs.OrderLemmas.Order.{Before, Same, After}
use Rattle.pol_classify.specs.AffineTables.{IsAhead}

-- what the comparison of two lists of one length answers
pub before_told :
    (xs ys : List ℕ)
    → length xs ≡ length ys
    → IsTrue (is_lt (slice_cmp nat_cmp xs ys)) ↔ IsBefore xs ys
before_told xs ys long = (
  λ less. elim (order_of xs ys long) [
    | Before before ↦ before
    | Same same ↦ absurd (true≢false (sym less ∙ ap is_lt (slice_cmp-same xs ys same)))
    | After after ↦ absurd (true≢false (sym less ∙ ap is_lt (slice_cmp-after xs ys after)))
  ],
  λ before. ap is_lt (slice_cmp-before xs ys before),
)

module _ (P Q : List ℕ → Type 0) (more : (xs : List ℕ) → P xs → Q xs) where
  -- no list more comes into question
  pub least_kept :
      (best : Option (List ℕ))
      → ((xs : List ℕ) → Q xs → P xs)
      → AnswersLeast P best
      → AnswersLeast Q best
  least_kept None same none = λ xs q. none xs (same xs q)
  least_kept (Some best) same least = record {
    holds = more best least.holds;
    first = λ xs long q before. least.first xs long (same xs q) before;
  }

  module _ (new : List ℕ) (only : (xs : List ℕ) → Q xs → P xs ⊎ (xs ≡ new)) where
    -- a list more that does not come before the least one
    pub least_stays :
        (best : Option (List ℕ))
        → ¬ IsAhead new best
        → AnswersLeast P best
        → AnswersLeast Q best
    least_stays None behind none = absurd (behind tt)
    least_stays (Some best) behind least = record {
      holds = more best least.holds;
      first = λ xs long q before. elim (only xs q) [
        | inl p ↦ least.first xs long p before
        | inr is ↦ behind (subst (λ (zs : List ℕ). IsBefore zs best) is before)
      ];
    }

    -- a list more that does
    pub least_new :
        (best : Option (List ℕ))
        → ((xs ys : List ℕ) → Q xs → Q ys → length xs ≡ length ys)
        → Q new
        → IsAhead new best
        → AnswersLeast P best
        → IsLeast Q new
    least_new None one_length here ahead none = record {
      holds = here;
      first = λ xs long q before. elim (only xs q) [
        | inl p ↦ none xs p
        | inr is ↦ IsBefore-irrefl new (subst (λ (zs : List ℕ). IsBefore zs new) is before)
      ];
    }
    least_new (Some best) one_length here ahead least = record {
      holds = here;
      first = λ xs long q before. elim (only xs q) [
        | inl p ↦ least.first xs (one_length xs best q (more best least.holds)) p
            (IsBefore-trans xs new best before ahead)
        | inr is ↦ IsBefore-irrefl new (subst (λ (zs : List ℕ). IsBefore zs new) is before)
      ];
    }
