-- Walks over the pairs of a nogood, and over a row beside its scope.
use Rattle.std.proofs.Common.{◌≡◌, ℕ, ◌+◌, ◌⊎◌, inl, inr, Bool, true, false, List, [], ◌∷◌, get_or, take, Some, slice_get, refl, ap, ◌∙◌}
use Rattle.std.specs.List.{list_any, list_all}
use Rattle.std.proofs.lemmas.Bool.{and_from}
use Rattle.std.proofs.lemmas.List.Folds.{list_all_more, list_any_at, list_all_at}
use Rattle.std.proofs.lemmas.Option.{get_or_from_slice_get, slice_get_within}
use Rattle.pol_nogood.specs.Logs.{reading}

-- a test of each element, as far as a loop has come
module _ {X : Type 0} (test : X → Bool) (xs : List X) where
  at_read : (i : ℕ) (x : X) (b : Bool) → slice_get xs i ≡ Some x → test x ≡ b → test (get_or xs i x) ≡ b
  at_read i x b read is = ap test (get_or_from_slice_get xs i x x read) ∙ is

  pub any_found : (i : ℕ) (x : X) → slice_get xs i ≡ Some x → test x ≡ true → list_any test xs ≡ true
  any_found i x read passes = list_any_at test xs i x (slice_get_within xs i x read) (at_read i x true read passes)

  pub all_more : (i : ℕ) (x : X) → slice_get xs i ≡ Some x → list_all test (take i xs) ≡ true → test x ≡ true → list_all test (take (i + 1) xs) ≡ true
  all_more i x read all passes = list_all_more test xs i x (slice_get_within xs i x read) ∙ and_from (list_all test (take i xs)) (test (get_or xs i x)) all (at_read i x true read passes)

  pub all_fails : (i : ℕ) (x : X) → slice_get xs i ≡ Some x → test x ≡ false → list_all test xs ≡ false
  all_fails i x read fails = list_all_at test xs i x (slice_get_within xs i x read) (at_read i x false read fails)

-- a walk over a scope and a row ends with either
pub reading-ended : (scope row : List ℕ) → (scope ≡ []) ⊎ (row ≡ []) → reading scope row ≡ []
reading-ended scope row (inl none) = ap (λ some. reading some row) none
reading-ended scope row (inr none) = ap (reading scope) none ∙ by scope
  where
    by : (scope : List ℕ) → reading scope [] ≡ []
    by [] = refl
    by (x ∷ scope) = refl
