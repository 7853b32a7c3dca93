-- Near unanimity operations obey their rules.
use Rattle.std.proofs.Common.{◌≡◌, ℕ, ◌+◌, ◌^◌, ◌<◌, ◌≤◌, List, [], ◌∷◌, length, sym}
use Rattle.std.proofs.Common.{◌∙◌, subst, refl, Bool, true}
use Rattle.std.proofs.Common.{false, cond, Option, Some, None, All, inl, inr}
use Rattle.std.specs.Prelude.{◌==◌, nat_le}
use Rattle.std.specs.List.{count_by, find}
use Rattle.std.proofs.lemmas.Bool.{true≢false}
use Rattle.std.proofs.lemmas.Bool.Decides.{leb_tells}
use Rattle.std.proofs.lemmas.Option.{none-some, same_Some}
use Rattle.std.proofs.lemmas.List.Elements.{All-head, All-tail}
use Rattle.pol_base.specs.Tuples.{IsTuple, cell_of, digits_of}
use Rattle.pol_base.proofs.CellLemmas.{digits_of-IsTuple}
use Rattle.pol_optable.specs.Operations.{Operation}
use Rattle.pol_optable.specs.Identities.{IsNearUnanimity}
use Rattle.pol_optable.specs.Tables.{IsOpTable}
use Rattle.pol_identity.specs.Rules.{Obeys, ObeysAll, IsRule}
use Rattle.pol_identity.specs.NearUnanimityRule.{forced_value, rule_to, near_unanimity_rule}
use Rattle.pol_identity.specs.CellLaws.{obeys_by_digits}

-- what is found passes the test
pub find_passes : (test : ℕ → Bool) (xs : List ℕ) (x : ℕ) → find test xs ≡ Some x → test x ≡ true
find_passes test [] x found = absurd (none-some x found)
find_passes test (y ∷ xs) x found = by (test y) refl found (find_passes test xs x)
  where
    by : (b : Bool) → test y ≡ b → cond b (Some y) (find test xs) ≡ Some x
        → (find test xs ≡ Some x → test x ≡ true)
        → test x ≡ true
    by true passes here behind = subst (λ (v : ℕ). test v ≡ true) (same_Some y x here) passes
    by false fails there behind = behind there

-- what is found is one of the list
find_within : (test : ℕ → Bool) (P : ℕ → Type 0) (xs : List ℕ) (x : ℕ) → All P xs
    → find test xs ≡ Some x → P x
find_within test P [] x all found = absurd (none-some x found)
find_within test P (y ∷ xs) x all found = by (test y) found (find_within test P xs x (All-tail P y xs all))
  where
    by : (b : Bool) → cond b (Some y) (find test xs) ≡ Some x → (find test xs ≡ Some x → P x) → P x
    by true here behind = subst P (same_Some y x here) (All-head P y xs all)
    by false there behind = behind there

-- the test passes only where it is so
pub le_from : (m n : ℕ) → nat_le m n ≡ true → m ≤ n
le_from m n passes = elim (leb_tells m n) [
  | inl at_most ↦ at_most.1
  | inr above ↦ absurd (true≢false (sym passes ∙ above.0))
]

-- all arguments but at most one are the value that they force
pub forced_most : (arguments : List ℕ) (x : ℕ) → forced_value arguments ≡ Some x
    → length arguments ≤ count_by (λ y. y == x) arguments + 1
unfolding forced_value
forced_most arguments x forced =
    le_from (length arguments) (count_by (λ y. y == x) arguments + 1)
    (find_passes (λ v. nat_le (length arguments) (count_by (λ y. y == v) arguments + 1)) arguments x forced)

-- the value that arguments force is one of them
pub forced_within : (P : ℕ → Type 0) (arguments : List ℕ) (x : ℕ) → All P arguments
    → forced_value arguments ≡ Some x
    → P x
unfolding forced_value
forced_within P arguments x all forced =
    find_within (λ v. nat_le (length arguments) (count_by (λ y. y == v) arguments + 1)) P arguments x all forced

-- a rule names a value of the domain
pub near_unanimity_ruled : (d K cell : ℕ) → 1 ≤ d → cell < d ^ K
    → IsRule d cell (near_unanimity_rule d K cell)
near_unanimity_ruled d K cell some known = by (forced_value (digits_of d K cell)) refl
  where
    tuple : IsTuple d K (digits_of d K cell)
    tuple = digits_of-IsTuple d K cell some known

    by : (forced : Option ℕ) → forced_value (digits_of d K cell) ≡ forced → IsRule d cell (rule_to forced)
    by None none = tt
    by (Some x) forced = forced_within (λ v. v < d) (digits_of d K cell) x tuple.below forced

module _ (K : ℕ) (f : Operation) (is : IsOpTable K f) (near : IsNearUnanimity f) where
  -- arguments have the value that they force
  obeys_tuple : (arguments : List ℕ) (forced : Option ℕ) → IsTuple f.domain K arguments
      → forced_value arguments ≡ forced
      → Obeys f.cells (cell_of f.domain arguments) (rule_to forced)
  obeys_tuple arguments None tuple none = tt
  obeys_tuple arguments (Some x) tuple forced =
      let tuple_of_f : IsTuple f.domain f.arity arguments
      = subst (λ (k : ℕ). IsTuple f.domain k arguments) (sym is.arity_is) tuple in
      let most : f.arity ≤ count_by (λ y. y == x) arguments + 1
      = subst (λ (k : ℕ). k ≤ count_by (λ y. y == x) arguments + 1) tuple_of_f.long
      (forced_most arguments x forced) in
      near.most arguments x tuple_of_f (forced_within (λ v. v < f.domain) arguments x tuple.below forced) most

  -- a near unanimity operation obeys every rule
  pub near_unanimity_obeys : ObeysAll f.cells (near_unanimity_rule f.domain K)
  near_unanimity_obeys =
      obeys_by_digits K f (near_unanimity_rule f.domain K) is
      (λ cell within. obeys_tuple (digits_of f.domain K cell) (forced_value (digits_of f.domain K cell))
      (digits_of-IsTuple f.domain K cell is.domain_is.some within) refl)
