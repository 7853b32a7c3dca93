-- Mal'tsev operations obey their rules.
use Rattle.std.proofs.Common.{◌≡◌, ℕ, ◌^◌, ◌<◌, ◌≤◌, List, [], ◌∷◌}
use Rattle.std.proofs.Common.{subst, refl, Bool, true, false, cond, All, slice_index, lit<}
use Rattle.std.specs.Prelude.{◌==◌}
use Rattle.std.proofs.lemmas.Bool.Decides.{Decides-eqb}
use Rattle.pol_base.specs.Tuples.{cell_of, digits_of}
use Rattle.pol_base.proofs.CellLemmas.{digits_of-below}
use Rattle.pol_optable.specs.Operations.{Operation, value_at}
use Rattle.pol_optable.specs.Identities.{IsMaltsev}
use Rattle.pol_optable.specs.Tables.{IsOpTable}
use Rattle.pol_identity.specs.declared.identity.CellRule.{CellRule}
use Rattle.pol_identity.specs.declared.identity.CellRule.TheVariants.{Free, Value}
use Rattle.pol_identity.specs.Rules.{Obeys, ObeysAll, IsRule}
use Rattle.pol_identity.specs.MaltsevRule.{rule_of_three, maltsev_rule}
use Rattle.pol_identity.specs.CellLaws.{obeys_by_digits}

-- the rule of three arguments by what its tests answer
abbrev pub rule_by : (p q : Bool) (x z : ℕ) → CellRule
rule_by p q x z = cond p (Value x) (cond q (Value z) Free)

-- it names a value of the domain, where both are
ruled_by : (d cell x z : ℕ) (p q : Bool) → x < d → z < d → IsRule d cell (rule_by p q x z)
ruled_by d cell x z true q x_below z_below = x_below
ruled_by d cell x z false true x_below z_below = z_below
ruled_by d cell x z false false x_below z_below = tt

-- a cell obeys it that has the value of each test that passes
obeys_by : (cells : List ℕ) (cell x z : ℕ) (p q : Bool)
    → (p ≡ true → slice_index cells cell ≡ x)
    → (q ≡ true → slice_index cells cell ≡ z)
    → Obeys cells cell (rule_by p q x z)
obeys_by cells cell x z true q right left = right refl
obeys_by cells cell x z false true right left = left refl
obeys_by cells cell x z false false right left = tt

-- a rule names a value of the domain
pub maltsev_ruled : (d cell : ℕ) → 1 ≤ d → cell < d ^ 3 → IsRule d cell (maltsev_rule d cell)
maltsev_ruled d cell some known =
    let below : All (λ v. v < d) (digits_of d 3 cell) = digits_of-below d 3 cell some known in
    ruled_by d cell (slice_index (digits_of d 3 cell) 0) (slice_index (digits_of d 3 cell) 2)
    (slice_index (digits_of d 3 cell) 1 == slice_index (digits_of d 3 cell) 2)
    (slice_index (digits_of d 3 cell) 0 == slice_index (digits_of d 3 cell) 1)
    (below 0 0 (lit< tt)) (below 2 0 (lit< tt))

module _ (f : Operation) (is : IsOpTable 3 f) (maltsev : IsMaltsev f) where
  -- the value at three arguments is as their rule says
  obeys_three : (x y z : ℕ) → x < f.domain → y < f.domain → z < f.domain
      → Obeys f.cells (cell_of f.domain (x ∷ y ∷ z ∷ [])) (rule_of_three x y z)
  obeys_three x y z x_below y_below z_below =
      obeys_by f.cells (cell_of f.domain (x ∷ y ∷ z ∷ [])) x z (y == z) (x == y)
      (λ same. subst (λ (v : ℕ). value_at f (x ∷ y ∷ v ∷ []) ≡ x) ((Decides-eqb y z).0 same)
      (maltsev.right x y x_below y_below))
      (λ same. subst (λ (v : ℕ). value_at f (x ∷ v ∷ z ∷ []) ≡ z) ((Decides-eqb x y).0 same)
      (maltsev.left z x z_below x_below))

  -- a Mal'tsev operation obeys every rule
  pub maltsev_obeys : ObeysAll f.cells (maltsev_rule f.domain)
  maltsev_obeys = obeys_by_digits 3 f (maltsev_rule f.domain) is obeys
    where
      obeys : (cell : ℕ) → cell < f.domain ^ 3
          → Obeys f.cells (cell_of f.domain (digits_of f.domain 3 cell)) (maltsev_rule f.domain cell)
      obeys cell within =
          let below : All (λ v. v < f.domain) (digits_of f.domain 3 cell)
          = digits_of-below f.domain 3 cell is.domain_is.some within in
          obeys_three (slice_index (digits_of f.domain 3 cell) 0) (slice_index (digits_of f.domain 3 cell) 1)
          (slice_index (digits_of f.domain 3 cell) 2)
          (below 0 0 (lit< tt)) (below 1 0 (lit< tt)) (below 2 0 (lit< tt))
