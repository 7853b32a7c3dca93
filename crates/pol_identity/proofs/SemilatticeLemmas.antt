-- Semilattice operations by their rules and the law of association.
use Rattle.std.proofs.Common.{◌≡◌, ℕ, ◌<◌, List, [], ◌∷◌, sym, refl, Bool, true, false, slice_index, inl, inr, ◌⊎◌, arith}
use Rattle.std.specs.Prelude.{◌==◌, nat_lt}
use Rattle.std.proofs.lemmas.Bool.{cases_order}
use Rattle.std.proofs.lemmas.Bool.Decides.{Decides-eqb, Decides-ltb}
use Rattle.pol_base.specs.Tuples.{cell_of}
use Rattle.pol_optable.specs.Operations.{Operation, value_at}
use Rattle.pol_optable.specs.Identities.{IsSemilattice}
use Rattle.pol_optable.specs.Tables.{IsOpTable}
use Rattle.pol_identity.specs.Rules.{Obeys, ObeysAll}
use Rattle.pol_identity.specs.Association.{IsAssociative}
use Rattle.pol_identity.specs.SemilatticeRule.{rule_of_two, semilattice_rule_at, semilattice_rule}
use Rattle.pol_identity.specs.SemilatticeLaws.{rule_by, two_below}
use Rattle.pol_identity.proofs.RuleLemmas.{obeys_at}

-- where the first test passes the value is x
same_by :
    (cells : List ℕ) (cell x other : ℕ) (p q : Bool)
    → p ≡ true
    → Obeys cells cell (rule_by p q x other)
    → slice_index cells cell ≡ x
same_by cells cell x other true q same obeys = obeys
same_by cells cell x other false q same obeys = cc

-- where the second test alone passes the value is that of the other cell
turned_by :
    (cells : List ℕ) (cell x other : ℕ) (p q : Bool)
    → (p ≡ true → ⊥)
    → q ≡ true
    → Obeys cells cell (rule_by p q x other)
    → slice_index cells cell ≡ slice_index cells other
turned_by cells cell x other true q apart less obeys = absurd (apart refl)
turned_by cells cell x other false true apart less obeys = obeys
turned_by cells cell x other false false apart less obeys = cc

module _ (f : Operation) (is : IsOpTable 2 f) (obeyed : ObeysAll f.cells (semilattice_rule f.domain)) where
  -- the value at two arguments is as their rule says
  rule_holds :
      (x y : ℕ)
      → x < f.domain
      → y < f.domain
      → Obeys f.cells (cell_of f.domain (x ∷ y ∷ [])) (rule_of_two f.domain x y)
  rule_holds x y x_below y_below =
      obeys_at 2 f (semilattice_rule_at f.domain) is obeyed (x ∷ y ∷ [])
      (record { long = refl; below = two_below f.domain x y x_below y_below })

  -- the value at two arguments, the greater one first, is that at the other order
  turned : (x y : ℕ) → x < f.domain → y < f.domain → y < x → value_at f (x ∷ y ∷ []) ≡ value_at f (y ∷ x ∷ [])
  turned x y x_below y_below less =
      turned_by f.cells (cell_of f.domain (x ∷ y ∷ [])) x (cell_of f.domain (y ∷ x ∷ [])) (x == y) (nat_lt y x)
      (λ same. let one : x ≡ y = (Decides-eqb x y).0 same in omega (arith, one, less))
      ((Decides-ltb y x).1 less) (rule_holds x y x_below y_below)

  -- so it is at any two arguments
  either_order : (x y : ℕ) → x < f.domain → y < f.domain → value_at f (x ∷ y ∷ []) ≡ value_at f (y ∷ x ∷ [])
  either_order x y x_below y_below = by (cases_order x y)
    where
      by : (x ≡ y) ⊎ ((x < y) ⊎ (y < x)) → value_at f (x ∷ y ∷ []) ≡ value_at f (y ∷ x ∷ [])
      by (inl same) = rw same refl
      by (inr (inl less)) = sym (turned y x y_below x_below less)
      by (inr (inr more)) = turned x y x_below y_below more

  -- an associative table whose cells obey is of a semilattice operation
  pub semilattice_from_rules : IsAssociative f → IsSemilattice f
  semilattice_from_rules associative = record {
    idempotent = λ x below.
        same_by f.cells (cell_of f.domain (x ∷ x ∷ [])) x (cell_of f.domain (x ∷ x ∷ [])) (x == x) (nat_lt x x)
        ((Decides-eqb x x).1 refl) (rule_holds x x below below);
    commutative = either_order;
    associative = associative;
  }
