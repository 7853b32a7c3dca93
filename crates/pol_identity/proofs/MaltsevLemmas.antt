-- Mal'tsev operations by their rules.
use Rattle.std.proofs.Common.{◌≡◌, ℕ, ◌<◌, [], ◌∷◌, ◌∙◌, refl, Bool, true, false, All}
use Rattle.std.specs.Prelude.{◌==◌}
use Rattle.std.proofs.lemmas.Bool.Decides.{Decides-eqb}
use Rattle.std.proofs.lemmas.List.Elements.{All-cons, All-nil}
use Rattle.pol_base.specs.Tuples.{IsTuple, cell_of}
use Rattle.pol_optable.specs.Operations.{Operation, value_at}
use Rattle.pol_optable.specs.Identities.{IsMaltsev}
use Rattle.pol_optable.specs.Tables.{IsOpTable}
use Rattle.pol_identity.specs.Rules.{Obeys, ObeysAll}
use Rattle.pol_identity.specs.MaltsevRule.{rule_of_three, maltsev_rule_at, maltsev_rule}
use Rattle.pol_identity.specs.MaltsevLaws.{rule_by}
use Rattle.pol_identity.proofs.RuleLemmas.{obeys_at}

-- three values of the domain are a tuple
pub three : (d x y z : ℕ) → x < d → y < d → z < d → IsTuple d 3 (x ∷ y ∷ z ∷ [])
three d x y z x_below y_below z_below =
    let Below : ℕ → Type 0 = λ v. v < d in
    let last : All Below (z ∷ []) = All-cons Below z [] z_below (All-nil Below) in
    record {
      long = refl;
      below = All-cons Below x (y ∷ z ∷ []) x_below (All-cons Below y (z ∷ []) y_below last);
    }

module _ (f : Operation) (is : IsOpTable 3 f) (obeyed : ObeysAll f.cells (maltsev_rule f.domain)) where
  -- the value at three arguments is as their rule says
  rule_holds :
      (x y z : ℕ)
      → x < f.domain
      → y < f.domain
      → z < f.domain
      → Obeys f.cells (cell_of f.domain (x ∷ y ∷ z ∷ [])) (rule_of_three x y z)
  rule_holds x y z x_below y_below z_below =
      obeys_at 3 f maltsev_rule_at is obeyed (x ∷ y ∷ z ∷ []) (three f.domain x y z x_below y_below z_below)

  -- where the first test passes the value is x
  right_by :
      (x y : ℕ) (p q : Bool)
      → p ≡ true
      → Obeys f.cells (cell_of f.domain (x ∷ y ∷ y ∷ [])) (rule_by p q x y)
      → value_at f (x ∷ y ∷ y ∷ []) ≡ x
  right_by x y true q same obeys = obeys
  right_by x y false q same obeys = cc

  -- where both tests pass the two values are one
  left_by :
      (x y : ℕ) (p q : Bool)
      → (p ≡ true → y ≡ x)
      → q ≡ true
      → Obeys f.cells (cell_of f.domain (y ∷ y ∷ x ∷ [])) (rule_by p q y x)
      → value_at f (y ∷ y ∷ x ∷ []) ≡ x
  left_by x y true q one same obeys = obeys ∙ one refl
  left_by x y false true one same obeys = obeys
  left_by x y false false one same obeys = cc

  -- a table whose cells obey is of a Mal'tsev operation
  pub maltsev_from_rules : IsMaltsev f
  maltsev_from_rules = record {
    right = λ x y x_below y_below.
        right_by x y (y == y) (x == y) ((Decides-eqb y y).1 refl) (rule_holds x y y x_below y_below y_below);
    left = λ x y x_below y_below.
        left_by x y (y == x) (y == y) (Decides-eqb y x).0 ((Decides-eqb y y).1 refl)
        (rule_holds y y x y_below y_below x_below);
  }
