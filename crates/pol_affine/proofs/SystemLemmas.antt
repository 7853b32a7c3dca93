-- The system of an instance: common solutions are the labels of solutions, and a clash is a valid combination.
use Rattle.std.proofs.Common.{◌≡◌, ◌≢◌, ℕ, ◌*◌, ◌%◌, ◌<◌, ◌≤◌, ◌⊎◌, inl, inr, List, [], ◌∷◌, ◌++◌, length, get_or, map, All, refl, sym, ap, ◌∙◌, subst, arith}
use Rattle.std.proofs.lemmas.Bool.{cases_eq}
use Rattle.std.proofs.lemmas.List.{length-map, length_push, get_or-map, get_or_default, get_or_push, get_or_append_left}
use Rattle.std.proofs.lemmas.List.Elements.{All-map, All-head, All-tail}
use Rattle.pol_base.specs.Tuples.{IsTuple}
use Rattle.pol_relation.specs.Relations.{LanguageView, IsLanguage, IsRelationOver, relation_of, no_named}
use Rattle.pol_relation.specs.Instances.{InstanceView, ConstraintView, Fits, IsSolution, Meets, read_at, constraint_of, no_constraint}
use Rattle.pol_optable.specs.Identities.{IsLabelling}
use Rattle.pol_identity.specs.Labels.{labelled}
use Rattle.pol_identity.specs.LabelLaws.{has_label}
use Rattle.pol_modp.specs.Equations.{EquationView, IsEquation, MeetsEquation, IsCommonSolution, IsClash}
use Rattle.pol_modp.specs.Rows.{no_equation}
use Rattle.pol_modp.specs.Combinations.{PartView, labels_of, scope_at, rows_at, arity_at}
use Rattle.pol_modp.specs.ValidCombinations.{IsPlaced, IsImplied}
use Rattle.pol_affine.specs.RelationEquations.{Describes}
use Rattle.pol_affine.specs.Systems.{DescribeUsed, PlacedView, placed_at, placed_in, equations_at, AreKnown, spread_over, used_parts}
use Rattle.pol_affine.specs.Answers.{IsSumCertificate}
use Rattle.pol_affine.proofs.Weights.{length-weights, weights-below, weights-read}
use Rattle.pol_affine.proofs.UsedParts.{used-all, used-few, used-sum, used-right}
use Rattle.pol_affine.proofs.PlacedLemmas.{placed-all, placed-each, length-placed, count-placed}

-- the equations of one more relation
pub described-more : (labels : List ℕ) (lang : LanguageView) (inst : InstanceView) (tables : List (List EquationView)) (r : ℕ) (equations : List EquationView)
    → length tables ≡ r → DescribeUsed labels lang inst tables
    → ((c : ℕ) → c < length inst.constraints → (constraint_of inst c).relation ≡ r → Describes labels (relation_of lang r) equations)
    → DescribeUsed labels lang inst (tables ++ equations ∷ [])
described-more labels lang inst tables r equations long before here c inside less = by (cases_eq (constraint_of inst c).relation r)
  where
    by : ((constraint_of inst c).relation ≡ r) ⊎ ((constraint_of inst c).relation ≡ r → ⊥) → Describes labels (relation_of lang (constraint_of inst c).relation) (equations_at inst (tables ++ equations ∷ []) c)
    by (inl same) =
        let found = ap (λ k. get_or (tables ++ equations ∷ []) k []) same ∙ get_or_push tables equations [] r long in
        subst (λ k. Describes labels (relation_of lang k) (equations_at inst (tables ++ equations ∷ []) c)) (sym same) (subst (Describes labels (relation_of lang r)) (sym found) (here c inside same))
    by (inr other) =
        let known : (constraint_of inst c).relation < length tables = omega (arith, less, other, long, length_push tables equations) in
        subst (Describes labels (relation_of lang (constraint_of inst c).relation)) (sym (get_or_append_left tables (equations ∷ []) [] (constraint_of inst c).relation known)) (before c inside known)

-- the labels of all rows of the constraint's relation meet the equation, whose numbers are below d
record IsTrueAt (lang : LanguageView) (inst : InstanceView) (labels : List ℕ) (p : PlacedView) : Type 0 where
  known : p.constraint < length inst.constraints
  as_many : length p.equation.coefs ≡ arity_at lang inst p.constraint
  right_below : p.equation.right < lang.domain
  coefs_below : All (λ a. a < lang.domain) p.equation.coefs
  implied : All (λ row. MeetsEquation lang.domain (labels_of labels row) p.equation) (rows_at lang inst p.constraint)

module _ (lang : LanguageView) (inst : InstanceView) (labels : List ℕ) (tables : List (List EquationView))
    (language : IsLanguage lang) (fits : Fits lang inst) (labelling : IsLabelling lang.domain labels)
    (many : length tables ≡ length lang.relations) (described : DescribeUsed labels lang inst tables) where
  abbrev placed : List PlacedView
  placed = placed_in inst tables (length inst.constraints)

  abbrev system : List EquationView
  system = map (spread_over lang.domain inst) placed

  describes : (c : ℕ) → c < length inst.constraints → Describes labels (relation_of lang (constraint_of inst c).relation) (equations_at inst tables c)
  describes c inside = described c inside (omega (arith, many, (fits c no_constraint inside).known))

  over : (c : ℕ) → c < length inst.constraints → IsRelationOver lang.domain (relation_of lang (constraint_of inst c).relation)
  over c inside = language.relations_are (constraint_of inst c).relation no_named (fits c no_constraint inside).known

  few : (c : ℕ) → c < length inst.constraints → length (equations_at inst tables c) ≤ 7
  few c inside = omega (arith, (describes c inside).few, (over c inside).is_relation.few_places)

  true_at : (c : ℕ) → c < length inst.constraints → All (λ (e : EquationView). IsTrueAt lang inst labels (placed_at c e)) (equations_at inst tables c)
  true_at c inside = λ k e low.
      let same = (over c inside).same_domain in
      let equation = get_or (equations_at inst tables c) k e in
      let is = (describes c inside).are_equations k e low in
      let rows = rows_at lang inst c in
      record {
        known = inside;
        as_many = is.long;
        right_below = omega (arith, is.right_below, same);
        coefs_below = subst (λ (b : ℕ). All (λ a. a < b) equation.coefs) same is.below;
        implied = λ j t listed.
            let row = get_or rows j t in
            let met = ((describes c inside).rows row ((over c inside).is_relation.tuples j t listed)).1 (j, listed, get_or_default rows j row t listed) in
            subst (λ (b : ℕ). MeetsEquation b (labels_of labels row) equation) same (met k e low);
      }

  all_true : All (IsTrueAt lang inst labels) placed
  all_true = placed-all inst tables (IsTrueAt lang inst labels) (length inst.constraints) true_at

  pub all_known : AreKnown lang.domain inst placed
  all_known = λ k e low.
      let true = all_true k e low in
      record { known = true.known; long = true.as_many ∙ sym (fits (get_or placed k e).constraint no_constraint true.known).long; below = true.coefs_below }

  pub are_equations : All (IsEquation lang.domain (length inst.variables)) system
  are_equations = All-map (IsEquation lang.domain (length inst.variables)) (spread_over lang.domain inst) placed (λ k e low.
      let p = get_or placed k e in
      record {
        long = length-weights lang.domain (length inst.variables) (scope_at inst p.constraint) p.equation.coefs;
        below = weights-below lang.domain (length inst.variables) (scope_at inst p.constraint) p.equation.coefs language.domain_is.some;
        right_below = (all_true k e low).right_below;
      })

  pub few_placed : length placed ≤ 7 * length inst.constraints
  few_placed = length-placed inst tables (length inst.constraints) few (length inst.constraints) (omega arith)

  -- values that meet the system are the labels of a solution
  module _ (values : List ℕ) (is : IsCommonSolution lang.domain (length inst.variables) system values) where
    abbrev assignment : List ℕ
    assignment = map (labelled labels) values

    assigns : IsTuple lang.domain (length inst.variables) assignment
    assigns = record {
      long = length-map values (labelled labels) ∙ is.long;
      below = All-map (λ v. v < lang.domain) (labelled labels) values (λ k e low. (has_label lang.domain labels (get_or values k e) labelling (is.below k e low)).below);
    }

    labels_read : (scope : List ℕ) → All (λ x. x < length inst.variables) scope → labels_of labels (read_at assignment scope) ≡ read_at values scope
    labels_read [] below = refl
    labels_read (x ∷ scope) below =
        let inside : x < length values = omega (arith, All-head (λ x. x < length inst.variables) x scope below, is.long) in
        let label = get_or values x 0 in
        let here = ap (λ v. get_or labels v 0) (get_or-map (labelled labels) values x 0 0 inside) ∙ (has_label lang.domain labels label labelling (is.below x 0 inside)).is_label in
        ap (λ l. l ∷ labels_of labels (read_at assignment scope)) here ∙ ap (λ rest. label ∷ rest) (labels_read scope (All-tail (λ x. x < length inst.variables) x scope below))

    abbrev IsMet : PlacedView → Type 0
    IsMet p = MeetsEquation lang.domain (read_at values (scope_at inst p.constraint)) p.equation

    all_met : All IsMet placed
    all_met = λ k e low.
        let p = get_or placed k e in
        let inside : k < length system = omega (arith, low, length-map placed (spread_over lang.domain inst)) in
        let meets = subst (MeetsEquation lang.domain values) (get_or-map (spread_over lang.domain inst) placed k e no_equation low) (is.meets k no_equation inside) in
        sym (weights-read lang.domain (length inst.variables) (scope_at inst p.constraint) p.equation.coefs values (fits p.constraint no_constraint (all_true k e low).known).below) ∙ meets

    meets_at : (c : ℕ) → c < length inst.constraints → Meets lang (constraint_of inst c) assignment
    meets_at c inside =
        let scope = scope_at inst c in
        let same = (over c inside).same_domain in
        let fit = fits c no_constraint inside in
        let tuple : IsTuple (relation_of lang (constraint_of inst c).relation).domain (relation_of lang (constraint_of inst c).relation).arity (read_at assignment scope)
        = record {
          long = length-map scope (λ x. get_or assignment x 0) ∙ fit.long;
          below = All-map (λ v. v < (relation_of lang (constraint_of inst c).relation).domain) (λ x. get_or assignment x 0) scope
              (λ j e low. omega (arith, same, assigns.below (get_or scope j e) 0 (omega (arith, fit.below j e low, assigns.long))));
        } in
        let each = placed-each inst tables IsMet (length inst.constraints) c inside all_met in
        ((describes c inside).rows (read_at assignment scope) tuple).0 (λ j e low.
        subst (λ xs. MeetsEquation (relation_of lang (constraint_of inst c).relation).domain xs (get_or (equations_at inst tables c) j e)) (sym (labels_read scope fit.below))
        (subst (λ (b : ℕ). MeetsEquation b (read_at values scope) (get_or (equations_at inst tables c) j e)) (sym same) (each j e low)))

    pub solution : IsSolution lang inst assignment
    solution = record {
      assigns = assigns;
      meets = λ k e inside. subst (λ (c : ConstraintView). Meets lang c assignment) (get_or_default inst.constraints k no_constraint e inside) (meets_at k inside);
    }

  -- a clash of the system is a valid combination
  pub certificate : (ms : List ℕ) → IsClash lang.domain (length inst.variables) system ms → IsSumCertificate lang inst (record { labels = labels; parts = used_parts ms placed })
  certificate ms clash = record {
    valid = record {
      labels = record { many = labelling.tuple.long; below = labelling.tuple.below };
      placed = used-all lang.domain (IsTrueAt lang inst labels) (IsPlaced lang inst)
          (λ m p below nonzero true. record { known = true.known; as_many = true.as_many; multiplier_below = below; right_below = true.right_below; coefs_below = true.coefs_below })
          ms placed clash.below all_true;
      implied = used-all lang.domain (IsTrueAt lang inst labels) (IsImplied lang inst labels) (λ m p below nonzero true. true.implied) ms placed clash.below all_true;
      coefs_zero = λ v inside. used-sum lang.domain inst v inside ms placed ∙ clash.coefs_zero v inside;
      right_nonzero = λ none. clash.right_nonzero (sym (ap (λ s. s % lang.domain) (used-right lang.domain inst ms placed)) ∙ none);
    };
    few = λ k. most _ _ (used-few k ms placed) (count-placed inst tables (length inst.constraints) few k (length inst.constraints) (omega arith));
    multiplied = used-all lang.domain (IsTrueAt lang inst labels) (λ (part : PartView). part.multiplier ≢ 0) (λ m p below nonzero true. nonzero) ms placed clash.below all_true;
  }
    where
      most : (a b : ℕ) → a ≤ b → b ≤ 7 → a ≤ 7
      most a b first second = omega arith
