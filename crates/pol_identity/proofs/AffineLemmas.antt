-- Affine operations by their rules, and by their labels.
use Rattle.std.proofs.Common.{◌≡◌, ℕ, ◌+◌, ◌*◌, ◌%◌, ◌^◌, ◌<◌, ◌≤◌, List, [], ◌∷◌, length, get_or, take, set, All, sym, ap, ◌∙◌, subst, refl, arith, lit≤, inl, inr}
use Rattle.std.proofs.Math.Nat.{pow-zero, pow-suc, pow-le-pow_left, add-mod_right, mod-eq_of_lt}
use Rattle.std.proofs.lemmas.List.{ext_get_or, get_or_default, get_or-take, length-take-le, get_or-set_same, get_or-set_other}
use Rattle.std.proofs.lemmas.Bool.{cases_eq}
use Rattle.pol_base.specs.Tuples.{IsDomain, cell_of, digits_of}
use Rattle.pol_base.proofs.CellLemmas.{cell_of-IsTuple}
use Rattle.pol_optable.specs.Operations.{Operation, operation_of, value_at}
use Rattle.pol_optable.specs.Identities.{IsLabelling, IsAffineBy, IsAffine, IsMaltsev, affine_sum}
use Rattle.pol_optable.specs.Tables.{IsOpTable}
use Rattle.pol_identity.specs.Rules.{ObeysAll}
use Rattle.pol_identity.specs.Labels.{labelled}
use Rattle.pol_identity.specs.LabelLaws.{has_label, same_label}
use Rattle.pol_identity.specs.AffineRule.{affine_rule_at, affine_rule, sum_at}
use Rattle.pol_identity.specs.AffineLaws.{sum_below, affine_obeys}
use Rattle.pol_identity.specs.CellLaws.{cells_long}
use Rattle.pol_identity.proofs.RuleLemmas.{obeys_at}
use Rattle.pol_identity.proofs.MaltsevLemmas.{three}

-- a table whose cells obey is affine with the labels
pub affine_from_rules :
    (labels : List ℕ) (f : Operation)
    → IsOpTable 3 f
    → IsLabelling f.domain labels
    → ObeysAll f.cells (affine_rule labels f.domain)
    → IsAffineBy labels f
affine_from_rules labels f is labelling obeyed = record {
  sums = λ x y z x_below y_below z_below.
      let arguments = x ∷ y ∷ z ∷ [] in
      let sum = sum_at labels f.domain arguments in
      let found = has_label f.domain labels sum labelling (sum_below f.domain _ _ _ is.domain_is.some) in
      ap (λ v. get_or labels v 0)
      (obeys_at 3 f (affine_rule_at labels f.domain) is obeyed arguments
      (three f.domain x y z x_below y_below z_below))
      ∙ found.is_label;
}

-- the labels tell the cells
pub labels_tell_cells :
    (f g : Operation) (labels : List ℕ)
    → IsOpTable 3 f
    → IsOpTable 3 g
    → f.domain ≡ g.domain
    → IsLabelling f.domain labels
    → IsAffineBy labels f
    → IsAffineBy labels g
    → f.cells ≡ g.cells
labels_tell_cells f g labels is_f is_g same labelling by_f by_g =
    let long : length f.cells ≡ length g.cells
    = cells_long 3 f is_f ∙ (ap (λ d. d ^ 3) same ∙ sym (cells_long 3 g is_g)) in
    let labelling_g : IsLabelling g.domain labels = subst (λ d. IsLabelling d labels) same labelling in
    let obeyed_g : ObeysAll g.cells (affine_rule labels f.domain)
    = subst (λ d. ObeysAll g.cells (affine_rule labels d)) (sym same) (affine_obeys labels g is_g labelling_g by_g) in
    ext_get_or 0 f.cells g.cells long
    (λ cell known. affine_obeys labels f is_f labelling by_f cell known ∙ sym (obeyed_g cell (rw (← long) known)))

-- what is added and taken away again leaves a label
sum_of_end : (d a n : ℕ) → a < d → n ≡ a + d → n % d ≡ a
sum_of_end d a n below same = rw (same, add-mod_right a d) (mod-eq_of_lt below)

-- an affine operation is a Mal'tsev operation
module _ (f : Operation) (is : IsOpTable 3 f) (affine : IsAffine f) where
  value_below :
      (x y z : ℕ)
      → x < f.domain
      → y < f.domain
      → z < f.domain
      → value_at f (x ∷ y ∷ z ∷ []) < f.domain
  value_below x y z x_below y_below z_below =
      let tuple = three f.domain x y z x_below y_below z_below in
      is.is_operation.below (cell_of f.domain (x ∷ y ∷ z ∷ [])) 0
      (rw (cells_long 3 f is) (cell_of-IsTuple f.domain 3 (x ∷ y ∷ z ∷ []) tuple))

  label_below : (x : ℕ) → x < f.domain → get_or affine.labels x 0 < f.domain
  label_below x x_below = affine.is_labelling.tuple.below x 0 (omega (arith, affine.is_labelling.tuple.long))

  -- arguments whose labels sum to that of x have the value x
  value_is :
      (x y z v : ℕ)
      → x < f.domain
      → y < f.domain
      → z < f.domain
      → v < f.domain
      → affine_sum f.domain (get_or affine.labels x 0) (get_or affine.labels y 0) (get_or affine.labels z 0)
      ≡ get_or affine.labels v 0
      → value_at f (x ∷ y ∷ z ∷ []) ≡ v
  value_is x y z v x_below y_below z_below v_below sum =
      same_label f.domain affine.labels (value_at f (x ∷ y ∷ z ∷ [])) v affine.is_labelling
      (value_below x y z x_below y_below z_below) v_below
      (affine.by_labels.sums x y z x_below y_below z_below ∙ sum)

  pub affine_is_maltsev : IsMaltsev f
  affine_is_maltsev = record {
    right = λ x y x_below y_below.
        let less = label_below y y_below in
        value_is x y y x x_below y_below y_below x_below
        (sum_of_end f.domain (get_or affine.labels x 0) _ (label_below x x_below) (omega (arith, less)));
    left = λ x y x_below y_below.
        let less = label_below y y_below in
        value_is y y x x y_below y_below x_below x_below
        (sum_of_end f.domain (get_or affine.labels x 0) _ (label_below x x_below) (omega (arith, less)));
  }

-- a table has at most 125 cells
pub few_cells : (d : ℕ) → d ≤ 5 → d ^ 3 ≤ 125
few_cells d few =
    let within : d ^ 3 ≤ 5 ^ 3 = pow-le-pow_left few 3 in
    omega arith

pub cube : (d size : ℕ) → size ≡ d → size * size * size ≡ d ^ 3
cube d size same = rw (same, pow-suc, pow-suc, pow-suc, pow-zero) (omega arith)

-- the value in the next cell is written
pub next_value :
    (cells : List ℕ) (value_at : ℕ → ℕ) (n value : ℕ)
    → n < length cells
    → ((k : ℕ) → k < n → get_or cells k 0 ≡ value_at k)
    → value ≡ value_at n
    → (k : ℕ)
    → k < n + 1
    → get_or (set cells n value) k 0 ≡ value_at k
next_value cells value_at n value inside before same k within =
    elim (cases_eq k n) [
      | inl here ↦ rw here (get_or-set_same cells n value 0 inside ∙ same)
      | inr apart ↦ get_or-set_other cells n k value 0 apart ∙ before k (omega (arith, within, apart))
    ]

-- the front of a list that has the value of each rule is a table that is affine with the labels
module _ (d : ℕ) (labels cells : List ℕ) (is : IsDomain d) (labelling : IsLabelling d labels)
    (fits : d ^ 3 ≤ length cells)
    (values : (k : ℕ) → k < d ^ 3 → get_or cells k 0 ≡ labelled labels (sum_at labels d (digits_of d 3 k))) where
  front_long : length (take (d ^ 3) cells) ≡ d ^ 3
  front_long = length-take-le (d ^ 3) cells fits

  front_values : (k : ℕ) → k < d ^ 3
      → get_or (take (d ^ 3) cells) k 0 ≡ labelled labels (sum_at labels d (digits_of d 3 k))
  front_values k within = get_or-take (d ^ 3) cells k 0 within ∙ values k within

  front_below : All (λ v. v < d) (take (d ^ 3) cells)
  front_below k e inside =
      let within : k < d ^ 3 = omega (arith, inside, front_long) in
      let sum = sum_at labels d (digits_of d 3 k) in
      let found = has_label d labels sum labelling (sum_below d _ _ _ is.some) in
      let same = get_or_default (take (d ^ 3) cells) k e 0 inside ∙ front_values k within in
      subst (λ (v : ℕ). v < d) (sym same) found.below

  pub front_table : IsOpTable 3 (operation_of d 3 (take (d ^ 3) cells))
  front_table = record {
    arity_is = refl;
    domain_is = is;
    is_operation = record { some_arguments = lit≤ tt; all_cells = front_long; below = front_below };
    few_cells = (let few = few_cells d is.few in omega arith);
    few_arguments = lit≤ tt;
  }

  pub front_affine : IsAffineBy labels (operation_of d 3 (take (d ^ 3) cells))
  front_affine = affine_from_rules labels (operation_of d 3 (take (d ^ 3) cells)) front_table labelling
      (λ cell known. front_values cell (omega (arith, known, front_long)))
