use Rattle.std.proofs.Common.{◌≡◌, ℕ, List, length, take, map, All, Contains, sym, ap, ◌∙◌, arith}
use Rattle.std.proofs.lemmas.List.{length-map}
use Rattle.pol_base.specs.Tuples.{IsTuple}
use Rattle.pol_relation.proofs.RelationLemmas.{length-rows_few}
use Rattle.pol_modp.specs.Equations.{MeetsEquation}
use Rattle.pol_modp.specs.AffineSets.{IsAffineSet}
use Rattle.pol_modp.specs.Combinations.{labels_of}
use Rattle.pol_affine.proofs.Carried.{carried}
use Rattle.pol_affine.proofs.LabelRows.{labels_are, labels-affine, rows_alone}
use Rattle.pol_affine.proofs.equations.equations_of.Goals as goal

-- a relation has few rows
pub null_space-requires-clause-few : goal.null_space-requires-clause-few
null_space-requires-clause-few c =
    let same = ap length (c.deref.ensures.value ∙ c.in_ok-rows.ensures.rows) in
    omega (arith, same, length-map c.args.r.now.rows (labels_of (take c.from.result c.args.labels)), length-rows_few c.args.r.now c.domain.ensures.relation)

-- labels of values are numbers below d
pub null_space-requires-clause-rows : goal.null_space-requires-clause-rows
null_space-requires-clause-rows c =
    let r = c.args.r.now in
    let labels = take r.domain c.args.labels in
    let size_is : c.size-size.result ≡ r.domain = c.size-size.ensures.size ∙ c.domain.ensures.domain in
    let from_is : c.from.result ≡ r.domain = c.from.ensures ∙ size_is in
    let rows_are : c.deref.result.now ≡ map (labels_of labels) r.rows
    = c.deref.ensures.value ∙ (c.in_ok-rows.ensures.rows ∙ ap (λ k. map (labels_of (take k c.args.labels)) r.rows) from_is) in
    carried (λ p n rows. All (IsTuple p n) rows) r.domain c.size-size.result r.arity c.arity.result (map (labels_of labels) r.rows) c.deref.result.now
    (sym size_is) (sym c.arity.ensures.arity) (sym rows_are) (labels_are labels r c.domain.ensures.relation c.requires.labelling)

-- the labels of the rows are an affine set, and tell the rows
pub returns-clause-rows : goal.returns-clause-rows
returns-clause-rows c =
    let r = c.args.r.now in
    let labels = take r.domain c.args.labels in
    let equations = c.in_ok-null_space.field-0.items in
    let size_is : c.size-size.result ≡ r.domain = c.size-size.ensures.size ∙ c.domain.ensures.domain in
    let from_is : c.from.result ≡ r.domain = c.from.ensures ∙ size_is in
    let rows_are : c.deref.result.now ≡ map (labels_of labels) r.rows
    = c.deref.ensures.value ∙ (c.in_ok-rows.ensures.rows ∙ ap (λ k. map (labels_of (take k c.args.labels)) r.rows) from_is) in
    let meet = carried (λ p n rows. All (λ x. All (MeetsEquation p x) equations) rows) c.size-size.result r.domain c.arity.result r.arity c.deref.result.now (map (labels_of labels) r.rows) size_is c.arity.ensures.arity rows_are c.in_ok-null_space.ensures.rows_meet in
    let only = carried (λ p n rows. IsAffineSet p n (Contains rows) → (x : List ℕ) → IsTuple p n x → All (MeetsEquation p x) equations → Contains rows x)
    c.size-size.result r.domain c.arity.result r.arity c.deref.result.now (map (labels_of labels) r.rows) size_is c.arity.ensures.arity rows_are c.in_ok-null_space.ensures.only_rows in
    rows_alone labels r c.domain.ensures.relation c.requires.labelling equations meet (only (labels-affine labels r c.domain.ensures.relation c.requires.labelling c.requires.preserved))
