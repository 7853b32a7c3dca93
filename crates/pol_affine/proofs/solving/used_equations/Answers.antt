use Rattle.std.proofs.Common.{◌≡◌, ℕ, ◌+◌, ◌<◌, ◌≤◌, List, length, take, All, sym, ap, ◌∙◌, subst, arith}
use Rattle.std.proofs.lemmas.List.{length_push}
use Rattle.pol_relation.specs.Relations.{RelationView, IsRelationOver, relation_of, no_named}
use Rattle.pol_optable.specs.Operations.{Preserves}
use Rattle.pol_optable.specs.Identities.{IsAffineBy}
use Rattle.pol_modp.specs.Equations.{EquationView, IsEquation}
use Rattle.pol_affine.specs.RelationEquations.{RowsMeetAlone, Describes}
use Rattle.pol_affine.specs.Systems.{DescribeUsed}
use Rattle.pol_affine.proofs.SystemLemmas.{described-more}
use Rattle.pol_affine.proofs.solving.used_equations.Goals as goal
use Rattle.pol_affine.proofs.solving.used_equations.Goals.{then-is_used+in_ok-equations, else-is_used}

-- the operation preserves each relation
pub equations_of-requires-clause-preserved : goal.equations_of-requires-clause-preserved
equations_of-requires-clause-preserved c =
    let all = c.requires.preserved in
    let over = c.relation.ensures.over in
    let inside : c.loop-r.r < length c.args.lang.now.relations = omega (arith, c.loop-r-test.true, c.len-r-end.ensures.relations) in
    record {
      operation = all.operation;
      is_table = all.is_table;
      same_domain = all.same_domain ∙ sym over.same_domain;
      by_labels = subst (λ k. IsAffineBy (take k c.args.labels) all.operation) (sym over.same_domain) all.by_labels;
      preserves = subst (Preserves all.operation) (sym c.relation.ensures.relation) (all.preserves c.loop-r.r no_named inside);
    }

describes : (d : ℕ) (labels : List ℕ) (r named : RelationView) (equations : List EquationView) → IsRelationOver d r → r ≡ named
    → length equations ≤ r.arity + 1 → All (IsEquation r.domain r.arity) equations → RowsMeetAlone (take r.domain labels) r equations → Describes (take d labels) named equations
describes d labels r named equations over same few are rows =
    subst (λ (s : RelationView). Describes (take d labels) s equations) same
    (subst (λ k. Describes (take k labels) r equations) over.same_domain (record { are_equations = are; few = few; rows = rows }))

-- one relation on
pub loop-r-preserved : goal.loop-r-preserved
loop-r-preserved c =
    let lang = c.args.lang.now in
    let inst = c.args.inst.now in
    let r = c.loop-r.r in
    let labels = take lang.domain c.args.labels in
    let equations : List EquationView = c.if-is_used.equations in
    subst (λ (tables : List (List EquationView)). (length tables ≡ r + 1) × DescribeUsed labels lang inst tables) (sym c.in_ok-push.ensures.items) (
      length_push c.loop-r.tables.items equations ∙ ap (λ k. k + 1) c.loop-r.invariant.0,
      described-more labels lang inst c.loop-r.tables.items r equations c.loop-r.invariant.0 c.loop-r.invariant.1 (λ k inside same.
          elim c.if-is_used.branch [
            | then-is_used+in_ok-equations w ↦ subst (Describes labels (relation_of lang r)) (sym w.equations-is)
                (describes lang.domain c.args.labels w.relation.result.now (relation_of lang r) _ w.relation.ensures.over w.relation.ensures.relation w.in_ok-equations.ensures.few w.in_ok-equations.ensures.equations w.in_ok-equations.ensures.rows)
            | else-is_used w ↦ absurd (w.if-is_used.ensures.unused k inside same)
          ]),
    )
