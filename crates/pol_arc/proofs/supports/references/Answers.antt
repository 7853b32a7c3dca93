use Rattle.pol_relation.specs.Relations.{RelationView, relation_of}
use Rattle.pol_relation.specs.Instances.{FitsAt, constraint_of, no_constraint}
use Rattle.pol_nogood.specs.Logs.{is_case, value_case}
use Rattle.pol_arc.specs.Arcs.{IsSupported}
use Rattle.pol_arc.proofs.SupportLemmas.{supports_from_case, case_is, supported_by, case_referred, case_skipped}
use Rattle.std.proofs.Common.{◌≡◌, ℕ, ◌<◌, true, false, List, length, sym, ap, ◌∙◌, subst, arith}
use Rattle.pol_arc.proofs.supports.references.Goals as goal
use Rattle.pol_arc.proofs.supports.references.Goals.{then-is_case+in_ok-push, else-is_case}

-- a case that lay in the masks would support the value
pub reference-requires-clause-outside : goal.reference-requires-clause-outside
reference-requires-clause-outside c lies =
    let r = c.relation-relation.result.now in
    let scope = c.scope-scope.result.now in
    let same : r ≡ relation_of c.args.lang.now (constraint_of c.args.inst.now c.args.c).relation = c.relation-relation.ensures.relation ∙ ap (relation_of c.args.lang.now) c.relation_of.ensures.relation in
    let inside : c.loop-i.i < length r.rows = omega (arith, c.loop-i-test.true, c.len-i-end.ensures.rows) in
    let fit : FitsAt c.args.lang.now (length c.args.inst.now.variables) (constraint_of c.args.inst.now c.args.c) = c.requires.fits c.args.c no_constraint c.requires.known in
    let long : length c.row-row.result.now ≡ length scope = c.row-row.ensures.tuple.long ∙ (ap (λ (s : RelationView). s.arity) same ∙ (sym fit.long ∙ ap length (sym c.scope-scope.ensures.scope))) in
    let case : is_case scope (value_case c.args.x c.args.a) c.row-row.result.now ≡ true =
    case_is scope c.row-row.result.now c.one_pair-nogood.result (value_case c.args.x c.args.a) c.is_case.result true c.is_case.ensures.case c.one_pair-nogood.ensures.pair c.if-is_case.true in
    c.requires.unsupported
    (subst (λ (s : RelationView). IsSupported s.rows c.args.masks.now (constraint_of c.args.inst.now c.args.c).scope c.args.x c.args.a) same
    (subst (λ (some : List ℕ). IsSupported r.rows c.args.masks.now some c.args.x c.args.a) c.scope-scope.ensures.scope
    (supported_by r.rows c.args.masks.now scope c.args.x c.args.a c.loop-i.i c.row-row.result.now inside c.row-row.ensures.row
    (supports_from_case c.args.masks.now scope c.args.x c.args.a c.row-row.result.now long case lies))))

pub loop-i-preserved : goal.loop-i-preserved
loop-i-preserved c =
    let rows = c.relation-relation.result.now.rows in
    let scope = c.scope-scope.result.now in
    let row = c.row-row.result.now in
    let inside : c.loop-i.i < length rows = omega (arith, c.loop-i-test.true, c.len-i-end.ensures.rows) in
    elim c.if-is_case.branch [
      | then-is_case+in_ok-push w ↦ rw w.references-is (rw w.in_ok-push.ensures.ok
          (case_referred c.args.log.now rows scope c.args.x c.args.a c.loop-i.i row c.loop-i.references w.reference.result inside c.row-row.ensures.row
          (case_is scope row c.one_pair-nogood.result (value_case c.args.x c.args.a) c.is_case.result true c.is_case.ensures.case c.one_pair-nogood.ensures.pair w.if-is_case.true) c.loop-i.invariant w.reference.ensures.reference))
      | else-is_case w ↦ rw w.references-is
          (case_skipped c.args.log.now rows scope c.args.x c.args.a c.loop-i.i row c.loop-i.references inside c.row-row.ensures.row
          (case_is scope row c.one_pair-nogood.result (value_case c.args.x c.args.a) c.is_case.result false c.is_case.ensures.case c.one_pair-nogood.ensures.pair w.if-is_case.false) c.loop-i.invariant)
    ]
