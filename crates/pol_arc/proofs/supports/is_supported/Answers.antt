use Rattle.pol_relation.specs.Relations.{RelationView, relation_of, rows_of}
use Rattle.pol_relation.specs.Instances.{constraint_of}
use Rattle.pol_arc.specs.Arcs.{Supports, IsSupported}
use Rattle.pol_arc.proofs.SupportLemmas.{none_more, unsupported}
use Rattle.std.proofs.Common.{◌≡◌, ℕ, ◌<◌, List, length, get_or, refl, sym, ap, ◌∙◌, subst, arith}
use Rattle.std.proofs.lemmas.Bool.{iff_false}
use Rattle.pol_arc.proofs.supports.is_supported.Goals as goal
use Rattle.pol_arc.proofs.supports.is_supported.Goals.{else-row-j-via-then-row-j+else-supports, else-row-j-via-else-row-j}

pub loop-i-preserved : goal.loop-i-preserved
loop-i-preserved c =
    let rows = c.relation-relation.result.now.rows in
    let masks = c.args.masks.now in
    let scope = c.scope-scope.result.now in
    let x = get_or scope c.args.j 0 in
    let place : c.args.j < length scope = omega (arith, c.requires.place, ap length c.scope-scope.ensures.scope) in
    none_more rows masks scope x c.args.a c.loop-i.i c.loop-i.invariant (λ supports.
    let here : Supports masks scope x c.args.a c.row-row.result.now = subst (Supports masks scope x c.args.a) (sym c.row-row.ensures.row) supports in
    elim c.else-row-j.branch [
      | else-row-j-via-then-row-j+else-supports w ↦ iff_false w.supports.ensures.supports w.if-supports.false here
      | else-row-j-via-else-row-j w ↦ w.if-row-j.false (here.at_variable c.args.j place refl)
    ])

pub returns : goal.returns
returns c =
    let r = c.relation-relation.result.now in
    let none : IsSupported r.rows c.args.masks.now c.scope-scope.result.now (get_or c.scope-scope.result.now c.args.j 0) c.args.a → ⊥ =
    unsupported r.rows c.args.masks.now c.scope-scope.result.now (get_or c.scope-scope.result.now c.args.j 0) c.args.a c.loop-i.i (omega (arith, c.loop-i-test.false, c.len-i-end.ensures.rows)) c.loop-i.invariant in
    let same : r ≡ relation_of c.args.lang.now (constraint_of c.args.inst.now c.args.c).relation = c.relation-relation.ensures.relation ∙ ap (relation_of c.args.lang.now) c.relation_of.ensures.relation in
    let none_there : IsSupported (rows_of c.args.lang.now (constraint_of c.args.inst.now c.args.c).relation) c.args.masks.now (constraint_of c.args.inst.now c.args.c).scope (get_or (constraint_of c.args.inst.now c.args.c).scope c.args.j 0) c.args.a → ⊥ =
    subst (λ (s : RelationView). IsSupported s.rows c.args.masks.now (constraint_of c.args.inst.now c.args.c).scope (get_or (constraint_of c.args.inst.now c.args.c).scope c.args.j 0) c.args.a → ⊥) same
    (subst (λ (scope : List ℕ). IsSupported r.rows c.args.masks.now scope (get_or scope c.args.j 0) c.args.a → ⊥) c.scope-scope.ensures.scope none) in
    record { supported = (λ never. cc, λ found. absurd (none_there found)) }
