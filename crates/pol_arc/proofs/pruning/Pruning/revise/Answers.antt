use Rattle.pol_relation.specs.Relations.{rows_of}
use Rattle.pol_relation.specs.Instances.{constraint_of}
use Rattle.pol_nogood.specs.Logs.{StepView}
use Rattle.pol_arc.specs.Pruned.{IsWithout, Prunes}
use Rattle.pol_arc.specs.Waiting.{KeepsDone, IsTouched}
use Rattle.pol_arc.specs.Arcs.{IsSupported, IsSupportedAt}
use Rattle.pol_arc.proofs.PruningLemmas.{prunes_value, few_pruned}
use Rattle.pol_arc.proofs.WaitingLemmas.{keeps_dropped}
use Rattle.std.proofs.Common.{◌≡◌, ℕ, ◌<◌, ◌≤◌, Bool, List, length, get_or, sym, ap, ◌∙◌, subst, arith}
use Rattle.std.specs.Prelude.{IsBitSet}
use Rattle.std.proofs.lemmas.Bool.{iff_false}
use Rattle.std.proofs.lemmas.List.{get_or_default}
use Rattle.pol_arc.proofs.pruning.Pruning.revise.Goals as goal

pub push-requires : goal.push-requires
push-requires c =
    let few : length c.args.self.now.log ≤ 201 = few_pruned c.args.lang.now c.args.inst.now c.args.self.now.masks.items c.args.self.now.log c.domain-d.ensures.language.domain_is.few c.requires.few c.requires.pruned in
    record { room = omega arith }

pub returns-clause-prunes : goal.returns-clause-prunes
returns-clause-prunes c =
    let lang = c.args.lang.now in
    let inst = c.args.inst.now in
    let masks = c.args.self.now.masks.items in
    let scope = (constraint_of inst c.args.c).scope in
    let rows = rows_of lang (constraint_of inst c.args.c).relation in
    let x = get_or c.scope.result.now c.args.j 0 in
    let place : x ≡ get_or scope c.args.j 0 = ap (λ (some : List ℕ). get_or some c.args.j 0) c.scope.ensures.scope in
    let inside : c.args.j < length c.scope.result.now = omega (arith, c.requires.place, ap length c.scope.ensures.scope) in
    let variable : x < length inst.variables = c.scope.ensures.below c.args.j 0 inside in
    let bit : IsBitSet (get_or masks x 0) c.args.a =
    subst (λ (m : ℕ). IsBitSet m c.args.a) (c.index.ensures ∙ get_or_default masks x c.index.result.now 0 (omega (arith, variable, c.requires.pruned.are_masks.long))) (c.has_value.ensures.has.0 c.if-not-has_value.false) in
    let none : IsSupported rows masks scope x c.args.a → ⊥ =
    subst (λ (y : ℕ). IsSupported rows masks scope y c.args.a → ⊥) (sym place)
    (subst (λ (some : List ℕ). IsSupported rows some scope (get_or scope c.args.j 0) c.args.a → ⊥) c.as_slice.ensures.value (iff_false c.is_supported.ensures.supported c.if-is_supported.false)) in
    subst (λ (log : List StepView). Prunes lang inst (λ m. IsSupportedAt lang inst m c.args.c c.args.j c.args.a) masks c.args.self.now.log c.touch.new.self.masks.items log) (sym (c.touch.ensures.log ∙ c.drop_value.ensures.log))
    (subst (λ (new : List ℕ). Prunes lang inst (λ m. IsSupportedAt lang inst m c.args.c c.args.j c.args.a) masks c.args.self.now.log new c.push.new.self) (sym c.touch.ensures.masks)
    (prunes_value lang inst masks c.drop_value.new.self.masks.items c.args.self.now.log c.push.new.self c.args.c c.args.j x c.args.a c.one_pair.result c.in_ok-refs.refs
    c.requires.pruned c.domain-d.ensures.language c.requires.fits c.requires.known c.requires.place c.requires.value place bit none c.in_ok-refs.ensures.referred c.one_pair.ensures.pair c.in_ok-push.ensures.ok
    (subst (λ (d : ℕ). IsWithout d masks x c.args.a c.drop_value.new.self.masks.items) c.domain-d.ensures.domain c.drop_value.ensures.without)))

pub returns-clause-done : goal.returns-clause-done
returns-clause-done c =
    let lang = c.args.lang.now in
    let inst = c.args.inst.now in
    let masks = c.args.self.now.masks.items in
    let waits = c.args.self.now.waits.items in
    let x = get_or c.scope.result.now c.args.j 0 in
    subst (λ (new : List ℕ). KeepsDone lang inst masks waits new c.touch.new.self.waits.items) (sym c.touch.ensures.masks)
    (keeps_dropped lang inst masks c.drop_value.new.self.masks.items waits c.touch.new.self.waits.items x c.args.a c.domain-d.ensures.language c.requires.fits
    (subst (λ (d : ℕ). IsWithout d masks x c.args.a c.drop_value.new.self.masks.items) c.domain-d.ensures.domain c.drop_value.ensures.without)
    (subst (λ (some : List Bool). IsTouched inst x some c.touch.new.self.waits.items) c.drop_value.ensures.waits c.touch.ensures.touched))
