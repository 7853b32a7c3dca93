use Rattle.std.proofs.Common.{◌≡◌, ◌++◌, List, ap, sym, ◌∙◌, arith, length}
use Rattle.std.specs.List.{filter}
use Rattle.std.proofs.lemmas.List.{append-nil}
use Rattle.pol_relation.specs.Instances.{ConstraintView, InstanceView}
use Rattle.pol_gen.specs.Kinds.{language_of, variables_of, contradiction}
use Rattle.pol_gen.specs.Files.{draw_hidden, draw_over, instance_with, is_met, tries, with_constraints}
use Rattle.pol_gen.proofs.ConstraintLemmas.{appended-contradiction, appended-nothing}
use Rattle.pol_gen.proofs.DrawLemmas.{draw_numbers-tuple}
use Rattle.pol_gen.proofs.LanguageLemmas.{some_relations}
use Rattle.pol_gen.proofs.NameLemmas.{length-variable_names, some_variables}
use Rattle.pol_gen.proofs.making.planted.Goals.{then-is_unsolvable+in_ok-contradict, else-is_unsolvable}
use Rattle.pol_gen.proofs.making.planted.Goals as goal

pub add_met-requires-clause-some_relations : goal.add_met-requires-clause-some_relations
add_met-requires-clause-some_relations c = rw c.requires.language (some_relations c.args.kind)

pub add_met-requires-clause-some_variables : goal.add_met-requires-clause-some_variables
add_met-requires-clause-some_variables c =
    let long = ap (λ (inst : InstanceView). length inst.variables) c.in_ok-inst.ensures.begun in
    omega (arith, long, length-variable_names (variables_of c.args.kind), some_variables c.args.kind)

pub add_met-requires-clause-assigns : goal.add_met-requires-clause-assigns
add_met-requires-clause-assigns c =
    let long : length c.in_ok-inst.inst.variables ≡ c.variables.result = ap (λ (inst : InstanceView). length inst.variables) c.in_ok-inst.ensures.begun ∙ length-variable_names (variables_of c.args.kind) ∙ sym c.variables.ensures.variables in
    let tuple = draw_numbers-tuple c.variables.result c.domain.result c.args.draws.now (omega (arith, c.domain.ensures.domain, c.domain.ensures.language.domain_is.some)) in
    rw (← c.domain.ensures.domain, long, c.as_slice.ensures.items, c.in_ok-hidden.ensures.drawn) tuple

pub contradict-requires-clause-room : goal.contradict-requires-clause-room
contradict-requires-clause-room c = c.in_ok-add_met.ensures.few

pub contradict-requires-clause-three_variables : goal.contradict-requires-clause-three_variables
contradict-requires-clause-three_variables c =
    let same = ap (λ (inst : InstanceView). length inst.variables) c.in_ok-add_met.ensures.added in
    let long = ap (λ (inst : InstanceView). length inst.variables) c.in_ok-inst.ensures.begun in
    omega (arith, same, long, length-variable_names (variables_of c.args.kind), some_variables c.args.kind)

pub returns-clause-made : goal.returns-clause-made
returns-clause-made c =
    let kind = c.args.kind in
    let i = c.args.i in
    let hidden = draw_hidden kind c.args.draws.now in
    let met : List ConstraintView = filter (is_met (language_of kind) hidden.drawn) (draw_over kind tries hidden.state).drawn in
    let made : c.add_met.new.inst ≡ instance_with kind i met = rw (c.in_ok-inst.ensures.begun, length-variable_names (variables_of kind), c.as_slice.ensures.items, c.in_ok-hidden.ensures.drawn, c.in_ok-hidden.ensures.state, c.variables.ensures.variables, c.domain.ensures.domain, c.requires.language) at c.in_ok-add_met.ensures.added in
    elim c.if-is_unsolvable.branch [
      | then-is_unsolvable+in_ok-contradict w ↦
          let all = appended-contradiction kind i (sym c.is_unsolvable.ensures.unsolvable ∙ w.if-is_unsolvable.true) in
          w.inst-is ∙ w.in_ok-contradict.ensures.added ∙ ap (λ inst. with_constraints inst (contradiction kind)) made ∙ ap (λ more. instance_with kind i (met ++ more)) (sym all)
      | else-is_unsolvable w ↦
          let none = appended-nothing kind i (sym c.is_unsolvable.ensures.unsolvable ∙ w.if-is_unsolvable.false) in
          w.inst-is ∙ made ∙ ap (instance_with kind i) (sym (append-nil met)) ∙ ap (λ more. instance_with kind i (met ++ more)) (sym none)
    ]

pub returns-clause-state : goal.returns-clause-state
returns-clause-state c = rw (c.in_ok-inst.ensures.begun, length-variable_names (variables_of c.args.kind), c.in_ok-hidden.ensures.state, c.variables.ensures.variables, c.domain.ensures.domain, c.requires.language) at c.in_ok-add_met.ensures.state
