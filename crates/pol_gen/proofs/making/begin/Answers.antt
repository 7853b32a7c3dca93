use Rattle.std.proofs.Common.{ap, arith, length}
use Rattle.pol_relation.specs.Instances.{InstanceView}
use Rattle.pol_gen.proofs.NameLemmas.{no_variables, new_variable, variable_names_more, length-variable_names}
use Rattle.pol_gen.proofs.making.begin.Goals as goal

pub loop-x-init : goal.loop-x-init
loop-x-init c = rw no_variables (rw (c.as_slice.ensures.items, c.in_ok-numbered.ensures.name) at c.in_ok-inst.ensures.ok)

pub add_variable-requires-clause-room : goal.add_variable-requires-clause-room
add_variable-requires-clause-room c =
    let long = ap (λ (inst : InstanceView). length inst.variables) c.loop-x.invariant in
    omega (arith, long, length-variable_names c.loop-x.x, c.loop-x-test.true, c.variables-x-end.ensures.few)

pub add_variable-requires-clause-new_name : goal.add_variable-requires-clause-new_name
add_variable-requires-clause-new_name c =
    let new = new_variable c.loop-x.x (omega (arith, c.loop-x-test.true, c.variables-x-end.ensures.few)) in
    rw (c.loop-x.invariant, c.as_slice-in-loop-x.ensures.items, c.in_ok-numbered-2.ensures.name) new

pub loop-x-preserved : goal.loop-x-preserved
loop-x-preserved c = rw (variable_names_more c.loop-x.x) (rw (c.loop-x.invariant, c.as_slice-in-loop-x.ensures.items, c.in_ok-numbered-2.ensures.name) at c.in_ok-add_variable.ensures.ok)
