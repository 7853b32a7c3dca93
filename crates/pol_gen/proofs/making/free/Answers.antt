use Rattle.std.proofs.Common.{ap, arith, length}
use Rattle.pol_relation.specs.Instances.{InstanceView}
use Rattle.pol_gen.specs.Kinds.{variables_of}
use Rattle.pol_gen.proofs.LanguageLemmas.{some_relations}
use Rattle.pol_gen.proofs.NameLemmas.{length-variable_names, some_variables}
use Rattle.pol_gen.proofs.making.free.Goals as goal

pub add_drawn-requires-clause-some_relations : goal.add_drawn-requires-clause-some_relations
add_drawn-requires-clause-some_relations c = rw c.requires.language (some_relations c.args.kind)

pub add_drawn-requires-clause-some_variables : goal.add_drawn-requires-clause-some_variables
add_drawn-requires-clause-some_variables c =
    let long = ap (λ (inst : InstanceView). length inst.variables) c.in_ok-inst.ensures.begun in
    omega (arith, long, length-variable_names (variables_of c.args.kind), some_variables c.args.kind)

pub returns-clause-made : goal.returns-clause-made
returns-clause-made c = rw (c.in_ok-inst.ensures.begun, length-variable_names (variables_of c.args.kind), c.requires.language) at c.in_ok-add_drawn.ensures.added

pub returns-clause-state : goal.returns-clause-state
returns-clause-state c = rw (c.in_ok-inst.ensures.begun, length-variable_names (variables_of c.args.kind), c.requires.language) at c.in_ok-add_drawn.ensures.state
