use Rattle.std.proofs.Common.{◌≡◌, []}
use Rattle.pol_relation.specs.Instances.{InstanceView}
use Rattle.pol_gen.specs.Kinds.{instance_name, variable_names}
use Rattle.pol_gen.proofs.making.begin.Given as goal

-- the variables so far
abbrev pub invariant-loop-x : goal.invariant-loop-x
invariant-loop-x l =
    let begun : InstanceView = record { name = instance_name l.i; variables = variable_names l.x; constraints = [] } in
    l.inst ≡ begun
