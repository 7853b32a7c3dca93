-- The step of the definitions that a step of the code stands for.
use Rattle.std.specs.Prelude.{List, map}
use Rattle.pol_nogood.specs.declared.log.Step.{Step}
use Rattle.pol_nogood.specs.declared.log.Step.TheVariants as step
use Rattle.pol_nogood.specs.Logs.{Basis, StepView}

-- the same step, by its parts
abbrev pub step_named : Step → StepView
step_named (step.ByConstraint c nogood refs) =
    record { basis = Basis.ByConstraint c; nogood = nogood; references = refs }
step_named (step.ByVariable v nogood refs) =
    record { basis = Basis.ByVariable v; nogood = nogood; references = refs }

-- the steps in their order
abbrev pub steps_named : List Step → List StepView
steps_named steps = map step_named steps
