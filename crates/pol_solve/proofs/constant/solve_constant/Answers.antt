use Rattle.std.proofs.Common.{◌<◌, length, replicate, ap, sym, subst, ◌∙◌, get_or}
use Rattle.pol_relation.specs.Instances.{IsSolution}
use Rattle.pol_nogood.specs.Logs.{breaking_log}
use Rattle.pol_nogood.proofs.LogSound.{valid_log_sound}
use Rattle.pol_nogood.proofs.LogMaking.{breaking_log-valid}
use Rattle.pol_optable.proofs.ConstantLemmas.{table_value}
use Rattle.pol_solve.proofs.ConstantSolutions.{constant_solution}
use Rattle.pol_solve.proofs.constant.solve_constant.Goals as goal

pub bounds-cells-0 : goal.bounds-cells-0
bounds-cells-0 c =
    let value = table_value c.args.lang.now c.args.op.now.cells c.domain-domain.ensures.language c.requires.table in
    subst (λ cells. 0 < length cells) (sym c.cells.ensures.cells) value.some_cells

pub returns-in_ok-breaking_log-in-Some-clause-no_only_without_solution : goal.returns-in_ok-breaking_log-in-Some-clause-no_only_without_solution
returns-in_ok-breaking_log-in-Some-clause-no_only_without_solution c assignment solution =
    let first = c.in-Some.ensures.first in
    valid_log_sound c.args.lang.now c.args.inst.now (breaking_log c.in-Some.c) (breaking_log-valid c.args.lang.now c.args.inst.now c.in-Some.c first.known first.empty) assignment solution

pub returns-in_ok-constant_assignment-in-None-clause-yes : goal.returns-in_ok-constant_assignment-in-None-clause-yes
returns-in_ok-constant_assignment-in-None-clause-yes c =
    let value = table_value c.args.lang.now c.args.op.now.cells c.domain-domain.ensures.language c.requires.table in
    let here = get_or c.args.op.now.cells 0 0 in
    let same = ap (λ cells. get_or cells 0 0) c.cells.ensures.cells in
    let values = c.in_ok-constant_assignment-in-None.ensures.values ∙ ap (λ n. replicate n (get_or c.cells.result.now 0 0)) c.variables.ensures.variables ∙ ap (λ v. replicate (length c.args.inst.now.variables) v) same in
    subst (IsSolution c.args.lang.now c.args.inst.now) (sym values) (constant_solution c.args.lang.now c.args.inst.now here c.requires.fits value.below value.closed c.in-None.ensures.none)
