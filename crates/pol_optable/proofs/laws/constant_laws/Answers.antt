use Rattle.pol_optable.proofs.ConstantLemmas.{constant_line_found, constant_line_none, table_value}
use Rattle.pol_optable.proofs.laws.constant_laws.Goals as goal

pub returns-clause-found : goal.returns-clause-found
returns-clause-found c = constant_line_found

pub returns-clause-none : goal.returns-clause-none
returns-clause-none c = constant_line_none

pub returns-clause-tells : goal.returns-clause-tells
returns-clause-tells c = λ lang cells is line. let value = table_value lang cells is line.1.holds in (value.below, value.closed)
