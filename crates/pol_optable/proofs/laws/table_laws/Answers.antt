use Rattle.pol_optable.proofs.IdentityLemmas.{table_is_long, majority_table}
use Rattle.pol_optable.proofs.laws.table_laws.Goals as goal

pub returns-clause-cells : goal.returns-clause-cells
returns-clause-cells c = table_is_long

pub returns-clause-majority : goal.returns-clause-majority
returns-clause-majority c = majority_table
