use Rattle.pol_checker.proofs.VerdictLemmas.{verdict_one, unknown_is_absent, size_is_of_cells}
use Rattle.pol_checker.proofs.laws.verdict_laws.Goals as goal

pub returns-clause-one : goal.returns-clause-one
returns-clause-one c = verdict_one

pub returns-clause-unknown : goal.returns-clause-unknown
returns-clause-unknown c = unknown_is_absent

pub returns-clause-size : goal.returns-clause-size
returns-clause-size c = size_is_of_cells
