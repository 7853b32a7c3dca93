use Rattle.pol_optable.proofs.LineLemmas.{one_line, beyond_is_nu4}
use Rattle.pol_optable.proofs.laws.line_laws.Goals as goal

pub returns-clause-line : goal.returns-clause-line
returns-clause-line c = one_line

pub returns-clause-beyond : goal.returns-clause-beyond
returns-clause-beyond c = beyond_is_nu4
