use Rattle.pol_checker.proofs.VerdictLemmas.{log_refutes, sum_refutes}
use Rattle.pol_checker.proofs.laws.acceptance_laws.Goals as goal

pub returns-clause-log : goal.returns-clause-log
returns-clause-log c = λ file name class log. log_refutes file name log

pub returns-clause-combination : goal.returns-clause-combination
returns-clause-combination c = sum_refutes
