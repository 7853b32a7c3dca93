use Rattle.pol_nogood.proofs.FaultLemmas.{first_faults_same}
use Rattle.pol_nogood.proofs.laws.fault_laws.Goals as goal

pub returns-clause-one : goal.returns-clause-one
returns-clause-one c = first_faults_same
