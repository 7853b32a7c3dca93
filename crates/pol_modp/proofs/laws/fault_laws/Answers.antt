use Rattle.std.proofs.Common.{sym, ◌∙◌}
use Rattle.std.proofs.lemmas.Option.{none-some}
use Rattle.pol_modp.proofs.CombinationTests.{fault_from_valid}
use Rattle.pol_modp.proofs.FirstFaults.{fault_from_first, first_faults_same}
use Rattle.pol_modp.proofs.laws.fault_laws.Goals as goal

pub returns-clause-valid : goal.returns-clause-valid
returns-clause-valid c = λ lang inst combination fault valid first.
    none-some fault (sym (fault_from_valid lang inst combination valid) ∙ fault_from_first lang inst combination fault first)

pub returns-clause-one : goal.returns-clause-one
returns-clause-one c = first_faults_same
