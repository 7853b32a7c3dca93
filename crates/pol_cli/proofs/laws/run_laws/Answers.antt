use Rattle.pol_checker.proofs.VerdictLemmas.{verdict_one}
use Rattle.pol_cli.proofs.DueLaws.{due_decided, files_reported, others_refused, fronts_of_usage, fronts_of_reports, inputs_read}
use Rattle.pol_cli.proofs.StatusLaws.{faults_read_few, read_faults_read_fewer, status_tells, zero_done, unflushed_cut_off}
use Rattle.pol_cli.proofs.laws.run_laws.Goals as goal

pub returns-clause-decided : goal.returns-clause-decided
returns-clause-decided c = due_decided verdict_one

pub returns-clause-reported : goal.returns-clause-reported
returns-clause-reported c = files_reported

pub returns-clause-refused : goal.returns-clause-refused
returns-clause-refused c = others_refused

pub returns-clause-usage : goal.returns-clause-usage
returns-clause-usage c = fronts_of_usage

pub returns-clause-fronts : goal.returns-clause-fronts
returns-clause-fronts c = fronts_of_reports

pub returns-clause-read : goal.returns-clause-read
returns-clause-read c = inputs_read

pub returns-clause-cut_off : goal.returns-clause-cut_off
returns-clause-cut_off c = faults_read_few

pub returns-clause-read_fault : goal.returns-clause-read_fault
returns-clause-read_fault c = read_faults_read_fewer

pub returns-clause-statuses : goal.returns-clause-statuses
returns-clause-statuses c = status_tells

pub returns-clause-zero : goal.returns-clause-zero
returns-clause-zero c = zero_done

pub returns-clause-unflushed : goal.returns-clause-unflushed
returns-clause-unflushed c = unflushed_cut_off
