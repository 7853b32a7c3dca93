use Rattle.pol_checker.proofs.VerdictLemmas.{verdict_one}
use Rattle.pol_cli.proofs.CheckLaws.{rejected_told}
use Rattle.pol_cli.proofs.DueLaws.{reports_checked, other_reports_refused, fronts_of_checks}
use Rattle.pol_cli.proofs.OwnReports.{own_reports_pass}
use Rattle.pol_cli.proofs.laws.check_laws.Goals as goal

pub returns-clause-checked : goal.returns-clause-checked
returns-clause-checked c = reports_checked

pub returns-clause-refused : goal.returns-clause-refused
returns-clause-refused c = other_reports_refused

pub returns-clause-rejected : goal.returns-clause-rejected
returns-clause-rejected c = rejected_told verdict_one

pub returns-clause-fronts : goal.returns-clause-fronts
returns-clause-fronts c = fronts_of_checks

pub returns-clause-own : goal.returns-clause-own
returns-clause-own c = own_reports_pass verdict_one
