use Rattle.pol_cli.proofs.DueLaws.{files_summarized, fronts_of_summaries}
use Rattle.pol_cli.proofs.SummaryLaws.{summary_once, summary_adds_up}
use Rattle.pol_cli.proofs.laws.summary_laws.Goals as goal

pub returns-clause-summarized : goal.returns-clause-summarized
returns-clause-summarized c = files_summarized

pub returns-clause-one : goal.returns-clause-one
returns-clause-one c = summary_once

pub returns-clause-adds_up : goal.returns-clause-adds_up
returns-clause-adds_up c = summary_adds_up

pub returns-clause-fronts : goal.returns-clause-fronts
returns-clause-fronts c = fronts_of_summaries
