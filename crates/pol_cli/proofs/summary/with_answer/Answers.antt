use Rattle.pol_cli.proofs.TallyLemmas.{adds_some_yes, adds_some_no}
use Rattle.pol_cli.proofs.summary.with_answer.Goals as goal

pub returns-in-Yes-clause-adds : goal.returns-in-Yes-clause-adds
returns-in-Yes-clause-adds c = adds_some_yes c.args.given.now c.args.tally c.in-Yes.is

pub returns-in-NoLog-clause-adds : goal.returns-in-NoLog-clause-adds
returns-in-NoLog-clause-adds c = adds_some_no c.args.given.now c.args.tally c.in-NoLog.is
