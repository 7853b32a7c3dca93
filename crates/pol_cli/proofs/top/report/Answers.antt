use Rattle.std.proofs.Common.{refl}
use Rattle.pol_cli.specs.Runs.Reports.{whole}
use Rattle.pol_cli.proofs.top.report.Goals as goal

pub returns-in-Ok : goal.returns-in-Ok
returns-in-Ok g c = record { reports = whole refl c.in-Ok.ensures.whole c.in-Ok.ensures.calm }
