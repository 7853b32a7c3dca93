use Rattle.std.proofs.Common.{◌≡◌, map, take}
use Rattle.pol_optable.specs.ClassLines.{all_classes}
use Rattle.pol_classify.specs.Found.{AreFound}
use Rattle.pol_cli.specs.Reports.{Subject, AppendsItems}
use Rattle.pol_cli.proofs.report.send_classes.Given as goal

-- the lines of the classes so far were found, and their items sent
abbrev pub invariant-loop-class : goal.invariant-loop-class
invariant-loop-class g l = record {
  found : AreFound l.file.language l.class-index l.classes;
  sent : AppendsItems l.file.language (map Subject.OfClass (take l.class-index all_classes)) (g.O.Sink.written l.initial.sink) (g.O.Sink.written l.sink);
  calm : g.O.Sink.faults l.sink ≡ g.O.Sink.faults l.initial.sink;
}
