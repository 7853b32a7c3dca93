use Rattle.std.proofs.Common.{◌≡◌, map, take}
use Rattle.pol_cli.specs.Reports.{Subject, AppendsItems}
use Rattle.pol_cli.proofs.report.send_instances.Given as goal

-- the items of the instances so far were sent
abbrev pub invariant-loop-i : goal.invariant-loop-i
invariant-loop-i g l = record {
  sent : AppendsItems l.file.language (map Subject.OfInstance (take l.i l.file.instances)) (g.O.Sink.written l.initial.sink) (g.O.Sink.written l.sink);
  calm : g.O.Sink.faults l.sink ≡ g.O.Sink.faults l.initial.sink;
}
