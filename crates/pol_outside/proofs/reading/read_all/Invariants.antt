use Rattle.std.proofs.Common.{◌≡◌, ◌-◌, ◌≤◌, length}
use Rattle.std.specs.Io.KnownBytes.{Consumes}
use Rattle.pol_outside.proofs.reading.read_all.Given as goal

-- all that was taken is held, it is no more than the limit, and no read failed
abbrev pub invariant-loop-taken : goal.invariant-loop-taken
invariant-loop-taken g l = record {
  held : Consumes (g.S.Source.left l.initial.source) (g.S.Source.left l.source) l.taken;
  within : length l.taken ≤ l.limit;
  calm : g.S.Source.faults l.source ≡ g.S.Source.faults l.initial.source;
}

abbrev pub decreases-loop-taken : goal.decreases-loop-taken
decreases-loop-taken g l = l.limit - length l.taken
