use Rattle.std.proofs.Common.{◌≡◌, ℕ, ◌++◌, List, length}
use Rattle.std.specs.Io.KnownBytes.{Appends}
use Rattle.pol_outside.proofs.writing.write_all.Given as goal

-- what was written and what is left are the bytes, and no write failed
abbrev pub invariant-loop-rest : goal.invariant-loop-rest
invariant-loop-rest g l = record {
  split : (front : List ℕ) × (l.bytes ≡ front ++ l.rest) × Appends (g.O.Sink.written l.initial.sink) (g.O.Sink.written l.sink) front;
  calm : g.O.Sink.faults l.sink ≡ g.O.Sink.faults l.initial.sink;
}

abbrev pub decreases-loop-rest : goal.decreases-loop-rest
decreases-loop-rest g l = length l.rest
