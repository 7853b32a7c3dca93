use Rattle.std.proofs.Common.{◌≡◌, ◌≤◌, ◌-◌, length}
use Rattle.std.specs.Io.KnownBytes.{Keeps}
use Rattle.pol_report.specs.Pieces.{known_length, piece_bytes}
use Rattle.pol_report.proofs.piece.Piece.flush.Given as goal

-- what was written and what is held are the bytes that there were
abbrev pub invariant-loop-self : goal.invariant-loop-self
invariant-loop-self g l = record {
  place : l.self.sink.ghost_name ≡ l.initial.self.sink.ghost_name;
  bytes : Keeps (piece_bytes (g.O.Sink.written l.initial.self.sink.now) l.initial.self.from l.initial.self.held.items)
      (piece_bytes (g.O.Sink.written l.self.sink.now) l.self.from l.self.held.items);
  sent : known_length (g.O.Sink.written l.initial.self.sink.now) ≤ known_length (g.O.Sink.written l.self.sink.now);
  calm : g.O.Sink.faults l.self.sink.now ≡ g.O.Sink.faults l.initial.self.sink.now;
}

-- fewer are left at each turn
abbrev pub decreases-loop-self : goal.decreases-loop-self
decreases-loop-self g l = length l.self.held.items - l.self.from
