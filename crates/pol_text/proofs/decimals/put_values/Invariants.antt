use Rattle.std.proofs.Common.{◌≡◌, ◌≤◌, take}
use Rattle.std.specs.Io.KnownBytes.{Appends}
use Rattle.pol_text.specs.Texts.{spaced}
use Rattle.pol_text.proofs.decimals.put_values.Given as goal

-- those so far stand behind what was there, in the same place, and there was no fault
abbrev pub invariant-loop-value : goal.invariant-loop-value
invariant-loop-value g l = record {
  so_far : Appends (g.T.Text.bytes l.initial.out) (g.T.Text.bytes l.out) (spaced (take l.value-index l.values));
  place : g.T.Text.place l.out ≡ g.T.Text.place l.initial.out;
  sent : g.T.Text.sent l.initial.out ≤ g.T.Text.sent l.out;
  calm : g.T.Text.faults l.out ≡ g.T.Text.faults l.initial.out;
}
