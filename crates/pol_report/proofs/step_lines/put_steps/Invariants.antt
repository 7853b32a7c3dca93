use Rattle.std.proofs.Common.{◌≡◌, ◌≤◌, take}
use Rattle.std.specs.Io.KnownBytes.{Appends}
use Rattle.pol_text.specs.Texts.{joined}
use Rattle.pol_report.specs.Texts.{step_line}
use Rattle.pol_report.proofs.step_lines.put_steps.Given as goal

-- the steps so far stand behind what was there, in the same place, and there was no fault
abbrev pub invariant-loop-s : goal.invariant-loop-s
invariant-loop-s g l = record {
  so_far : Appends (g.T.Text.bytes l.initial.out) (g.T.Text.bytes l.out) (joined step_line (take l.s l.log));
  place : g.T.Text.place l.out ≡ g.T.Text.place l.initial.out;
  sent : g.T.Text.sent l.initial.out ≤ g.T.Text.sent l.out;
  calm : g.T.Text.faults l.out ≡ g.T.Text.faults l.initial.out;
}
