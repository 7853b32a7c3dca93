use Rattle.std.proofs.Common.{◌≡◌, ◌≤◌, take}
use Rattle.std.specs.Io.KnownBytes.{Appends}
use Rattle.pol_text.specs.Texts.{joined, spaced_texts}
use Rattle.pol_report.specs.Texts.{pair_tokens}
use Rattle.pol_report.proofs.step_lines.put_pairs.Given as goal

-- the pairs so far stand behind what was there, in the same place, and there was no fault
abbrev pub invariant-loop-i : goal.invariant-loop-i
invariant-loop-i g l = record {
  so_far : Appends (g.T.Text.bytes l.initial.out) (g.T.Text.bytes l.out) (joined (λ p. spaced_texts (pair_tokens p)) (take l.i l.nogood));
  place : g.T.Text.place l.out ≡ g.T.Text.place l.initial.out;
  sent : g.T.Text.sent l.initial.out ≤ g.T.Text.sent l.out;
  calm : g.T.Text.faults l.out ≡ g.T.Text.faults l.initial.out;
}
