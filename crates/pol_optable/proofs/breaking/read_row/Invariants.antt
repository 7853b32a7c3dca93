use Rattle.std.proofs.Common.{◌≡◌, ℕ, ◌+◌, ◌*◌, ◌<◌, ◌≤◌, length, get_or}
use Rattle.pol_optable.proofs.breaking.read_row.Given as goal

-- the places so far are read, and the others are as they were
abbrev pub invariant-loop-place : goal.invariant-loop-place
invariant-loop-place l = record {
  long : length l.firsts ≡ 6;
  read : (k : ℕ) → k < l.place → get_or l.firsts k 0 ≡ (get_or l.fn.firsts k 0 + get_or l.row k 0) * l.size;
  kept : (k : ℕ) → l.place ≤ k → get_or l.firsts k 0 ≡ get_or l.fn.firsts k 0;
}
