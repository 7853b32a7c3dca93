use Rattle.std.proofs.Common.{◌≡◌, ℕ, ◌+◌, ◌<◌, ◌≤◌, ◌⊎◌, length, get_or}
use Rattle.pol_optable.proofs.breaking.put_raised.Given as goal

-- the numbers so far are put, and nothing else has changed
abbrev pub invariant-loop-i : goal.invariant-loop-i
invariant-loop-i l = record {
  long : length l.cells ≡ 125;
  raised : (k : ℕ) → k < l.i → get_or l.cells (l.at + k) 0 ≡ get_or l.fn.cells k 0 + l.more;
  kept : (k : ℕ) → (k < l.at) ⊎ (l.at + l.i ≤ k) → get_or l.cells k 0 ≡ get_or l.fn.cells k 0;
}
