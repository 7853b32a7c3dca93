use Rattle.std.proofs.Common.{◌≡◌, ℕ, ◌<◌, get_or}
use Rattle.pol_maltsev.proofs.reading.reads.Given as goal

-- the values before are the word's
abbrev pub invariant-loop-k : goal.invariant-loop-k
invariant-loop-k l = (i : ℕ) → i < l.k → get_or l.row (get_or l.places i 0) 0 ≡ get_or l.word i 0
