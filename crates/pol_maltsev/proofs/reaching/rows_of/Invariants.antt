use Rattle.std.proofs.Common.{◌≡◌, take}
use Rattle.pol_maltsev.proofs.reaching.rows_of.Given as goal

-- the tuples before are rows
abbrev pub invariant-loop-tuple : goal.invariant-loop-tuple
invariant-loop-tuple l = l.rows ≡ record { domain = l.fn.d; width = l.n; rows = take l.tuple-index l.tuples }
