use Rattle.std.proofs.Common.{◌≡◌, length}
use Rattle.pol_csp.specs.Words.{TellEquals}
use Rattle.pol_csp.proofs.words.equals_of.Given as goal

abbrev pub invariant-loop-k : goal.invariant-loop-k
invariant-loop-k l = record {
  counted : length l.equals.items ≡ l.k;
  equal : TellEquals l.fn.r.rows l.equals.items;
}
