use Rattle.std.proofs.Common.{◌≡◌, length}
use Rattle.pol_csp.specs.Words.{TellReads}
use Rattle.pol_csp.proofs.words.withs_of.Given as goal

abbrev pub invariant-loop-k : goal.invariant-loop-k
invariant-loop-k l = record {
  counted : length l.withs.items ≡ l.k;
  reads : TellReads l.fn.r.rows l.withs.items;
}
