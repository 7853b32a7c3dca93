use Rattle.std.proofs.Common.{sym, ap, ◌∙◌}
use Rattle.std.specs.List.{list_any}
use Rattle.std.specs.Iterator.Adapters.{zip_first, zip_second}
use Rattle.std.specs.Slice.Iter.{iter_rest}
use Rattle.std.proofs.lemmas.Slice.Zip.{either_empty_from_Zip}
use Rattle.pol_nogood.specs.Nogoods.{Pair}
use Rattle.pol_nogood.specs.LogFaults.{same_pair}
use Rattle.pol_nogood.proofs.PairWalks.{reading-ended}
use Rattle.pol_nogood.proofs.cases.reads.Goals as goal

pub returns : goal.returns
returns c =
    let p : Pair = record { variable = c.args.variable; value = c.args.value } in
    let left = c.loop-other.other-iterator in
    let ended = reading-ended (iter_rest (zip_first left)) (iter_rest (zip_second left)) (either_empty_from_Zip left c.next.new.self c.next.result c.in-None.is c.next.ensures.steps) in
    record { read = sym (ap (list_any (λ q. same_pair p q)) ended) ∙ c.loop-other.invariant }
