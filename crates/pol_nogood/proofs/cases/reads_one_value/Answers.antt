use Rattle.std.proofs.Common.{sym, ap, ◌∙◌}
use Rattle.std.specs.List.{list_all}
use Rattle.std.specs.Iterator.Adapters.{zip_first, zip_second}
use Rattle.std.specs.Slice.Iter.{iter_rest}
use Rattle.std.proofs.lemmas.Slice.Zip.{either_empty_from_Zip}
use Rattle.pol_nogood.specs.FirstPlaces.{agrees_first}
use Rattle.pol_nogood.proofs.PairWalks.{reading-ended}
use Rattle.pol_nogood.proofs.cases.reads_one_value.Goals as goal

pub returns : goal.returns
returns c =
    let left = c.loop-variable.variable-iterator in
    let ended = reading-ended (iter_rest (zip_first left)) (iter_rest (zip_second left)) (either_empty_from_Zip left c.next.new.self c.next.result c.in-None.is c.next.ensures.steps) in
    record { read = sym (ap (list_all (agrees_first c.args.scope.now c.args.row.now)) ended) ∙ c.loop-variable.invariant }
