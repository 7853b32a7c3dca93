use Rattle.std.proofs.Common.{◌≡◌}
use Rattle.std.specs.List.{list_all}
use Rattle.std.specs.Iterator.Adapters.{zip_first, zip_second}
use Rattle.std.specs.Slice.Iter.{iter_rest}
use Rattle.pol_nogood.specs.Logs.{reading}
use Rattle.pol_nogood.specs.FirstPlaces.{agrees_first}
use Rattle.pol_nogood.proofs.cases.reads_one_value.Given as goal

-- what is left to read tells what all does
abbrev pub invariant-loop-variable : goal.invariant-loop-variable
invariant-loop-variable l = list_all (agrees_first l.scope l.row) (reading (iter_rest (zip_first l.variable-iterator)) (iter_rest (zip_second l.variable-iterator))) ≡ list_all (agrees_first l.scope l.row) (reading l.scope l.row)
