use Rattle.std.proofs.Common.{take}
use Rattle.pol_optable.proofs.RowSetLemmas.{MarksSome, HalvesSome}
use Rattle.pol_optable.proofs.row_set.mark_rows.Given as goal

abbrev pub invariant-loop-i : goal.invariant-loop-i
invariant-loop-i l = record {
  marks : MarksSome l.relation (take l.i l.relation.rows) l.marks;
  halves : HalvesSome l.relation l.i l.fronts l.backs;
}
