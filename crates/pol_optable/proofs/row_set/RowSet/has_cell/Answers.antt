use Rattle.std.proofs.Common.{arith}
use Rattle.pol_relation.specs.Relations.{IsRelation}
use Rattle.pol_optable.specs.RowSets.{MarksRows}
use Rattle.pol_optable.proofs.RowSetLemmas.{marked_cell}
use Rattle.pol_optable.proofs.row_set.RowSet.has_cell.Goals as goal

pub bounds-self-inside-cell : goal.bounds-self-inside-cell
bounds-self-inside-cell c =
    let marks : MarksRows c.args.self.now c.self.inside.marks.now = rw (← c.self.view_is) c.self.invariant.marks_rows in
    omega (arith, c.requires.known, marks.counted)

pub returns : goal.returns
returns c =
    let is : IsRelation c.args.self.now = rw (← c.self.view_is) c.domain-domain.ensures.relation in
    let marks : MarksRows c.args.self.now c.self.inside.marks.now = rw (← c.self.view_is) c.self.invariant.marks_rows in
    record { row = marked_cell c.args.self.now c.self.inside.marks.now c.args.cell is marks c.requires.known }
