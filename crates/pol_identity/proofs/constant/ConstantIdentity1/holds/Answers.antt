use Rattle.pol_identity.proofs.ConstantLemmas.{cells_from_constant, constant_from_cells, some_cells}
use Rattle.pol_identity.proofs.constant.ConstantIdentity1.holds.Goals as goal

pub is_one_value-requires : goal.is_one_value-requires
is_one_value-requires c =
    let same = c.cells.ensures.cells in
    record { some = some_cells c.args.t.now c.cells.result.now c.cells.ensures.table same }

pub returns : goal.returns
returns c =
    let same = c.cells.ensures.cells in
    let is = c.cells.ensures.table in
    record {
      satisfies = (
        λ yes. constant_from_cells c.args.t.now c.cells.result.now is same (c.is_one_value.ensures.same.0 yes),
        λ constant. c.is_one_value.ensures.same.1 (cells_from_constant c.args.t.now c.cells.result.now is same constant),
      );
    }
