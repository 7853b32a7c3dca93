use Rattle.std.proofs.Common.{arith, length, ◌≤◌, refl, sym}
use Rattle.std.proofs.lemmas.Bool.{true≢false}
use Rattle.pol_identity.proofs.NearUnanimityLemmas.{near_unanimity_from_rules, near_unanimity_cell}
use Rattle.pol_identity.proofs.near_unanimity.NearUnanimityIdentity.holds.Goals as goal

pub returns-then-not-obeys : goal.returns-then-not-obeys
returns-then-not-obeys g c = record {
  satisfies = (
    λ no. absurd (true≢false (sym no)),
    λ near. c.if-not-obeys.ensures.obeys.1
        (near_unanimity_cell g.row.K c.args.t.now c.domain-d.result c.cells-cells.result.now c.loop-cell.cell
        c.cells-cells.ensures.table c.domain-d.ensures.domain c.cells-cells.ensures.cells c.loop-cell-test.true near),
  );
}

pub returns : goal.returns
returns g c =
    let ended : length c.args.t.now.cells ≤ c.loop-cell.cell
    = rw (← c.cells-cells.ensures.cells) c.loop-cell-test.false in
    record {
      satisfies = (
        λ yes. near_unanimity_from_rules g.row.K c.args.t.now c.cells-cells.ensures.table c.requires.suited.0
            (λ cell known. c.loop-cell.invariant cell (omega (arith, known, ended))),
        λ near. refl,
      );
    }
