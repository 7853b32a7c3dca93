use Rattle.std.proofs.Common.{◌≡◌}
use Rattle.std.specs.Prelude.{slice_index}
use Rattle.pol_maltsev.specs.Tables.{step}
use Rattle.pol_maltsev.specs.Views.{sides_at}
use Rattle.pol_maltsev.proofs.SwapTables.{late_made}
use Rattle.pol_maltsev.proofs.table.Table.late_value.Goals as goal

-- the row of the value, moved to what the row of the root has at the other place
pub returns : goal.returns
returns c =
    let s = sides_at c.args.self.now c.args.k in
    let moved : c.in_ok-moved.moved ≡ step c.args.op.now c.args.self.now.width s.y s.ry (s.rx c.args.a) (slice_index (s.rx c.late_root-root.result) s.y) =
    cc (c.in_ok-moved.ensures.step, c.place-x.ensures.place, c.place-y.ensures.place, c.row-row.ensures.row, c.row.ensures.row) in
    record { made = rw moved (late_made c.args.op.now c.args.k c.args.a c.late_root-root.result c.args.self.now c.requires.sound c.requires.position c.requires.value c.late_root-root.ensures.root) }
