use Rattle.std.proofs.Common.{ℕ, List, ◌↔◌}
use Rattle.pol_maltsev.specs.Compacts.{Members}
use Rattle.pol_maltsev.specs.Views.{InTable}
use Rattle.pol_maltsev.proofs.ListingLemmas.{rows_stand}
use Rattle.pol_maltsev.proofs.MeetTables.{reads_row_same}
use Rattle.pol_maltsev.proofs.compact.Compact.next.Goals as goal

-- the rows of the table represent its set
pub returns-clause-compact : goal.returns-clause-compact
returns-clause-compact c =
    rw c.new.ensures.rows (rows_stand c.args.op.now c.meet.new.self c.in_ok-to_rows.field-0 c.in_ok-meet.ensures.sound c.in_ok-meet.ensures.natural c.in_ok-to_rows.ensures.rows).0

-- the members that read a row
pub returns-clause-members : goal.returns-clause-members
returns-clause-members c t =
    let f = c.args.op.now in
    let old = c.in_ok-table.table in
    let rows = c.args.r.now.rows in
    let before : (u : List ℕ) → InTable f old u ↔ Members f c.args.self.now u = rw c.rows.ensures.rows at c.in_ok-table.ensures.set in
    let after = (rows_stand f c.meet.new.self c.in_ok-to_rows.field-0 c.in_ok-meet.ensures.sound c.in_ok-meet.ensures.natural c.in_ok-to_rows.ensures.rows).1 t in
    let met = c.in_ok-meet.ensures.set t in
    rw c.new.ensures.rows (
      λ h. reads_row_same (InTable f old) (Members f c.args.self.now) c.args.places.now rows (λ u. (before u).0) t (met.0 (after.0 h)),
      λ h. after.1 (met.1 (reads_row_same (Members f c.args.self.now) (InTable f old) c.args.places.now rows (λ u. (before u).1) t h)),
    )
