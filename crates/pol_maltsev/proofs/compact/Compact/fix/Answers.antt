use Rattle.std.proofs.Common.{ℕ, List, ◌↔◌}
use Rattle.pol_maltsev.specs.Compacts.{Members}
use Rattle.pol_maltsev.specs.Views.{InTable}
use Rattle.pol_maltsev.proofs.ListingLemmas.{rows_stand}
use Rattle.pol_maltsev.proofs.FixingLemmas.{begins_same}
use Rattle.pol_maltsev.proofs.compact.Compact.fix.Goals as goal

-- the rows of the table represent its set
pub returns-clause-compact : goal.returns-clause-compact
returns-clause-compact c =
    rw c.new.ensures.rows (rows_stand c.args.op.now c.in_ok-fixed.fixed c.in_ok-to_rows.field-0 c.in_ok-fixed.ensures.sound c.in_ok-fixed.ensures.natural c.in_ok-to_rows.ensures.rows).0

-- the members that begin with the front
pub returns-clause-members : goal.returns-clause-members
returns-clause-members c t =
    let f = c.args.op.now in
    let old = c.in_ok-of_rows.field-0 in
    let before : (u : List ℕ) → InTable f old u ↔ Members f c.args.self.now u = rw c.rows.ensures.rows at c.in_ok-of_rows.ensures.set in
    let after = (rows_stand f c.in_ok-fixed.fixed c.in_ok-to_rows.field-0 c.in_ok-fixed.ensures.sound c.in_ok-fixed.ensures.natural c.in_ok-to_rows.ensures.rows).1 t in
    let fixed = c.in_ok-fixed.ensures.set t in
    rw c.new.ensures.rows (
      λ h. begins_same (InTable f old) (Members f c.args.self.now) c.args.front.now (λ u. (before u).0) t (fixed.0 (after.0 h)),
      λ h. after.1 (fixed.1 (begins_same (Members f c.args.self.now) (InTable f old) c.args.front.now (λ u. (before u).1) t h)),
    )
