use Rattle.pol_maltsev.proofs.ListingLemmas.{rows_stand}
use Rattle.pol_maltsev.proofs.compact.Compact.full.Goals as goal

-- the rows of the table represent its set
pub returns-clause-compact : goal.returns-clause-compact
returns-clause-compact c =
    let v = c.in_ok-full.field-0 in
    rw c.new.ensures.rows (rows_stand c.args.op.now v c.in_ok-to_rows.field-0 c.in_ok-full.ensures.sound (rw c.in_ok-full.ensures.width c.in_ok-full.ensures.order) c.in_ok-to_rows.ensures.rows).0

-- of all tuples
pub returns-clause-members : goal.returns-clause-members
returns-clause-members c t =
    let v = c.in_ok-full.field-0 in
    let stand = rows_stand c.args.op.now v c.in_ok-to_rows.field-0 c.in_ok-full.ensures.sound (rw c.in_ok-full.ensures.width c.in_ok-full.ensures.order) c.in_ok-to_rows.ensures.rows in
    rw c.new.ensures.rows (λ h. (c.in_ok-full.ensures.set t).0 ((stand.1 t).0 h), λ h. (stand.1 t).1 ((c.in_ok-full.ensures.set t).1 h))
