use Rattle.std.proofs.Common.{arith}
use Rattle.pol_maltsev.proofs.FromRowsLemmas.{leader_found}
use Rattle.pol_maltsev.proofs.listing.leader.Goals as goal

-- no smaller value has a pair
pub returns-in-Some-clause-leads : goal.returns-in-Some-clause-leads
returns-in-Some-clause-leads c =
    let rows = c.args.rows.now in
    leader_found rows.domain c.args.i c.args.a c.loop-b.b c.in-Some.one c.in-Some.other rows.rows (omega (arith, c.loop-b-test.true, c.size-b-end.ensures.size, c.domain.ensures.domain))
    c.loop-b.invariant c.in-Some.ensures.least.shown
