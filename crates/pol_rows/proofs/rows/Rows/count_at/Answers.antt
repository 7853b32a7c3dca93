use Rattle.std.proofs.Common.{rules, ◌≡◌, arith, length, take}
use Rattle.pol_rows.proofs.SizeLemmas.{pairs_counted}
use Rattle.pol_rows.proofs.rows.Rows.count_at.Goals as goal

pub returns-clause-count : goal.returns-clause-count
returns-clause-count c =
    let long : length c.followers-followers.result ≡ 5 = search rules in
    let all : c.loop-values.values-index ≡ length (take c.size.result c.followers-followers.result) = omega (arith, c.loop-values-test.false, c.loop-values.auto.values-index-end) in
    rw (← c.domain-d.ensures.domain)
    (pairs_counted _ _ _ _ _ _ _ c.size.ensures.within.few long c.size.ensures.size all c.loop-values.invariant.0 c.followers-followers.ensures.followers)
