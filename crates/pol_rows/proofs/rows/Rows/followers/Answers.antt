use Rattle.std.proofs.Common.{rules, ◌≡◌, length}
use Rattle.pol_rows.proofs.PairLemmas.{none_follows, follows_begins, follows_more, follows_ends}
use Rattle.pol_rows.proofs.rows.Rows.followers.Goals as goal

pub loop-rest-init : goal.loop-rest-init
loop-rest-init c = follows_begins _ _ _ _ _ c.order-rest.ensures.order.are_ascending (λ a b _. none_follows a b)

pub loop-rest-preserved : goal.loop-rest-preserved
loop-rest-preserved c =
    let values = rw c.split_at.ensures.front at c.values_at.ensures.values in
    rw c.split_at.ensures.back (follows_more _ _ _ _ _ _ _ _ _ c.loop-rest.invariant c.run_len.ensures.run values c.follow_each.ensures.followers)

pub returns : goal.returns
returns c =
    let ends : length c.loop-rest.rest.now ≡ 0 = search rules in
    record { followers = follows_ends _ _ _ _ _ _ c.order-rest.ensures.order c.loop-rest.invariant ends }
