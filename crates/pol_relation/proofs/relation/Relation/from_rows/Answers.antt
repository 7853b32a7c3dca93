use Rattle.std.proofs.Common.{rules, ◌≡◌, ◌<◌, length}
use Rattle.pol_relation.proofs.TupleLemmas.{le-whole, IsReading-more, IsReading-done}
use Rattle.pol_relation.proofs.relation.Relation.from_rows.Goals as goal

pub split_at-requires : goal.split_at-requires
split_at-requires c =
    let more : 0 < length c.loop-rest.rest.now = search rules in
    le-whole _ _ more c.requires.some_places c.loop-rest.invariant.whole

pub loop-rest-preserved : goal.loop-rest-preserved
loop-rest-preserved c =
    let more : 0 < length c.loop-rest.rest.now = search rules in
    rw (c.split_at.ensures.back, c.in_ok-insert.ensures.ok, c.split_at.ensures.front) (IsReading-more _ _ c.loop-rest.relation c.loop-rest.rest.now _ c.requires.some_places more c.loop-rest.invariant)

pub returns-clause-members : goal.returns-clause-members
returns-clause-members c =
    let none : length c.loop-rest.rest.now ≡ 0 = search rules in
    IsReading-done _ _ c.loop-rest.relation c.loop-rest.rest.now _ c.requires.some_places none c.loop-rest.invariant
