use Rattle.std.proofs.Common.{◌≤◌, length, arith}
use Rattle.pol_optable.proofs.SeekLemmas.{room_left}
use Rattle.pol_optable.specs.ValueWords.{word_count}
use Rattle.pol_optable.proofs.set_fn.SetFn.seek_in_room.Goals as goal

pub seek-requires-clause-some : goal.seek-requires-clause-some
seek-requires-clause-some c = omega (arith, c.requires.from, c.relation-relation.ensures.relation.some_places)

pub seek-requires-clause-room : goal.seek-requires-clause-room
seek-requires-clause-room c =
    let few : length c.args.from.now ≤ 6 = omega (arith, c.requires.from, c.relation-relation.ensures.relation.few_places) in
    let enough = room_left (length c.args.from.now) (word_count c.args.rows.now) (length c.args.room.now) few c.requires.room in
    omega (arith, enough, c.split_at_mut-all.ensures.back_len, c.word_count.ensures.count)
