use Rattle.std.proofs.Common.{◌≡◌, ◌<◌, ◌-◌, ◌∙◌, List, [], ◌++◌, length, take, drop, ap, arith}
use Rattle.std.proofs.lemmas.Bool.{OnTrue_at}
use Rattle.std.proofs.lemmas.List.{length-take}
use Rattle.pol_nogood.specs.Nogoods.{Pair}
use Rattle.pol_strong.proofs.PushLemmas.{pushed_between}
use Rattle.pol_strong.proofs.InsertLemmas.{with_pair-place}
use Rattle.pol_strong.proofs.nogoods.with_pair.Goals as goal

pub returns : goal.returns
returns c =
    let p : Pair = record { variable = c.args.v; value = c.args.a } in
    let place = c.lower_pairs-place.ensures in
    let k = c.lower_pairs-place.result in
    let front : c.push_pairs.new.to ≡ [] ++ take (k - 0) (drop 0 c.args.nogood.now) = c.push_pairs.ensures.pushed ∙ ap (λ (ps : List Pair). ps ++ take (k - 0) (drop 0 c.args.nogood.now)) c.new-more.ensures.empty in
    let few : length c.push_pairs.new.to < 3 = omega (arith, ap length front, length-take (k - 0) c.args.nogood.now, place.known, c.requires.room) in
    record {
      more = pushed_between p c.args.nogood.now c.push_pairs.new.to c.push.new.self c.push_pairs-2.new.to k c.len-count.result place.known c.len-count.ensures.pairs front (OnTrue_at (c.push.ensures.added.1 few) c.push.ensures.pair) c.push_pairs-2.ensures.pushed
          ∙ with_pair-place p c.args.nogood.now k place.known place.below place.above;
    }
