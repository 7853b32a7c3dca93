use Rattle.std.proofs.Common.{◌≡◌, ◌-◌, ◌^◌, ◌<◌, length, arith}
use Rattle.pol_relation.proofs.WeightLemmas.{named_at, weight_of-next}
use Rattle.pol_relation.proofs.language.Language.weight.Goals as goal

pub loop-i-preserved : goal.loop-i-preserved
loop-i-preserved c =
    let relations = c.args.self.now.relations in
    let inside : c.loop-i.i < length relations = omega (arith, c.loop-i-test.true, c.len-i-end.ensures.relations) in
    let rows : c.from-rows.result ≡ length (named_at relations c.loop-i.i).relation.rows = cc (c.from-rows.ensures, c.len.ensures.rows, c.relation.ensures.relation) in
    rw (c.saturating_add-weight.ensures, c.saturating_pow.ensures, c.loop-i.invariant, rows) (weight_of-next c.args.k relations c.loop-i.i (2 ^ 64 - 1) inside)
