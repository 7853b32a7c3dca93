use Rattle.std.proofs.Common.{◌≡◌, arith}
use Rattle.pol_rows.proofs.SizeLemmas.{size_counted}
use Rattle.pol_rows.proofs.rows.Rows.signature_size.Goals as goal

pub returns-clause-size : goal.returns-clause-size
returns-clause-size c =
    let all : c.loop-i.i ≡ c.args.self.now.width = omega (arith, c.loop-i-test.false, c.loop-i.auto.i-end, c.width-i-end.ensures.width) in
    size_counted _ _ _ _ _ all c.loop-i.invariant.0
