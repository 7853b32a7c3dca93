use Rattle.std.proofs.Common.{◌≡◌, ◌||◌, ◌+◌, Bool, subst, take, arith}
use Rattle.pol_cli.specs.Checks.{AreJudged}
use Rattle.pol_cli.proofs.CheckLemmas.{AreJudged-next, or-there, or-not_there}
use Rattle.pol_cli.proofs.check.put_verdicts.Goals as goal
use Rattle.pol_cli.proofs.check.put_verdicts.Goals.{then-rejected, else-rejected}

pub loop-i-preserved : goal.loop-i-preserved
loop-i-preserved c =
    let file = c.args.file.now in
    let items = c.args.items.now in
    let next : AreJudged file (take (c.loop-i.i + 1) items) c.put_verdict_of.new.text (c.loop-i.rejected || c.in_ok-one.one) =
    AreJudged-next file items c.loop-i.i c.get.result.now c.loop-i.text c.put_verdict_of.new.text c.loop-i.rejected c.in_ok-one.one
    (omega (arith, c.loop-i-test.true, c.len-i-end.ensures.counted)) c.get.ensures.item c.loop-i.invariant c.in_ok-one.ensures.judged in
    let joined : (c.loop-i.rejected || c.in_ok-one.one) ≡ c.if-rejected.rejected =
    elim c.if-rejected.branch [
      | then-rejected w ↦ or-there c.loop-i.rejected c.in_ok-one.one c.if-rejected.rejected w.if-rejected.true w.rejected-is
      | else-rejected w ↦ or-not_there c.loop-i.rejected c.in_ok-one.one c.if-rejected.rejected w.if-rejected.false w.rejected-is
    ] in
    subst (λ (b : Bool). AreJudged file (take (c.loop-i.i + 1) items) c.put_verdict_of.new.text b) joined next
