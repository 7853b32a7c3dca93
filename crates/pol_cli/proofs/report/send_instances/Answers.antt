use Rattle.std.proofs.Common.{◌∙◌, arith}
use Rattle.pol_lang.specs.Files.{no_instance}
use Rattle.pol_cli.specs.Reports.{Subject}
use Rattle.pol_cli.proofs.SendLemmas.{err_of, one_sent, one_cut, all_sent}
use Rattle.pol_cli.proofs.report.send_instances.Goals as goal

-- the item of one more instance
pub loop-i-preserved : goal.loop-i-preserved
loop-i-preserved g c =
    let file = c.args.file.now in
    let one = rw (c.lang.ensures.language, c.instance.ensures.instance) at c.in_ok-send_instance.ensures.whole in
    record {
      sent = one_sent file.language Subject.OfInstance file.instances c.loop-i.i no_instance (omega arith) _ _ _ c.loop-i.invariant.sent one;
      calm = c.in_ok-send_instance.ensures.calm ∙ c.loop-i.invariant.calm;
    }

-- it was cut off
pub returns-in_err-send_instance-clause-front : goal.returns-in_err-send_instance-clause-front
returns-in_err-send_instance-clause-front g c =
    let file = c.args.file.now in
    let one = rw (c.lang.ensures.language, c.instance.ensures.instance) at c.in_err-send_instance.ensures.front in
    err_of c.from_residual.result (one_cut file.language Subject.OfInstance file.instances c.loop-i.i no_instance (omega arith) _ _ _ c.loop-i.invariant.sent one)

pub returns-clause-whole : goal.returns-clause-whole
returns-clause-whole g c =
    let file = c.args.file.now in
    all_sent file.language Subject.OfInstance file.instances c.loop-i.i _ _ (omega (arith, c.instances-i-end.ensures.count)) c.loop-i.invariant.sent
