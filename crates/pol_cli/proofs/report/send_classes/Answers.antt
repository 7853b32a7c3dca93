use Rattle.std.proofs.Common.{◌∙◌, get_or}
use Rattle.pol_base.specs.declared.class_name.ClassName.TheVariants.{Constant}
use Rattle.pol_optable.specs.ClassLines.{all_classes}
use Rattle.pol_classify.proofs.FoundLemmas.{found_behind}
use Rattle.pol_cli.specs.Reports.{Subject}
use Rattle.pol_cli.proofs.SendLemmas.{err_of, one_sent, one_cut}
use Rattle.pol_cli.proofs.report.send_classes.Goals as goal

-- the item of one more class
pub loop-class-preserved : goal.loop-class-preserved
loop-class-preserved g c =
    let lang = c.args.file.now.language in
    let i = c.loop-class.class-index in
    let class = get_or all_classes i Constant in
    let one = rw c.lang-lang.ensures.language at c.in_ok-send_class.ensures.whole in
    record {
      found = found_behind lang c.send_class.new.classes i c.loop-class-test.true (rw c.lang-lang.ensures.language at c.in_ok-send_class.ensures.found);
      sent = one_sent lang Subject.OfClass all_classes i Constant c.loop-class-test.true _ _ _ c.loop-class.invariant.sent one;
      calm = c.in_ok-send_class.ensures.calm ∙ c.loop-class.invariant.calm;
    }

-- it was cut off
pub returns-in_err-send_class-clause-front : goal.returns-in_err-send_class-clause-front
returns-in_err-send_class-clause-front g c =
    let lang = c.args.file.now.language in
    let one = rw c.lang-lang.ensures.language at c.in_err-send_class.ensures.front in
    err_of c.from_residual.result (one_cut lang Subject.OfClass all_classes c.loop-class.class-index Constant c.loop-class-test.true _ _ _ c.loop-class.invariant.sent one)
