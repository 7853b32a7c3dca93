use Rattle.std.proofs.Common.{map}
use Rattle.pol_optable.specs.ClassLines.{all_classes}
use Rattle.pol_cli.specs.Reports.{Subject}
use Rattle.pol_cli.proofs.SendLemmas.{err_of, items_front_more, items_sent, items_cut}
use Rattle.pol_cli.proofs.report.send_items.Goals as goal

-- the items of the classes were cut off
pub returns-in_err-classes-clause-front : goal.returns-in_err-classes-clause-front
returns-in_err-classes-clause-front g c =
    let file = c.args.file.now in
    err_of c.from_residual.result (items_front_more file.language (map Subject.OfClass all_classes) (map Subject.OfInstance file.instances) _ _ c.in_err-classes.ensures.front)

pub returns-clause-whole : goal.returns-clause-whole
returns-clause-whole g c =
    let file = c.args.file.now in
    items_sent file.language c.send_instances.result (map Subject.OfClass all_classes) (map Subject.OfInstance file.instances) _ _ _ c.in_ok-classes.ensures.whole c.send_instances.ensures.whole

pub returns-clause-front : goal.returns-clause-front
returns-clause-front g c =
    let file = c.args.file.now in
    items_cut file.language c.send_instances.result (map Subject.OfClass all_classes) (map Subject.OfInstance file.instances) _ _ _ c.in_ok-classes.ensures.whole c.send_instances.ensures.front
