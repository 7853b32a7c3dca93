use Rattle.std.proofs.Common.{[], ◌∷◌}
use Rattle.pol_optable.specs.Choices.{line_in}
use Rattle.pol_classify.proofs.FoundLemmas.{last_found}
use Rattle.pol_cli.specs.Reports.{Subject, IsClassItem}
use Rattle.pol_cli.proofs.PrintableItems.{class_printable}
use Rattle.pol_cli.proofs.SendLemmas.{err_of, items_nothing, items_one, items_one_front}
use Rattle.pol_cli.proofs.report.send_class.Goals as goal

-- memory ran out before the item
pub returns-in_err-find_line-clause-front : goal.returns-in_err-find_line-clause-front
returns-in_err-find_line-clause-front g c = err_of c.from_residual.result (items_nothing c.args.lang.now (Subject.OfClass c.args.class ∷ []) _)

pub returns-in_err-item-clause-front : goal.returns-in_err-item-clause-front
returns-in_err-item-clause-front g c = err_of c.from_residual-in_err-item.result (items_nothing c.args.lang.now (Subject.OfClass c.args.class ∷ []) _)

pub send_item-requires : goal.send_item-requires
send_item-requires g c =
    let lang = c.args.lang.now in
    let class = c.args.class in
    let line = last_found lang c.find_line.new.classes class c.in_ok-find_line.ensures.found in
    let right : IsClassItem lang class c.in_ok-item.item = record { line = line_in c.find_line.new.classes class; is_line = line; item_is = c.in_ok-item.ensures.item } in
    record { printable = class_printable lang class c.in_ok-item.item c.requires.language right }

-- the item was cut off
pub returns-in_err-send_item-clause-front : goal.returns-in_err-send_item-clause-front
returns-in_err-send_item-clause-front g c =
    let lang = c.args.lang.now in
    let class = c.args.class in
    let line = last_found lang c.find_line.new.classes class c.in_ok-find_line.ensures.found in
    let right : IsClassItem lang class c.in_ok-item.item = record { line = line_in c.find_line.new.classes class; is_line = line; item_is = c.in_ok-item.ensures.item } in
    err_of c.from_residual-in_err-send_item.result (items_one_front lang (Subject.OfClass class) c.in_ok-item.item _ _ right c.in_err-send_item.ensures.sends.front)

pub returns-clause-whole : goal.returns-clause-whole
returns-clause-whole g c =
    let lang = c.args.lang.now in
    let class = c.args.class in
    let line = last_found lang c.find_line.new.classes class c.in_ok-find_line.ensures.found in
    let right : IsClassItem lang class c.in_ok-item.item = record { line = line_in c.find_line.new.classes class; is_line = line; item_is = c.in_ok-item.ensures.item } in
    items_one lang (Subject.OfClass class) c.in_ok-item.item _ _ right c.in_ok-send_item.ensures.sends.whole
