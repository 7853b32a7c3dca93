use Rattle.std.proofs.Common.{[], ◌∷◌}
use Rattle.pol_cli.specs.Reports.{Subject}
use Rattle.pol_cli.proofs.PrintableItems.{instance_printable}
use Rattle.pol_cli.proofs.SendLemmas.{err_of, items_nothing, items_one, items_one_front}
use Rattle.pol_cli.proofs.report.send_instance.Goals as goal

-- memory ran out before the item
pub returns-in_err-item-clause-front : goal.returns-in_err-item-clause-front
returns-in_err-item-clause-front g c = err_of c.from_residual.result (items_nothing c.args.lang.now (Subject.OfInstance c.args.inst.now ∷ []) _)

pub send_item-requires : goal.send_item-requires
send_item-requires g c = record {
  printable = instance_printable c.args.lang.now c.args.inst.now c.in_ok-item.item c.requires.language c.requires.instance c.in_ok-item.ensures.item;
}

-- the item was cut off
pub returns-in_err-send_item-clause-front : goal.returns-in_err-send_item-clause-front
returns-in_err-send_item-clause-front g c =
    err_of c.from_residual-in_err-send_item.result (items_one_front c.args.lang.now (Subject.OfInstance c.args.inst.now) c.in_ok-item.item _ _ c.in_ok-item.ensures.item c.in_err-send_item.ensures.sends.front)

pub returns-clause-whole : goal.returns-clause-whole
returns-clause-whole g c =
    items_one c.args.lang.now (Subject.OfInstance c.args.inst.now) c.in_ok-item.item _ _ c.in_ok-item.ensures.item c.in_ok-send_item.ensures.sends.whole
