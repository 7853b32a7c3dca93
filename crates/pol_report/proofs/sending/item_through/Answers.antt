use Rattle.std.proofs.Common.{◌≤◌, arith}
use Rattle.pol_report.specs.Pieces.{known_length}
use Rattle.pol_report.specs.Texts.{item_text}
use Rattle.pol_report.proofs.PieceLemmas.{sends_cut, sends_all}
use Rattle.pol_report.proofs.sending.item_through.Goals as goal

pub returns-in_err-put_item-clause-sends : goal.returns-in_err-put_item-clause-sends
returns-in_err-put_item-clause-sends g c =
    sends_cut c.from_residual.result _ _ _ _ _ _ (item_text c.args.item.now) c.from_residual.ensures.0 c.requires.empty c.in_err-put_item.ensures.sent c.in_err-put_item.ensures.puts c.in_err-put_item.ensures.fault

pub returns-clause-sends : goal.returns-clause-sends
returns-clause-sends g c =
    let longer : known_length (g.O.Sink.written c.args.piece.now.sink.now) ≤ known_length (g.O.Sink.written c.flush.new.self.sink.now) = omega (arith, c.in_ok-put_item.ensures.sent, c.flush.ensures.sent) in
    sends_all c.flush.result _ _ _ _ _ _ _ (item_text c.args.item.now) c.requires.empty longer c.in_ok-put_item.ensures.puts c.flush.ensures.bytes c.flush.ensures.empty
    (rw c.in_ok-put_item.ensures.calm at c.flush.ensures.calm) (rw c.in_ok-put_item.ensures.calm at c.flush.ensures.fault)
