use Rattle.std.proofs.Common.{◌≤◌, arith}
use Rattle.pol_report.specs.Pieces.{known_length}
use Rattle.pol_report.specs.Texts.{last_line}
use Rattle.pol_report.proofs.PieceLemmas.{sends_cut, sends_all}
use Rattle.pol_report.proofs.sending.last_through.Goals as goal

pub returns-in_err-put_last-clause-sends : goal.returns-in_err-put_last-clause-sends
returns-in_err-put_last-clause-sends g c =
    sends_cut c.from_residual.result _ _ _ _ _ _ last_line c.from_residual.ensures.0 c.requires.empty c.in_err-put_last.ensures.sent c.in_err-put_last.ensures.puts c.in_err-put_last.ensures.fault

pub returns-clause-sends : goal.returns-clause-sends
returns-clause-sends g c =
    let longer : known_length (g.O.Sink.written c.args.piece.now.sink.now) ≤ known_length (g.O.Sink.written c.flush.new.self.sink.now) = omega (arith, c.in_ok-put_last.ensures.sent, c.flush.ensures.sent) in
    sends_all c.flush.result _ _ _ _ _ _ _ last_line c.requires.empty longer c.in_ok-put_last.ensures.puts c.flush.ensures.bytes c.flush.ensures.empty
    (rw c.in_ok-put_last.ensures.calm at c.flush.ensures.calm) (rw c.in_ok-put_last.ensures.calm at c.flush.ensures.fault)
