use Rattle.pol_cli.proofs.SendLemmas.{err_of, report_cut_in_head, report_cut_in_items, report_cut_in_last, report_whole}
use Rattle.pol_cli.proofs.report.send_report.Goals as goal

pub returns-in_err-send_head-clause-front : goal.returns-in_err-send_head-clause-front
returns-in_err-send_head-clause-front g c =
    err_of c.from_residual.result (report_cut_in_head c.args.file.now _ _ c.in_err-send_head.ensures.sends.front)

pub returns-in_err-send_items-clause-front : goal.returns-in_err-send_items-clause-front
returns-in_err-send_items-clause-front g c =
    err_of c.from_residual-in_err-send_items.result (report_cut_in_items c.args.file.now _ _ _ c.in_ok-send_head.ensures.sends.whole c.in_err-send_items.ensures.front)

pub returns-in_err-send_last-clause-front : goal.returns-in_err-send_last-clause-front
returns-in_err-send_last-clause-front g c =
    err_of c.from_residual-in_err-send_last.result (report_cut_in_last c.args.file.now _ _ _ _ c.in_ok-send_head.ensures.sends.whole c.in_ok-send_items.ensures.whole c.in_err-send_last.ensures.sends.front)

pub returns-clause-whole : goal.returns-clause-whole
returns-clause-whole g c =
    report_whole c.args.file.now _ _ _ _ c.in_ok-send_head.ensures.sends.whole c.in_ok-send_items.ensures.whole c.in_ok-send_last.ensures.sends.whole
