use Rattle.std.proofs.Common.{[], ◌∷◌, codes, decimal}
use Rattle.pol_base.specs.Names.{class_word}
use Rattle.pol_report.proofs.PrintLemmas.{line_front_cut, line_token}
use Rattle.pol_report.proofs.printing.put_counted.Goals as goal

pub returns-in_err-put_answered-clause-puts : goal.returns-in_err-put_answered-clause-puts
returns-in_err-put_answered-clause-puts g c =
    line_front_cut c.from_residual.result _ _ (codes "instance") (c.args.name.now ∷ codes "no" ∷ class_word c.args.class ∷ []) (decimal c.args.lines ∷ []) c.from_residual.ensures.0 c.in_err-put_answered.ensures.puts

pub returns-clause-puts : goal.returns-clause-puts
returns-clause-puts g c =
    line_token c.put_spaced.result _ _ _ (codes "instance") (c.args.name.now ∷ codes "no" ∷ class_word c.args.class ∷ []) (decimal c.args.lines) c.in_ok-put_answered.ensures.puts (rw c.from.ensures at c.put_spaced.ensures.puts)
