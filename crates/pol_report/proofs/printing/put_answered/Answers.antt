use Rattle.std.proofs.Common.{[], ◌∷◌, codes}
use Rattle.pol_base.specs.Names.{class_word}
use Rattle.pol_report.proofs.PrintLemmas.{line_front_cut, line_token}
use Rattle.pol_report.proofs.printing.put_answered.Goals as goal

pub returns-in_err-put_begun-clause-puts : goal.returns-in_err-put_begun-clause-puts
returns-in_err-put_begun-clause-puts g c =
    line_front_cut c.from_residual.result _ _ (codes "instance") (c.args.name.now ∷ c.args.answer.now ∷ []) (class_word c.args.class ∷ []) c.from_residual.ensures.0 c.in_err-put_begun.ensures.puts

pub returns-clause-puts : goal.returns-clause-puts
returns-clause-puts g c =
    line_token c.put_token.result _ _ _ (codes "instance") (c.args.name.now ∷ c.args.answer.now ∷ []) (class_word c.args.class) c.in_ok-put_begun.ensures.puts (rw c.word.ensures.word at c.put_token.ensures.puts)
