use Rattle.std.proofs.Common.{[], ◌∷◌, codes, ◌++◌}
use Rattle.pol_base.specs.Names.{class_word}
use Rattle.pol_report.proofs.PrintLemmas.{line_cut_first, line_cut_token, line_ended, line_one_more}
use Rattle.pol_text.specs.Texts.{spaced_texts}
use Rattle.pol_report.proofs.printing.put_word.Goals as goal

pub returns-in_err-put_class-clause-puts : goal.returns-in_err-put_class-clause-puts
returns-in_err-put_class-clause-puts g c =
    line_cut_first c.from_residual.result _ _ (codes "class") (class_word c.args.class ∷ []) (c.args.word.now ∷ []) (codes "\n") c.from_residual.ensures.0 c.in_err-put_class.ensures.puts

pub returns-in_err-put_token-clause-puts : goal.returns-in_err-put_token-clause-puts
returns-in_err-put_token-clause-puts g c =
    line_cut_token c.from_residual-in_err-put_token.result _ _ _ (codes "class") (class_word c.args.class ∷ []) c.args.word.now (codes "\n") c.from_residual-in_err-put_token.ensures.0 c.in_ok-put_class.ensures.puts c.in_err-put_token.ensures.puts

pub returns-clause-puts : goal.returns-clause-puts
returns-clause-puts g c =
    line_ended c.append.result _ _ _ (codes "class" ++ spaced_texts (class_word c.args.class ∷ c.args.word.now ∷ [])) (line_one_more _ _ _ (codes "class") (class_word c.args.class ∷ []) c.args.word.now c.in_ok-put_class.ensures.puts c.in_ok-put_token.ensures.puts) c.append.ensures.puts
