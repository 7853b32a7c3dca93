use Rattle.std.proofs.Common.{[], ◌∷◌, Some, codes, refl}
use Rattle.pol_text.proofs.TextLemmas.{puts_last}
use Rattle.pol_report.proofs.PrintLemmas.{line_cut_first, line_cut_last, line_more}
use Rattle.pol_checker.specs.VerdictTexts.{subject_word, subject_name, verdict_tokens}
use Rattle.pol_checker.proofs.texts.put_verdict.Goals as goal

pub returns-in_err-put_subject : goal.returns-in_err-put_subject
returns-in_err-put_subject c =
    record { puts = line_cut_first c.from_residual.result (Some _) (Some _) (subject_word c.args.item.now) (subject_name c.args.item.now ∷ []) (verdict_tokens c.args.verdict.now) (codes "\n") c.from_residual.ensures.0 c.in_err-put_subject.ensures.puts }

pub returns-in_err-put_words : goal.returns-in_err-put_words
returns-in_err-put_words c =
    record { puts = line_cut_last c.from_residual-in_err-put_words.result (Some _) (Some _) (Some _) (subject_word c.args.item.now) (subject_name c.args.item.now ∷ []) (verdict_tokens c.args.verdict.now) (codes "\n") c.from_residual-in_err-put_words.ensures.0 c.in_ok-put_subject.ensures.puts c.in_err-put_words.ensures.puts }

pub returns : goal.returns
returns c =
    let line = line_more (Some _) (Some _) (Some _) (subject_word c.args.item.now) (subject_name c.args.item.now ∷ []) (verdict_tokens c.args.verdict.now) c.in_ok-put_subject.ensures.puts c.in_ok-put_words.ensures.puts in
    record { puts = puts_last c.append.result _ _ _ _ (codes "\n") _ line c.append.ensures.ok c.append.ensures.err refl }
