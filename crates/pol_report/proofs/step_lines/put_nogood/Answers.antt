use Rattle.std.proofs.Common.{◌++◌, length, flat_map, sym, subst, refl, codes, decimal}
use Rattle.pol_text.specs.Texts.{PutsIn, spaced_texts}
use Rattle.pol_text.proofs.TextLemmas.{joined-flat_map}
use Rattle.pol_report.specs.Texts.{pair_tokens}
use Rattle.pol_report.proofs.PrintLemmas.{cut_first, last_call}
use Rattle.pol_report.proofs.step_lines.put_nogood.Goals as goal

pub returns-in_err-put_spaced-clause-puts : goal.returns-in_err-put_spaced-clause-puts
returns-in_err-put_spaced-clause-puts g c =
    let front = rw (c.from.ensures, c.len.ensures.pairs) at c.in_err-put_spaced.ensures.puts in
    cut_first c.from_residual.result _ _ (codes " " ++ decimal (length c.args.nogood.now)) (spaced_texts (flat_map pair_tokens c.args.nogood.now)) _ c.from_residual.ensures.0 front refl

pub returns-clause-puts : goal.returns-clause-puts
returns-clause-puts g c =
    let number = rw (c.from.ensures, c.len.ensures.pairs) at c.in_ok-put_spaced.ensures.puts in
    let pairs = subst (PutsIn c.put_pairs.result (g.T.Text.bytes c.put_spaced.new.out) (g.T.Text.bytes c.put_pairs.new.out)) (sym (joined-flat_map (λ text. codes " " ++ text) pair_tokens c.args.nogood.now)) c.put_pairs.ensures.puts in
    last_call c.put_pairs.result _ _ _ (codes " " ++ decimal (length c.args.nogood.now)) (spaced_texts (flat_map pair_tokens c.args.nogood.now)) _ number pairs refl
