use Rattle.std.proofs.Common.{◌++◌, [], ◌∷◌, codes, decimal}
use Rattle.pol_report.specs.Texts.{nogood_tokens, reference_tokens}
use Rattle.pol_report.proofs.PrintLemmas.{line_cut_first, line_cut, line_cut_last, line_more, line_ended}
use Rattle.pol_report.proofs.step_lines.put_step_parts.Goals as goal

pub returns-in_err-put_basis-clause-puts : goal.returns-in_err-put_basis-clause-puts
returns-in_err-put_basis-clause-puts g c =
    line_cut_first c.from_residual.result _ _ c.args.letter.now (decimal c.args.number ∷ []) (nogood_tokens c.args.nogood.now ++ reference_tokens c.args.refs.now) (codes "\n") c.from_residual.ensures.0 c.in_err-put_basis.ensures.puts

pub returns-in_err-put_nogood-clause-puts : goal.returns-in_err-put_nogood-clause-puts
returns-in_err-put_nogood-clause-puts g c =
    line_cut c.from_residual-in_err-put_nogood.result _ _ _ c.args.letter.now (decimal c.args.number ∷ []) (nogood_tokens c.args.nogood.now) (reference_tokens c.args.refs.now) (codes "\n") c.from_residual-in_err-put_nogood.ensures.0 c.in_ok-put_basis.ensures.puts c.in_err-put_nogood.ensures.puts

pub returns-in_err-put_references-clause-puts : goal.returns-in_err-put_references-clause-puts
returns-in_err-put_references-clause-puts g c =
    let front = rw c.as_slice.ensures.items at c.in_err-put_references.ensures.puts in
    let nogood = line_more _ _ _ c.args.letter.now (decimal c.args.number ∷ []) (nogood_tokens c.args.nogood.now) c.in_ok-put_basis.ensures.puts c.in_ok-put_nogood.ensures.puts in
    line_cut_last c.from_residual-in_err-put_references.result _ _ _ c.args.letter.now (decimal c.args.number ∷ nogood_tokens c.args.nogood.now) (reference_tokens c.args.refs.now) (codes "\n") c.from_residual-in_err-put_references.ensures.0 nogood front

pub returns-clause-puts : goal.returns-clause-puts
returns-clause-puts g c =
    let references = rw c.as_slice.ensures.items at c.in_ok-put_references.ensures.puts in
    let nogood = line_more _ _ _ c.args.letter.now (decimal c.args.number ∷ []) (nogood_tokens c.args.nogood.now) c.in_ok-put_basis.ensures.puts c.in_ok-put_nogood.ensures.puts in
    let line = line_more _ _ _ c.args.letter.now (decimal c.args.number ∷ nogood_tokens c.args.nogood.now) (reference_tokens c.args.refs.now) nogood references in
    line_ended c.append.result _ _ _ _ line c.append.ensures.puts
