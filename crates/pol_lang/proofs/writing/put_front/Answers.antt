use Rattle.std.proofs.Common.{[], ◌∷◌, ◌++◌, codes, decimal, append-nil}
use Rattle.pol_text.proofs.TextLemmas.{puts_cut, puts_stopped, puts_line, GrowsByFront-line}
use Rattle.pol_lang.proofs.writing.put_front.Goals as goal

pub returns-in_err-put_spaced : goal.returns-in_err-put_spaced
returns-in_err-put_spaced c =
    let size = decimal c.args.file.now.language.domain in
    let held = puts_cut _ _ (codes " " ++ size) [] (rw (c.from.ensures, c.size.ensures.size, c.domain.ensures.domain, c.lang.ensures.language) at c.in_err-put_spaced.ensures.puts) in
    record { puts = puts_stopped _ _ _ _ c.from_residual-in_err-put_spaced.ensures.0 (GrowsByFront-line _ _ _ (codes "polyanna 1\ndomain") (size ∷ []) c.in_ok-append.ensures.ok held) }

pub returns : goal.returns
returns c =
    let size = decimal c.args.file.now.language.domain in
    let grown = rw (c.from.ensures, c.size.ensures.size, c.domain.ensures.domain, c.lang.ensures.language) at c.in_ok-put_spaced.ensures.puts in
    record { puts = puts_line _ _ _ _ _ (codes "polyanna 1\ndomain") (size ∷ []) c.in_ok-append.ensures.ok (rw (append-nil size) grown) c.append-2.ensures.ok c.append-2.ensures.err }
