use Rattle.std.proofs.Common.{[], ◌∷◌, ◌++◌, codes, decimal, map}
use Rattle.pol_text.specs.Texts.{joined, printed_line}
use Rattle.pol_text.proofs.TextLemmas.{grown_twice, puts_cut, puts_stopped, GrowsByFront-line}
use Rattle.pol_lang.specs.Texts.{tuple_tokens}
use Rattle.pol_lang.proofs.writing.put_relation.Goals as goal

pub returns-in_err-put_spaced : goal.returns-in_err-put_spaced
returns-in_err-put_spaced c =
    let name = c.args.name.now in
    let arity = decimal c.args.relation.now.arity in
    let begun = grown_twice _ _ _ (codes "relation ") name c.in_ok-append.ensures.ok c.in_ok-append-2.ensures.ok in
    let held = puts_cut _ _ (codes " " ++ arity) [] (rw (c.from.ensures, c.arity.ensures.arity) at c.in_err-put_spaced.ensures.puts) in
    let line = GrowsByFront-line _ _ _ (codes "relation " ++ name) (arity ∷ []) begun held in
    record { puts = puts_stopped _ _ _ _ c.from_residual-in_err-put_spaced.ensures.0 (puts_cut _ _ (printed_line (codes "relation" ∷ name ∷ arity ∷ [])) (joined printed_line (map tuple_tokens c.args.relation.now.rows)) line) }
