use Rattle.std.proofs.Common.{◌++◌, ◌∷◌, codes, map}
use Rattle.pol_text.specs.Texts.{joined, printed_line}
use Rattle.pol_text.proofs.TextLemmas.{grown_twice, puts_cut, puts_stopped, GrowsByFront-line}
use Rattle.pol_lang.specs.Spelling.{constraint_tokens}
use Rattle.pol_lang.proofs.writing.put_instance.Goals as goal

pub returns-in_err-put_variables : goal.returns-in_err-put_variables
returns-in_err-put_variables c =
    let inst = c.args.inst.now in
    let begun = grown_twice _ _ _ (codes "instance ") inst.name c.in_ok-append.ensures.ok (rw c.name.ensures.name at c.in_ok-append-2.ensures.ok) in
    let line = GrowsByFront-line _ _ _ (codes "instance " ++ inst.name) inst.variables begun c.in_err-put_variables.ensures.puts in
    let rest = map (λ at. codes "constraint" ∷ constraint_tokens c.args.file.now.language inst at) inst.constraints in
    record { puts = puts_stopped _ _ _ _ c.from_residual-in_err-put_variables.ensures.0 (puts_cut _ _ (printed_line (codes "instance" ∷ inst.name ∷ inst.variables)) (joined printed_line rest) line) }
