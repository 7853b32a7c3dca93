use Rattle.std.proofs.Common.{◌≡◌, not, [], ◌∷◌, ◌++◌, Ok, Err, ap, sym, ◌∙◌, rules}
use Rattle.std.proofs.lemmas.Result.{err_from_is_err_and}
use Rattle.pol_relation.specs.Instances.{with_variable}
use Rattle.pol_text.specs.Lines.{is_name}
use Rattle.pol_base.specs.Lists.{is_among}
use Rattle.pol_lang.specs.Grammar.{names_of_tokens}
use Rattle.pol_lang.proofs.FileLemmas.{IsFileInstance-names}
use Rattle.pol_lang.proofs.InstanceLemmas.{refused_name}
use Rattle.pol_lang.proofs.instance_lines.begun_instance.Goals as goal

pub returns-in_err-add_variable-clause-instance : goal.returns-in_err-add_variable-clause-instance
returns-in_err-add_variable-clause-instance c =
    let p = err_from_is_err_and c.from_residual-in_err-add_variable.result c.from_residual-in_err-add_variable.ensures.1 in
    let fail = c.in_err-add_variable.field-0.0 in
    let failed : c.from_residual-in_err-add_variable.result ≡ Err fail = p.1 ∙ ap (λ e. Err e) p.2 in
    let variables = c.loop-token.inst.variables in
    let token = c.in-Some.token.now in
    let rest = c.next.new.self in
    let first : c.loop-token.token-iterator ≡ token ∷ rest = search rules in
    let whole : names_of_tokens [] c.args.tokens ≡ names_of_tokens variables (token ∷ rest) = sym c.loop-token.invariant.same ∙ ap (names_of_tokens variables) first in
    rw (failed, whole)
    (refused_name fail (is_name token) (not (is_among variables token)) (with_variable c.loop-token.inst token) c.add_variable.new.inst (names_of_tokens (variables ++ token ∷ []) rest) (λ names. Ok (record { name = c.args.name.now; variables = names; constraints = [] })) c.in_err-add_variable.ensures.changes)

pub returns-clause-fits : goal.returns-clause-fits
returns-clause-fits c = λ lang.
    let read : names_of_tokens [] c.args.tokens ≡ Ok c.loop-token.inst.variables = search rules in
    rw c.loop-token.invariant.begun (IsFileInstance-names lang c.args.name.now c.args.tokens c.loop-token.inst.variables c.requires.name c.requires.some c.requires.few read)
