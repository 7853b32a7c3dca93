use Rattle.std.proofs.Common.{◌∙◌, ap, List, ℕ, []}
use Rattle.std.proofs.lemmas.Option.{unwrap_or-slice_get}
use Rattle.std.specs.Prelude.{unwrap_or}
use Rattle.pol_lang.proofs.entries.token.Goals as goal

-- where there is no token at the place, no byte stands there
pub returns-in-None : goal.returns-in-None
returns-in-None c = record { token = ap (λ o. unwrap_or {T = List ℕ} o []) c.in-None.ensures.token ∙ unwrap_or-slice_get c.args.line.now.tokens c.args.i [] }
