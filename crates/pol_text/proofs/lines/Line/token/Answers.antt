use Rattle.std.proofs.lemmas.Iterator.Consumers.{nth_from_yields_List, YieldsList-from_first}
use Rattle.pol_text.proofs.lines.Line.token.Goals as goal

pub returns : goal.returns
returns c = record { token = nth_from_yields_List c.nth.result _ c.args.i c.nth.ensures.ran (YieldsList-from_first (λ t. t.now) (λ t. t) _ c.tokens.ensures.tokens) }
