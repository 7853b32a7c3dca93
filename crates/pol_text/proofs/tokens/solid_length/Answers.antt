use Rattle.std.proofs.Common.{◌∙◌, rules}
use borrow.Author.Tests.{tests}
use Rattle.std.proofs.lemmas.Iterator.{YieldsList-from_slice}
use Rattle.std.proofs.lemmas.Iterator.Search.{position_from_yields_List}
use Rattle.pol_text.specs.Lines.{is_blank}
use Rattle.pol_text.proofs.LineLemmas.{position_or_len-found, position_or_len-le}
use Rattle.pol_text.proofs.tokens.solid_length.Goals as goal

pub returns-clause-length : goal.returns-clause-length
returns-clause-length c = c.unwrap_or.ensures ∙ position_or_len-found is_blank c.args.text.now c.position.result (position_from_yields_List is_blank _ _ c.position.result c.position.ensures.ran (YieldsList-from_slice c.args.text.now cc) (λ x b q k. search (rules, tests)))

pub returns-clause-within : goal.returns-clause-within
returns-clause-within c = let value = returns-clause-length c in rw value (position_or_len-le is_blank c.args.text.now)
