use Rattle.std.proofs.Common.{◌≡◌, Ok, rules}
use Rattle.pol_lang.specs.Grammar.{values_of}
use Rattle.pol_lang.proofs.ValueLemmas.{values_of-tuple}
use Rattle.pol_lang.proofs.language_lines.values.Goals as goal

-- what is read is a tuple
pub returns-clause-tuple : goal.returns-clause-tuple
returns-clause-tuple c =
    let read : values_of c.args.d c.args.tokens ≡ Ok c.loop-token.values = search rules in
    values_of-tuple c.args.d c.args.tokens c.loop-token.values read
