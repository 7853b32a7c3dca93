use Rattle.std.proofs.Common.{◌≡◌, Ok, rules}
use Rattle.pol_lang.specs.Grammar.{scope_of}
use Rattle.pol_lang.proofs.AcceptedLines.{scope_of-names}
use Rattle.pol_lang.proofs.instance_lines.scope.Goals as goal

pub returns-clause-long : goal.returns-clause-long
returns-clause-long c =
    let read : scope_of c.args.inst.now.variables c.args.tokens ≡ Ok c.loop-token.scope = search rules in
    (scope_of-names c.args.inst.now.variables c.args.tokens c.loop-token.scope read).long

pub returns-clause-below : goal.returns-clause-below
returns-clause-below c =
    let read : scope_of c.args.inst.now.variables c.args.tokens ≡ Ok c.loop-token.scope = search rules in
    (scope_of-names c.args.inst.now.variables c.args.tokens c.loop-token.scope read).below
