use Rattle.std.proofs.Common.{◌∷◌, codes, arith}
use Rattle.pol_relation.specs.Instances.{no_constraint}
use Rattle.pol_text.specs.Texts.{printed_line}
use Rattle.pol_text.proofs.TextLemmas.{mapped-grown, mapped-stopped}
use Rattle.pol_lang.specs.Spelling.{constraint_tokens}
use Rattle.pol_lang.proofs.writing.put_constraints.Goals as goal

-- a front of one more text
pub returns-in_err-put_constraint : goal.returns-in_err-put_constraint
returns-in_err-put_constraint c = record { puts = mapped-stopped _ printed_line (λ at. codes "constraint" ∷ constraint_tokens c.args.file.now.language c.args.inst.now at) _ _ no_constraint _ _ _ c.from_residual.ensures.0 (omega arith) c.loop-c.invariant (rw (c.name.ensures.name, c.lang-lang.ensures.language, c.relation_of.ensures.relation, c.scope.ensures.scope) at c.in_err-put_constraint.ensures.puts) }

-- one more text
pub loop-c-preserved : goal.loop-c-preserved
loop-c-preserved c = mapped-grown printed_line (λ at. codes "constraint" ∷ constraint_tokens c.args.file.now.language c.args.inst.now at) _ _ no_constraint _ _ _ (omega arith) c.loop-c.invariant (rw (c.name.ensures.name, c.lang-lang.ensures.language, c.relation_of.ensures.relation, c.scope.ensures.scope) at c.in_ok-put_constraint.ensures.puts)
