use Rattle.std.proofs.Common.{ap, length, arith}
use Rattle.pol_relation.specs.Relations.{no_named}
use Rattle.pol_text.specs.Texts.{printed_line}
use Rattle.pol_text.proofs.TextLemmas.{flat_mapped-grown, flat_mapped-stopped}
use Rattle.pol_lang.specs.Texts.{relation_lines}
use Rattle.pol_lang.proofs.writing.put_relations.Goals as goal

-- a front of one more text
pub returns-in_err-put_relation : goal.returns-in_err-put_relation
returns-in_err-put_relation c = record { puts = flat_mapped-stopped _ printed_line relation_lines _ _ no_named _ _ _ c.from_residual.ensures.0 (omega (arith, ap (λ lang. length lang.relations) c.lang-lang.ensures.language)) c.loop-i.invariant (rw (c.name.ensures.name, c.relation.ensures.relation, c.lang-lang.ensures.language) at c.in_err-put_relation.ensures.puts) }

-- one more text
pub loop-i-preserved : goal.loop-i-preserved
loop-i-preserved c = flat_mapped-grown printed_line relation_lines _ _ no_named _ _ _ (omega (arith, ap (λ lang. length lang.relations) c.lang-lang.ensures.language)) c.loop-i.invariant (rw (c.name.ensures.name, c.relation.ensures.relation, c.lang-lang.ensures.language) at c.in_ok-put_relation.ensures.puts)
