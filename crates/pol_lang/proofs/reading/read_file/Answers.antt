use Rattle.std.proofs.Common.{Err, rules}
use Rattle.pol_lang.specs.Grammar.{parse}
use Rattle.pol_lang.proofs.ReadLemmas.{read_spelled, read_accepted, read_place, read_line}
use Rattle.pol_lang.proofs.reading.read_file.Goals as goal

pub returns-in-Ok-clause-reads : goal.returns-in-Ok-clause-reads
unfolding parse
returns-in-Ok-clause-reads c = search rules

pub returns-in-Ok-clause-spelled : goal.returns-in-Ok-clause-spelled
returns-in-Ok-clause-spelled c = read_spelled c.args.bytes.now c.rest_of_file.result (returns-in-Ok-clause-reads c)

pub returns-in-Ok-clause-place : goal.returns-in-Ok-clause-place
returns-in-Ok-clause-place c = read_place c.args.bytes.now c.rest_of_file.result (returns-in-Ok-clause-reads c)

pub returns-in-Ok-clause-line : goal.returns-in-Ok-clause-line
returns-in-Ok-clause-line c = read_line c.args.bytes.now c.rest_of_file.result (returns-in-Ok-clause-reads c)

pub returns-in-Err-clause-accepted : goal.returns-in-Err-clause-accepted
unfolding parse
returns-in-Err-clause-accepted c = read_accepted c.args.bytes.now (Err c.refused.result) (search rules)

pub returns-in-Ok-clause-accepted : goal.returns-in-Ok-clause-accepted
returns-in-Ok-clause-accepted c = read_accepted c.args.bytes.now c.rest_of_file.result (returns-in-Ok-clause-reads c)

pub returns-in-Err-domain_line-clause-accepted : goal.returns-in-Err-domain_line-clause-accepted
unfolding parse
returns-in-Err-domain_line-clause-accepted c = read_accepted c.args.bytes.now (Err c.refused-in-Err-domain_line.result) (search rules)
