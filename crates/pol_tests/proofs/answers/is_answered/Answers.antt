use Rattle.pol_optable.proofs.ChoiceLemmas.{tables_of_lines}
use Rattle.pol_tests.proofs.answers.is_answered.Goals as goal

pub answer-requires-clause-tables : goal.answer-requires-clause-tables
answer-requires-clause-tables c = tables_of_lines c.args.lang.now c.args.classes.now c.requires.lines
