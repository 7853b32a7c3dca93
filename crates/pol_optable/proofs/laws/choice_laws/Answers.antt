use Rattle.pol_optable.specs.ClassLines.{Serves}
use Rattle.pol_optable.proofs.LineLemmas.{one_choice, first_of_all, passed_over, none_is_chosen}
use Rattle.pol_optable.proofs.ConstantLemmas.{constant_is_chosen}
use Rattle.pol_optable.proofs.ChoiceLemmas.{first_is_chosen}
use Rattle.pol_optable.proofs.laws.choice_laws.Goals as goal

pub returns-clause-choice : goal.returns-clause-choice
returns-clause-choice c = one_choice

pub returns-clause-earlier : goal.returns-clause-earlier
returns-clause-earlier c lang = first_of_all (Serves lang)

pub returns-clause-passed_over : goal.returns-clause-passed_over
returns-clause-passed_over c lang = passed_over (Serves lang)

pub returns-clause-constant : goal.returns-clause-constant
returns-clause-constant c = constant_is_chosen

pub returns-clause-none : goal.returns-clause-none
returns-clause-none c = none_is_chosen

pub returns-clause-found : goal.returns-clause-found
returns-clause-found c = λ lang classes first are is. first_is_chosen lang classes are first is
