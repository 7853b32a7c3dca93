-- What is answered by the class of which a table was found first.
use Rattle.std.proofs.Common.{Option, Result, IfOk, subst}
use Rattle.std.proofs.lemmas.Result.{IfOk-weaker}
use Rattle.pol_base.specs.declared.class_name.ClassName.{ClassName}
use Rattle.pol_relation.specs.Relations.{LanguageView}
use Rattle.pol_relation.specs.Instances.{InstanceView}
use Rattle.pol_optable.specs.declared.classes.Classes.{Classes}
use Rattle.pol_optable.specs.Choices.{FirstFound}
use Rattle.pol_optable.proofs.ChoiceLemmas.{one_found}
use Rattle.pol_solve.specs.declared.answering.InstanceAnswer.{InstanceAnswer}
use Rattle.pol_solve.specs.Answers.{AnswersBy, AnswersByFirst}

module _ (lang : LanguageView) (inst : InstanceView) (classes : Classes) where
  -- what is owed by the first class is what is owed by any
  pub by_first : (first : Option ClassName) → FirstFound classes first → (given : InstanceAnswer) → AnswersBy first lang inst given → AnswersByFirst lang inst classes given
  by_first first is given owed other found =
      subst (λ some. AnswersBy some lang inst given) (one_found classes first other is found) owed

  pub by_first_ok :
      {E : Type 0} (result : Result InstanceAnswer E) (first : Option ClassName)
      → FirstFound classes first
      → IfOk result (AnswersBy first lang inst)
      → IfOk result (AnswersByFirst lang inst classes)
  by_first_ok result first is owed =
      IfOk-weaker result (AnswersBy first lang inst) (AnswersByFirst lang inst classes) (λ given. by_first first is given) owed
