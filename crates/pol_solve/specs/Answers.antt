-- What each class owes an instance, and what is answered by the first class of which a table was found.
use Rattle.std.specs.Prelude.{◌≡◌, ℕ, Option, Some, None, ⊤}
use Rattle.pol_base.specs.declared.class_name.ClassName.{ClassName}
use Rattle.pol_base.specs.declared.class_name.ClassName.TheVariants.{Constant, Semilattice, SetFunction, Majority}
use Rattle.pol_base.specs.declared.class_name.ClassName.TheVariants.{Nu4, Affine, Maltsev}
use Rattle.pol_relation.specs.Relations.{LanguageView}
use Rattle.pol_relation.specs.Instances.{InstanceView, IsSolution, HasNoSolution}
use Rattle.pol_nogood.specs.Answers.{IsCertificate}
use Rattle.pol_nogood.specs.Trims.{AreReferredTo}
use Rattle.pol_affine.specs.Answers.{IsSumCertificate}
use Rattle.pol_maltsev.specs.Compacts.{AreSizes}
use Rattle.pol_optable.specs.Choices.{FirstFound}
use Rattle.pol_optable.specs.declared.classes.Classes.{Classes}
use Rattle.pol_solve.specs.declared.answering.InstanceAnswer.{InstanceAnswer}
use Rattle.pol_solve.specs.declared.answering.InstanceAnswer.TheVariants as answer

-- how many pairs the nogoods of a log have at most that shows a No of the class; none where no log does
abbrev pub most_pairs : ClassName → Option ℕ
most_pairs Constant = Some 1
most_pairs Semilattice = Some 1
most_pairs SetFunction = Some 1
most_pairs Majority = Some 2
most_pairs Nu4 = Some 3
most_pairs Affine = None
most_pairs Maltsev = None

-- a solution, or where there is none a log whose nogoods have at most so many pairs, and of which each step but the
-- last is referred to
abbrev pub IsLogAnswer : ℕ → LanguageView → InstanceView → InstanceAnswer → Type 0
IsLogAnswer most lang inst (answer.Yes values) = IsSolution lang inst values
IsLogAnswer most lang inst (answer.NoLog log) =
    HasNoSolution lang inst × IsCertificate most lang inst log × AreReferredTo log
IsLogAnswer most lang inst given = ⊥

-- a solution, or where there is none a valid combination of few parts, none of which is taken 0 times
abbrev pub IsSumAnswer : LanguageView → InstanceView → InstanceAnswer → Type 0
IsSumAnswer lang inst (answer.Yes values) = IsSolution lang inst values
IsSumAnswer lang inst (answer.NoSum combination) = HasNoSolution lang inst × IsSumCertificate lang inst combination
IsSumAnswer lang inst given = ⊥

-- a solution, or that there is none, and in both the sizes of the signatures of the assignments that meet the first
-- constraints
abbrev pub IsSizesAnswer : LanguageView → InstanceView → InstanceAnswer → Type 0
IsSizesAnswer lang inst (answer.YesSizes values sizes) = IsSolution lang inst values × AreSizes lang inst sizes
IsSizesAnswer lang inst (answer.NoSizes sizes) = HasNoSolution lang inst × AreSizes lang inst sizes
IsSizesAnswer lang inst given = ⊥

-- an answer with such a log, where the class has logs
abbrev pub AnswersByLog : Option ℕ → LanguageView → InstanceView → InstanceAnswer → Type 0
AnswersByLog None lang inst given = ⊥
AnswersByLog (Some most) lang inst given = IsLogAnswer most lang inst given

-- what the class owes: an answer with a log, with a combination or with sizes
abbrev pub AnswersOf : ClassName → LanguageView → InstanceView → InstanceAnswer → Type 0
AnswersOf Affine lang inst given = IsSumAnswer lang inst given
AnswersOf Maltsev lang inst given = IsSizesAnswer lang inst given
AnswersOf class lang inst given = AnswersByLog (most_pairs class) lang inst given

-- the answer that the class owes, and undecided where there is no class
abbrev pub AnswersBy : Option ClassName → LanguageView → InstanceView → InstanceAnswer → Type 0
AnswersBy None lang inst given = given ≡ answer.Undecided
AnswersBy (Some class) lang inst given = AnswersOf class lang inst given

-- the answer that the first class owes of which a table was found
abbrev pub AnswersByFirst : LanguageView → InstanceView → Classes → InstanceAnswer → Type 0
AnswersByFirst lang inst classes given =
    (first : Option ClassName) → FirstFound classes first → AnswersBy first lang inst given
