-- How a tally grows by the answer to an instance.
use Rattle.std.specs.Prelude.{ℕ, ◌+◌, List, [], ◌∷◌, ◌++◌, Option}
use Rattle.pol_base.specs.declared.class_name.ClassName.{ClassName}
use Rattle.pol_relation.specs.Relations.{LanguageView}
use Rattle.pol_relation.specs.Instances.{InstanceView}
use Rattle.pol_optable.specs.Choices.{FirstFound}
use Rattle.pol_optable.specs.declared.classes.Classes.{Classes}
use Rattle.pol_solve.specs.declared.answering.InstanceAnswer.{InstanceAnswer}
use Rattle.pol_solve.specs.Answers.{AnswersBy}
use Rattle.pol_cli.specs.declared.summary.Tally.{Tally}
use Rattle.pol_cli.specs.Summaries.{IsTally}

-- how many instances were tallied
abbrev pub tallied : Tally → ℕ
tallied tally = tally.yes + tally.no + tally.undecided

-- the tally of some instances becomes that of these and one more, by the answer that is owed to that one
abbrev pub AddsAnswer : InstanceAnswer → Tally → Tally → Type 0
AddsAnswer given old new =
    (lang : LanguageView) (chosen : Option ClassName) (some : List InstanceView) (inst : InstanceView)
    → IsTally lang chosen some old
    → AnswersBy chosen lang inst given
    → IsTally lang chosen (some ++ inst ∷ []) new

-- the tally of the instances by the first class of which a table was found
abbrev pub IsTallyByFirst : LanguageView → Classes → List InstanceView → Tally → Type 0
IsTallyByFirst lang classes instances tally =
    (first : Option ClassName) → FirstFound classes first → IsTally lang first instances tally
