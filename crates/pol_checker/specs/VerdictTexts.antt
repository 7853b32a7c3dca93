-- The text of a verdict: a line with the item's class or instance, and the verdict.
use Rattle.std.specs.Prelude.{ℕ, List, [], ◌∷◌, codes, decimal}
use Rattle.pol_base.specs.declared.class_name.ClassName.TheVariants.{Nu4}
use Rattle.pol_base.specs.Names.{class_word}
use Rattle.pol_text.specs.Texts.{printed_line}
use Rattle.pol_nogood.specs.declared.checking.Why.{Why}
use Rattle.pol_nogood.specs.declared.checking.Why.TheVariants as why
use Rattle.pol_modp.specs.declared.checking.CombFault.{CombFault}
use Rattle.pol_modp.specs.declared.checking.CombFault.TheVariants as fault
use Rattle.pol_report.specs.declared.item.Item.{Item}
use Rattle.pol_report.specs.declared.item.Item.TheVariants as item
use Rattle.pol_checker.specs.declared.verdict.Cause.{Cause}
use Rattle.pol_checker.specs.declared.verdict.Cause.TheVariants.{Unknown, Size, Identity, Breaks, Assignment}
use Rattle.pol_checker.specs.declared.verdict.Cause.TheVariants.{Constraint, BadLog, BadSum}
use Rattle.pol_checker.specs.declared.verdict.Verdict.{Verdict}
use Rattle.pol_checker.specs.declared.verdict.Verdict.TheVariants.{Accepted, Unchecked, Rejected}

-- whether the item is of a class or of an instance
abbrev pub subject_word : Item → List ℕ
subject_word (item.ClassTable class cells) = codes "class"
subject_word (item.ClassNone class) = codes "class"
subject_word item.ClassBeyond = codes "class"
subject_word other = codes "instance"

-- which class or instance
abbrev pub subject_name : Item → List ℕ
subject_name (item.ClassTable class cells) = class_word class
subject_name (item.ClassNone class) = class_word class
subject_name item.ClassBeyond = class_word Nu4
subject_name (item.Yes name class values) = name
subject_name (item.YesSizes name values sizes) = name
subject_name (item.NoLog name class log) = name
subject_name (item.NoSum name combination) = name
subject_name (item.NoSizes name sizes) = name
subject_name (item.Undecided name) = name

-- why a log is not valid
abbrev pub why_word : Why → List ℕ
why_word why.BadPlace = codes "BadPlace"
why_word why.BadReference = codes "BadReference"
why_word why.NotContained = codes "NotContained"
why_word why.WrongCount = codes "WrongCount"
why_word why.NoEmptyEnd = codes "NoEmptyEnd"

-- why a combination is not valid, and at which part or variable
abbrev pub sum_fault_tokens : CombFault → List (List ℕ)
sum_fault_tokens fault.BadLabels = codes "BadLabels" ∷ []
sum_fault_tokens (fault.BadPlace part) = codes "BadPlace" ∷ decimal part ∷ []
sum_fault_tokens (fault.NotImplied part) = codes "NotImplied" ∷ decimal part ∷ []
sum_fault_tokens (fault.Remainder variable) = codes "Remainder" ∷ decimal variable ∷ []
sum_fault_tokens fault.ZeroRight = codes "ZeroRight" ∷ []

-- why an item is rejected
abbrev pub cause_tokens : Cause → List (List ℕ)
cause_tokens Unknown = codes "unknown" ∷ []
cause_tokens Size = codes "size" ∷ []
cause_tokens Identity = codes "identity" ∷ []
cause_tokens (Breaks relation) = codes "breaks" ∷ decimal relation ∷ []
cause_tokens Assignment = codes "assignment" ∷ []
cause_tokens (Constraint c) = codes "constraint" ∷ decimal c ∷ []
cause_tokens (BadLog fault) = codes "log" ∷ decimal fault.step ∷ why_word fault.why ∷ []
cause_tokens (BadSum fault) = codes "combination" ∷ sum_fault_tokens fault

-- the verdict
abbrev pub verdict_tokens : Verdict → List (List ℕ)
verdict_tokens Accepted = codes "accepted" ∷ []
verdict_tokens Unchecked = codes "unchecked" ∷ []
verdict_tokens (Rejected cause) = codes "rejected" ∷ cause_tokens cause

-- the line of the verdict on the item
abbrev pub verdict_line : Item → Verdict → List ℕ
verdict_line item verdict = printed_line (subject_word item ∷ subject_name item ∷ verdict_tokens verdict)
