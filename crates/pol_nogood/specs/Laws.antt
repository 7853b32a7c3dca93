-- What holds of all valid logs and of all faults.
use Rattle.std.specs.Prelude.{◌≡◌, ℕ, ◌<◌, ◌≤◌, List, length}
use Rattle.pol_relation.specs.Relations.{LanguageView}
use Rattle.pol_relation.specs.Instances.{InstanceView}
use Rattle.pol_nogood.specs.declared.checking.LogFault.{LogFault}
use Rattle.pol_nogood.specs.Nogoods.{IsRefuted}
use Rattle.pol_nogood.specs.Logs.{StepView, nogood_at, FitsMost}
use Rattle.pol_nogood.specs.ValidLogs.{AreValid, IsValidLog, IsFirstFault}

-- no solution holds the nogood of a valid step
abbrev pub ValidStepsRefute : Type 0
ValidStepsRefute =
    (lang : LanguageView) (inst : InstanceView) (log : List StepView)
    → AreValid lang inst log
    → (s : ℕ) → s < length log → IsRefuted lang inst (nogood_at log s)

-- over 5 values and 40 variables, valid steps with pairwise different nogoods of at most one pair are at most 201
abbrev pub OnePairLogsAreShort : Type 0
OnePairLogsAreShort =
    (lang : LanguageView) (inst : InstanceView) (log : List StepView)
    → lang.domain ≤ 5
    → length inst.variables ≤ 40
    → AreValid lang inst log
    → FitsMost 1 log
    → length log ≤ 201

-- over 5 values and 40 variables, with nogoods of at most three pairs, they are at most 1,254,701
abbrev pub ThreePairLogsAreShort : Type 0
ThreePairLogsAreShort =
    (lang : LanguageView) (inst : InstanceView) (log : List StepView)
    → lang.domain ≤ 5
    → length inst.variables ≤ 40
    → AreValid lang inst log
    → FitsMost 3 log
    → length log ≤ 1254701

-- a valid log has no first fault
abbrev pub ValidLogsHaveNoFault : Type 0
ValidLogsHaveNoFault =
    (lang : LanguageView) (inst : InstanceView) (log : List StepView) (fault : LogFault)
    → IsValidLog lang inst log
    → ¬ IsFirstFault lang inst log fault

-- a log has at most one first fault
abbrev pub FirstFaultsAreOne : Type 0
FirstFaultsAreOne =
    (lang : LanguageView) (inst : InstanceView) (log : List StepView) (fault other : LogFault)
    → IsFirstFault lang inst log fault
    → IsFirstFault lang inst log other
    → fault ≡ other
