-- What a solver promises of an answer whose No is a log.
use Rattle.std.specs.Prelude.{ℕ, List, ⊤}
use Rattle.pol_relation.specs.Relations.{LanguageView}
use Rattle.pol_relation.specs.Instances.{InstanceView, IsSolution, HasNoSolution}
use Rattle.pol_nogood.specs.declared.log.LogAnswer.{LogAnswer}
use Rattle.pol_nogood.specs.declared.log.LogAnswer.TheVariants as answer
use Rattle.pol_nogood.specs.Logs.{StepView, FitsMost}
use Rattle.pol_nogood.specs.ValidLogs.{IsValidLog}

-- a Yes holds a solution
abbrev pub YesSolves : LanguageView → InstanceView → LogAnswer → Type 0
YesSolves lang inst (answer.Yes values) = IsSolution lang inst values
YesSolves lang inst (answer.No log) = ⊤

-- a No comes only where there is no solution
abbrev pub NoOnlyWithoutSolution : LanguageView → InstanceView → LogAnswer → Type 0
NoOnlyWithoutSolution lang inst (answer.Yes values) = ⊤
NoOnlyWithoutSolution lang inst (answer.No log) = HasNoSolution lang inst

-- the log is valid, and has pairwise different nogoods of at most so many pairs
pub record IsCertificate (most : ℕ) (lang : LanguageView) (inst : InstanceView) (log : List StepView) : Type 0 where
  pub valid : IsValidLog lang inst log
  pub fits : FitsMost most log

-- a No has a certificate
abbrev pub NoHasCertificate : ℕ → LanguageView → InstanceView → LogAnswer → Type 0
NoHasCertificate most lang inst (answer.Yes values) = ⊤
NoHasCertificate most lang inst (answer.No log) = IsCertificate most lang inst log
