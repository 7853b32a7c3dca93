-- What a solver promises of an answer whose No is a combination.
use Rattle.std.specs.Prelude.{◌==◌, ◌≢◌, ◌≤◌, ℕ, List, All, ⊤}
use Rattle.std.specs.List.{count_by}
use Rattle.pol_relation.specs.Relations.{LanguageView}
use Rattle.pol_relation.specs.Instances.{InstanceView, IsSolution, HasNoSolution}
use Rattle.pol_modp.specs.Combinations.{PartView, CombinationView}
use Rattle.pol_modp.specs.ValidCombinations.{IsValidCombination}
use Rattle.pol_affine.specs.declared.solving.SumAnswer.{SumAnswer}
use Rattle.pol_affine.specs.declared.solving.SumAnswer.TheVariants as answer

-- the number of parts at the constraint
abbrev pub parts_at : ℕ → List PartView → ℕ
parts_at c parts = count_by (λ (part : PartView). part.constraint == c) parts

-- the combination is valid, with at most seven parts for each constraint, and none with multiplier 0
pub record IsSumCertificate (lang : LanguageView) (inst : InstanceView) (c : CombinationView) : Type 0 where
  pub valid : IsValidCombination lang inst c
  pub few : (k : ℕ) → parts_at k c.parts ≤ 7
  pub multiplied : All (λ (part : PartView). part.multiplier ≢ 0) c.parts

-- a Yes holds a solution
abbrev pub SumYesSolves : LanguageView → InstanceView → SumAnswer → Type 0
SumYesSolves lang inst (answer.Yes values) = IsSolution lang inst values
SumYesSolves lang inst (answer.No combination) = ⊤

-- a No comes only where there is no solution
abbrev pub SumNoOnlyWithoutSolution : LanguageView → InstanceView → SumAnswer → Type 0
SumNoOnlyWithoutSolution lang inst (answer.Yes values) = ⊤
SumNoOnlyWithoutSolution lang inst (answer.No combination) = HasNoSolution lang inst

-- a No has a certificate
abbrev pub SumNoHasCertificate : LanguageView → InstanceView → SumAnswer → Type 0
SumNoHasCertificate lang inst (answer.Yes values) = ⊤
SumNoHasCertificate lang inst (answer.No combination) = IsSumCertificate lang inst combination
