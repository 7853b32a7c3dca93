-- Logs of deletions to which no further nogood has to be added, and the operations for which these decide an instance.
use Rattle.std.specs.Prelude.{◌≡◌, ◌≢◌, ◌<◌, ◌≤◌, ℕ, ◌+◌, List, [], length, All, Contains}
use Rattle.pol_relation.specs.Relations.{LanguageView}
use Rattle.pol_relation.specs.Instances.{InstanceView, ConstraintView}
use Rattle.pol_optable.specs.Operations.{Operation, IsOperation, IsPolymorphism}
use Rattle.pol_optable.specs.Identities.{IsNearUnanimity}
use Rattle.pol_nogood.specs.Nogoods.{Pair, IsNogood}
use Rattle.pol_nogood.specs.Logs.{Basis, StepView, value_case, FitsMost}
use Rattle.pol_nogood.specs.ValidLogs.{AreValid}
use Rattle.pol_strong.specs.Contradictions.{IsContradicted, AreOpen, HasCase}

-- a near unanimity operation of one argument more than that, which preserves each relation of the language
pub record IsNearUnanimityFor (lang : LanguageView) (most : ℕ) (f : Operation) : Type 0 where
  pub domain_is : f.domain ≡ lang.domain
  pub arity_is : f.arity ≡ most + 1
  pub is_operation : IsOperation f
  pub near_unanimity : IsNearUnanimity f
  pub preserves : IsPolymorphism f lang

-- a nogood of at most so many pairs
pub record IsSmall (n d most : ℕ) (nogood : List Pair) : Type 0 where
  pub is_nogood : IsNogood n d nogood
  pub few : length nogood ≤ most

-- neither a constraint nor a variable asks for the nogood: each constraint has a case, and each further variable an
-- open value
pub record IsSettled (lang : LanguageView) (inst : InstanceView) (log : List StepView) (nogood : List Pair)
    : Type 0 where
  pub cases : All (λ c. HasCase lang c nogood) inst.constraints
  pub values : AreOpen (length inst.variables) lang.domain log nogood

-- so it is for each nogood of at most so many pairs that contains none of the log
abbrev pub AllSettled : LanguageView → InstanceView → ℕ → List StepView → Type 0
AllSettled lang inst most log =
    (nogood : List Pair)
    → IsSmall (length inst.variables) lang.domain most nogood
    → ¬ IsContradicted log nogood
    → IsSettled lang inst log nogood

-- a step by a constraint refers to no step: its nogood has no case
abbrev pub RefersByVariable : StepView → Type 0
RefersByVariable s = (c : ℕ) → s.basis ≡ Basis.ByConstraint c → s.references ≡ []

-- valid steps with small nogoods, none of them empty, and nothing is left to add
pub record IsFinished (lang : LanguageView) (inst : InstanceView) (most : ℕ) (log : List StepView) : Type 0 where
  pub valid : AreValid lang inst log
  pub fits : FitsMost most log
  pub by_variables : All RefersByVariable log
  pub nonempty : All (λ s. s.nogood ≢ []) log
  pub settled : AllSettled lang inst most log

-- the log is finished for a near unanimity operation that preserves the language
pub record IsDecided (lang : LanguageView) (inst : InstanceView) (log : List StepView) : Type 0 where
  pub most : ℕ
  pub operation : Operation
  pub is_near : IsNearUnanimityFor lang most operation
  pub finished : IsFinished lang inst most log

-- ---- what has to be looked at

-- each small nogood on variables of the constraint's scope that contains none of the log has a case of the constraint
abbrev pub HasScopeCases : LanguageView → InstanceView → ℕ → List StepView → ConstraintView → Type 0
HasScopeCases lang inst most log c =
    (nogood : List Pair)
    → IsSmall (length inst.variables) lang.domain most nogood
    → All (λ p. Contains c.scope p.variable) nogood
    → ¬ IsContradicted log nogood
    → HasCase lang c nogood

-- each small nogood that has a pair and contains none of the log has open values
abbrev pub AllOpen : (n d most : ℕ) → List StepView → Type 0
AllOpen n d most log =
    (nogood : List Pair)
    → IsSmall n d most nogood
    → 1 ≤ length nogood
    → ¬ IsContradicted log nogood
    → AreOpen n d log nogood

-- a value that the log does not exclude by itself
pub record HasValue (d : ℕ) (log : List StepView) (v : ℕ) : Type 0 where
  pub value : ℕ
  pub below : value < d
  pub left : All (λ s. s.nogood ≢ value_case v value) log
