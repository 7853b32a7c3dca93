-- Valid steps and logs, and the first fault of a log, in the field's words.
use Rattle.std.specs.Prelude.{◌≡◌, ◌≢◌, ◌⊎◌, ℕ, ◌<◌, ◌≤◌, List}
use Rattle.std.specs.Prelude.{[], ◌++◌, length, take, slice_index, slice_index_or, All, Any}
use Rattle.pol_relation.specs.Relations.{LanguageView}
use Rattle.pol_relation.specs.Instances.{InstanceView}
use Rattle.pol_nogood.specs.declared.checking.Why.{Why}
use Rattle.pol_nogood.specs.declared.checking.Why.TheVariants as why
use Rattle.pol_nogood.specs.declared.checking.LogFault.{LogFault}
use Rattle.pol_nogood.specs.Nogoods.{Pair, IsNogood, IsContained}
use Rattle.pol_nogood.specs.Logs.{Basis, StepView, step_at, nogood_at, last_nogood, cases_of}

-- a step can rest there: the constraint exists; the variable exists, and the nogood does not name it
abbrev pub CanRestOn : InstanceView → List Pair → Basis → Type 0
CanRestOn inst nogood (Basis.ByConstraint c) = c < length inst.constraints
CanRestOn inst nogood (Basis.ByVariable v) = (v < length inst.variables) × All (λ p. p.variable ≢ v) nogood

-- the step rests on a constraint or a variable that exists, and has a nogood of variables and values that exist
pub record IsPlaced (lang : LanguageView) (inst : InstanceView) (s : StepView) : Type 0 where
  pub rests : CanRestOn inst s.nogood s.basis
  pub is_nogood : IsNogood (length inst.variables) lang.domain s.nogood

-- the nogood of the reference at the place is contained in this one joined with the case there
abbrev pub IsContainedAt : List StepView → List Pair → List (List Pair) → List ℕ → ℕ → Type 0
IsContainedAt earlier nogood cases references i =
    IsContained (nogood_at earlier (slice_index references i)) (nogood ++ slice_index_or cases i [])

-- so it is at each place that both lists have
abbrev pub AreContained : List StepView → List Pair → List (List Pair) → List ℕ → Type 0
AreContained earlier nogood cases references =
    (i : ℕ) → i < length references → i < length cases → IsContainedAt earlier nogood cases references i

-- each case has a reference to an earlier step, whose nogood is contained in this one joined with the case
pub record HasReferences (earlier : List StepView) (nogood : List Pair)
    (cases : List (List Pair)) (references : List ℕ) : Type 0 where
  pub as_many : length references ≡ length cases
  pub to_earlier : All (λ r. r < length earlier) references
  pub contained : AreContained earlier nogood cases references

-- the step is placed, and each of its cases has its reference
pub record IsValidStep (lang : LanguageView) (inst : InstanceView)
    (earlier : List StepView) (s : StepView) : Type 0 where
  pub placed : IsPlaced lang inst s
  pub referred : HasReferences earlier s.nogood (cases_of lang inst s.basis s.nogood) s.references

-- the first so many steps are valid, each behind those before it
abbrev pub AreValidBelow : LanguageView → InstanceView → List StepView → ℕ → Type 0
AreValidBelow lang inst log count = (s : ℕ) → s < count → IsValidStep lang inst (take s log) (step_at log s)

-- all steps are
abbrev pub AreValid : LanguageView → InstanceView → List StepView → Type 0
AreValid lang inst log = AreValidBelow lang inst log (length log)

-- valid steps, the last of which has the empty nogood, that every assignment holds
pub record IsValidLog (lang : LanguageView) (inst : InstanceView) (log : List StepView) : Type 0 where
  pub steps : AreValid lang inst log
  pub some_steps : 1 ≤ length log
  pub last_is_empty : last_nogood log ≡ []

-- the nogood of the reference at some place that both lists have is not contained
pub record HasUncontained (earlier : List StepView) (nogood : List Pair)
    (cases : List (List Pair)) (references : List ℕ) : Type 0 where
  pub place : ℕ
  pub referred : place < length references
  pub is_case : place < length cases
  pub not_contained : ¬ IsContainedAt earlier nogood cases references place

-- the step is placed, but some reference is not to an earlier step
pub record HasBadReference (lang : LanguageView) (inst : InstanceView)
    (earlier : List StepView) (s : StepView) : Type 0 where
  pub placed : IsPlaced lang inst s
  pub not_earlier : Any (λ r. length earlier ≤ r) s.references

-- places and references are right, but the nogood of some reference is not contained
pub record HasNotContained (lang : LanguageView) (inst : InstanceView)
    (earlier : List StepView) (s : StepView) : Type 0 where
  pub placed : IsPlaced lang inst s
  pub to_earlier : All (λ r. r < length earlier) s.references
  pub uncontained : HasUncontained earlier s.nogood (cases_of lang inst s.basis s.nogood) s.references

-- all that is right, but there are more or fewer references than cases
pub record HasWrongCount (lang : LanguageView) (inst : InstanceView)
    (earlier : List StepView) (s : StepView) : Type 0 where
  pub placed : IsPlaced lang inst s
  pub to_earlier : All (λ r. r < length earlier) s.references
  pub contained : AreContained earlier s.nogood (cases_of lang inst s.basis s.nogood) s.references
  pub not_as_many : length s.references ≢ length (cases_of lang inst s.basis s.nogood)

-- there is no step, or the last nogood is not empty
abbrev pub HasNoEmptyEnd : List StepView → Type 0
HasNoEmptyEnd log = (log ≡ []) ⊎ (last_nogood log ≢ [])

-- at the step with the number, or behind all of them, the fault is there, and none before it in the order
abbrev pub HasFaultAt : LanguageView → InstanceView → List StepView → ℕ → Why → Type 0
HasFaultAt lang inst log s why.BadPlace = (s < length log) × ¬ IsPlaced lang inst (step_at log s)
HasFaultAt lang inst log s why.BadReference =
    (s < length log) × HasBadReference lang inst (take s log) (step_at log s)
HasFaultAt lang inst log s why.NotContained =
    (s < length log) × HasNotContained lang inst (take s log) (step_at log s)
HasFaultAt lang inst log s why.WrongCount =
    (s < length log) × HasWrongCount lang inst (take s log) (step_at log s)
HasFaultAt lang inst log s why.NoEmptyEnd = (s ≡ length log) × HasNoEmptyEnd log

-- behind valid steps the first fault of a step, or of the end
pub record IsFirstFault (lang : LanguageView) (inst : InstanceView)
    (log : List StepView) (fault : LogFault) : Type 0 where
  pub before : AreValidBelow lang inst log fault.step
  pub here : HasFaultAt lang inst log fault.step fault.why
