-- A valid log refutes: one induction over its steps, for any sense in which a nogood can be held.
use Rattle.std.proofs.Common.{List, ℕ, ◌<◌, ◌≤◌, length, get_or, take, subst, arith, zero, suc, ◌≡◌, ◌-◌, sym, None}
use Rattle.std.proofs.lemmas.List.{length-take-le}
use Rattle.std.proofs.lemmas.List.Elements.{All-contains, All-nil}
use Rattle.pol_nogood.specs.Nogoods.{Pair, IsContained, Holds, IsRefuted}
use Rattle.pol_nogood.specs.ValidLogs.{IsValidStep, AreValid, IsValidLog}
use Rattle.pol_relation.specs.Relations.{LanguageView}
use Rattle.pol_relation.specs.Instances.{InstanceView, IsSolution, HasNoSolution}
use Rattle.pol_nogood.specs.Logs.{StepView, step_at, cases_of, nogood_at}
use Rattle.pol_nogood.proofs.LogCases.{HasHeldCase, solution_case}
use Rattle.pol_nogood.proofs.StepFaults.{nogood_at-take}
use Rattle.pol_nogood.proofs.FaultLemmas.{valid_from_fault}
use Rattle.pol_nogood.specs.LogFaults.{log_fault}

-- a nogood that is contained in a held one is held
abbrev pub HoldsParts : (List Pair → Type 0) → Type 0
HoldsParts Held = (some pairs : List Pair) → IsContained some pairs → Held pairs → Held some

-- where the nogood of a step is held, so is the nogood joined with one of its cases
abbrev pub HoldsCases : LanguageView → InstanceView → (List Pair → Type 0) → List StepView → Type 0
HoldsCases lang inst Held log = (i : ℕ) → i < length log → Held (nogood_at log i) → HasHeldCase Held (nogood_at log i) (cases_of lang inst (step_at log i).basis (nogood_at log i))

-- what a held case says of the reference that stands for it
reference_held : (lang : LanguageView) (inst : InstanceView) (Held : List Pair → Type 0) (log : List StepView) (i : ℕ) (s : StepView) → i ≤ length log → IsValidStep lang inst (take i log) s → HoldsParts Held
    → HasHeldCase Held s.nogood (cases_of lang inst s.basis s.nogood) → ((r : ℕ) → r < i → ¬ Held (nogood_at log r)) → ⊥
reference_held lang inst Held log i s within valid parts found earlier =
    let r = get_or s.references found.number 0 in
    let inside : found.number < length s.references = omega (arith, found.within, valid.referred.as_many) in
    let before : r < i = omega (arith, valid.referred.to_earlier found.number 0 inside, length-take-le i log within) in
    let held : Held (nogood_at (take i log) r) = parts (nogood_at (take i log) r) _ (valid.referred.contained found.number inside found.within) found.held in
    earlier r before (subst Held (nogood_at-take log i r before) held)

refuted_below : (lang : LanguageView) (inst : InstanceView) (Held : List Pair → Type 0) (log : List StepView) → AreValid lang inst log → HoldsParts Held → HoldsCases lang inst Held log → (n : ℕ) → n ≤ length log → (i : ℕ) → i < n → ¬ Held (nogood_at log i)
refuted_below lang inst Held log valid parts cases zero within i below held = omega arith
refuted_below lang inst Held log valid parts cases (suc n) within i below held =
    reference_held lang inst Held log i (step_at log i) (omega arith) (valid i (omega arith)) parts (cases i (omega arith) held)
    (λ r before. refuted_below lang inst Held log valid parts cases n (omega arith) r (omega arith))

-- no nogood of a valid log is held
pub refuted_all : (lang : LanguageView) (inst : InstanceView) (Held : List Pair → Type 0) (log : List StepView) → AreValid lang inst log → HoldsParts Held → HoldsCases lang inst Held log → (i : ℕ) → i < length log → ¬ Held (nogood_at log i)
refuted_all lang inst Held log valid parts cases i inside held = refuted_below lang inst Held log valid parts cases (length log) (omega arith) i inside held

pub Holds-parts : (assignment : List ℕ) → HoldsParts (Holds assignment)
Holds-parts assignment some pairs within holds = λ k d inside. All-contains (λ (p : Pair). get_or assignment p.variable 0 ≡ p.value) pairs (get_or some k d) holds (within k d inside)

pub solution_cases : (lang : LanguageView) (inst : InstanceView) (assignment : List ℕ) (log : List StepView) → IsSolution lang inst assignment → AreValid lang inst log → HoldsCases lang inst (Holds assignment) log
solution_cases lang inst assignment log solution valid = λ i inside holds. solution_case lang inst assignment (nogood_at log i) (step_at log i).basis solution (valid i inside).placed.rests holds

-- a solution holds no nogood of valid steps
pub steps_sound : (lang : LanguageView) (inst : InstanceView) (log : List StepView) → AreValid lang inst log → (i : ℕ) → i < length log → IsRefuted lang inst (nogood_at log i)
steps_sound lang inst log valid i inside = λ assignment solution. refuted_all lang inst (Holds assignment) log valid (Holds-parts assignment) (solution_cases lang inst assignment log solution valid) i inside

-- an instance with a valid log has no solution
pub valid_log_sound : (lang : LanguageView) (inst : InstanceView) (log : List StepView) → IsValidLog lang inst log → HasNoSolution lang inst
valid_log_sound lang inst log is = λ assignment solution.
    let last : length log - 1 < length log = omega (arith, is.some_steps) in
    steps_sound lang inst log is.steps (length log - 1) last assignment solution
    (subst (λ (pairs : List Pair). Holds assignment pairs) (sym is.last_is_empty) (All-nil (λ (p : Pair). get_or assignment p.variable 0 ≡ p.value)))

-- an instance that has a log without a fault has no solution
pub log_sound : (lang : LanguageView) (inst : InstanceView) (log : List StepView) → log_fault lang inst log ≡ None → HasNoSolution lang inst
log_sound lang inst log none = valid_log_sound lang inst log (valid_from_fault lang inst log none)
