-- An item has at most one verdict.
use Rattle.std.proofs.Common.{◌≡◌, ◌⊎◌, ℕ, ◌<◌, List, length, refl, ap, inl, inr}
use Rattle.std.proofs.lemmas.Bool.{cases_order}
use Rattle.pol_relation.specs.Relations.{LanguageView}
use Rattle.pol_relation.specs.Instances.{InstanceView}
use Rattle.pol_nogood.specs.Logs.{StepView}
use Rattle.pol_nogood.proofs.FaultLemmas.{first_faults_same}
use Rattle.pol_modp.specs.Combinations.{CombinationView}
use Rattle.pol_modp.proofs.FirstFaults.{first_faults_same as first_sum_faults_same}
use Rattle.pol_checker.specs.declared.verdict.Cause.{Cause}
use Rattle.pol_checker.specs.declared.verdict.Cause.TheVariants.{Unknown, Size, Identity, Breaks, Assignment, Constraint, BadLog, BadSum}
use Rattle.pol_checker.specs.Verdicts.{IsFirstWithout, IsTableFault, IsAssignmentFault, IsLogFault, IsSumFault}

-- ---- causes

-- what fails first fails first at one number
pub first_one : (P : ℕ → Type 0) (count i j : ℕ) → IsFirstWithout P count i → IsFirstWithout P count j → i ≡ j
first_one P count i j one two = by_order (cases_order i j)
  where
    by_order : (i ≡ j) ⊎ ((i < j) ⊎ (j < i)) → i ≡ j
    by_order (inl same) = same
    by_order (inr (inl less)) = absurd (one.here (two.before i less))
    by_order (inr (inr more)) = absurd (two.here (one.before j more))

-- why a table is rejected is one cause
pub table_fault_one : (Sized Satisfies : Type 0) (Keeps : ℕ → Type 0) (count : ℕ) (cause other : Cause) → IsTableFault Sized Satisfies Keeps count cause → IsTableFault Sized Satisfies Keeps count other → cause ≡ other
table_fault_one Sized Satisfies Keeps count Size Size one two = refl
table_fault_one Sized Satisfies Keeps count Size Identity one two = absurd (one two.0)
table_fault_one Sized Satisfies Keeps count Size (Breaks r) one two = absurd (one two.0.sized)
table_fault_one Sized Satisfies Keeps count Identity Size one two = absurd (two one.0)
table_fault_one Sized Satisfies Keeps count Identity Identity one two = refl
table_fault_one Sized Satisfies Keeps count Identity (Breaks r) one two = absurd (one.1 two.0.satisfies)
table_fault_one Sized Satisfies Keeps count (Breaks r) Size one two = absurd (two one.0.sized)
table_fault_one Sized Satisfies Keeps count (Breaks r) Identity one two = absurd (two.1 one.0.satisfies)
table_fault_one Sized Satisfies Keeps count (Breaks r) (Breaks s) one two = ap Breaks (first_one Keeps count r s one.1 two.1)
table_fault_one Sized Satisfies Keeps count Unknown other one two = absurd one
table_fault_one Sized Satisfies Keeps count Assignment other one two = absurd one
table_fault_one Sized Satisfies Keeps count (Constraint c) other one two = absurd one
table_fault_one Sized Satisfies Keeps count (BadLog fault) other one two = absurd one
table_fault_one Sized Satisfies Keeps count (BadSum fault) other one two = absurd one
table_fault_one Sized Satisfies Keeps count Size Unknown one two = absurd two
table_fault_one Sized Satisfies Keeps count Size Assignment one two = absurd two
table_fault_one Sized Satisfies Keeps count Size (Constraint c) one two = absurd two
table_fault_one Sized Satisfies Keeps count Size (BadLog fault) one two = absurd two
table_fault_one Sized Satisfies Keeps count Size (BadSum fault) one two = absurd two
table_fault_one Sized Satisfies Keeps count Identity Unknown one two = absurd two
table_fault_one Sized Satisfies Keeps count Identity Assignment one two = absurd two
table_fault_one Sized Satisfies Keeps count Identity (Constraint c) one two = absurd two
table_fault_one Sized Satisfies Keeps count Identity (BadLog fault) one two = absurd two
table_fault_one Sized Satisfies Keeps count Identity (BadSum fault) one two = absurd two
table_fault_one Sized Satisfies Keeps count (Breaks r) Unknown one two = absurd two
table_fault_one Sized Satisfies Keeps count (Breaks r) Assignment one two = absurd two
table_fault_one Sized Satisfies Keeps count (Breaks r) (Constraint c) one two = absurd two
table_fault_one Sized Satisfies Keeps count (Breaks r) (BadLog fault) one two = absurd two
table_fault_one Sized Satisfies Keeps count (Breaks r) (BadSum fault) one two = absurd two

-- why values are rejected is one cause
pub assignment_fault_one : (lang : LanguageView) (inst : InstanceView) (values : List ℕ) (cause other : Cause) → IsAssignmentFault lang inst values cause → IsAssignmentFault lang inst values other → cause ≡ other
assignment_fault_one lang inst values Assignment Assignment one two = refl
assignment_fault_one lang inst values Assignment (Constraint d) one two = absurd (one two.0)
assignment_fault_one lang inst values (Constraint c) Assignment one two = absurd (two one.0)
assignment_fault_one lang inst values (Constraint c) (Constraint d) one two = ap Constraint (first_one _ (length inst.constraints) c d one.1 two.1)
assignment_fault_one lang inst values Unknown other one two = absurd one
assignment_fault_one lang inst values Size other one two = absurd one
assignment_fault_one lang inst values Identity other one two = absurd one
assignment_fault_one lang inst values (Breaks r) other one two = absurd one
assignment_fault_one lang inst values (BadLog fault) other one two = absurd one
assignment_fault_one lang inst values (BadSum fault) other one two = absurd one
assignment_fault_one lang inst values Assignment Unknown one two = absurd two
assignment_fault_one lang inst values Assignment Size one two = absurd two
assignment_fault_one lang inst values Assignment Identity one two = absurd two
assignment_fault_one lang inst values Assignment (Breaks r) one two = absurd two
assignment_fault_one lang inst values Assignment (BadLog fault) one two = absurd two
assignment_fault_one lang inst values Assignment (BadSum fault) one two = absurd two
assignment_fault_one lang inst values (Constraint c) Unknown one two = absurd two
assignment_fault_one lang inst values (Constraint c) Size one two = absurd two
assignment_fault_one lang inst values (Constraint c) Identity one two = absurd two
assignment_fault_one lang inst values (Constraint c) (Breaks r) one two = absurd two
assignment_fault_one lang inst values (Constraint c) (BadLog fault) one two = absurd two
assignment_fault_one lang inst values (Constraint c) (BadSum fault) one two = absurd two

-- why a log is rejected is one cause
pub log_fault_one : (lang : LanguageView) (inst : InstanceView) (log : List StepView) (cause other : Cause) → IsLogFault lang inst log cause → IsLogFault lang inst log other → cause ≡ other
log_fault_one lang inst log (BadLog fault) (BadLog later) one two = ap BadLog (first_faults_same lang inst log fault later one two)
log_fault_one lang inst log Unknown other one two = absurd one
log_fault_one lang inst log Size other one two = absurd one
log_fault_one lang inst log Identity other one two = absurd one
log_fault_one lang inst log (Breaks r) other one two = absurd one
log_fault_one lang inst log Assignment other one two = absurd one
log_fault_one lang inst log (Constraint c) other one two = absurd one
log_fault_one lang inst log (BadSum fault) other one two = absurd one
log_fault_one lang inst log (BadLog fault) Unknown one two = absurd two
log_fault_one lang inst log (BadLog fault) Size one two = absurd two
log_fault_one lang inst log (BadLog fault) Identity one two = absurd two
log_fault_one lang inst log (BadLog fault) (Breaks r) one two = absurd two
log_fault_one lang inst log (BadLog fault) Assignment one two = absurd two
log_fault_one lang inst log (BadLog fault) (Constraint c) one two = absurd two
log_fault_one lang inst log (BadLog fault) (BadSum later) one two = absurd two

-- why a combination is rejected is one cause
pub sum_fault_one : (lang : LanguageView) (inst : InstanceView) (sum : CombinationView) (cause other : Cause) → IsSumFault lang inst sum cause → IsSumFault lang inst sum other → cause ≡ other
sum_fault_one lang inst sum (BadSum fault) (BadSum later) one two = ap BadSum (first_sum_faults_same lang inst sum fault later one two)
sum_fault_one lang inst sum Unknown other one two = absurd one
sum_fault_one lang inst sum Size other one two = absurd one
sum_fault_one lang inst sum Identity other one two = absurd one
sum_fault_one lang inst sum (Breaks r) other one two = absurd one
sum_fault_one lang inst sum Assignment other one two = absurd one
sum_fault_one lang inst sum (Constraint c) other one two = absurd one
sum_fault_one lang inst sum (BadLog fault) other one two = absurd one
sum_fault_one lang inst sum (BadSum fault) Unknown one two = absurd two
sum_fault_one lang inst sum (BadSum fault) Size one two = absurd two
sum_fault_one lang inst sum (BadSum fault) Identity one two = absurd two
sum_fault_one lang inst sum (BadSum fault) (Breaks r) one two = absurd two
sum_fault_one lang inst sum (BadSum fault) Assignment one two = absurd two
sum_fault_one lang inst sum (BadSum fault) (Constraint c) one two = absurd two
sum_fault_one lang inst sum (BadSum fault) (BadLog later) one two = absurd two
