-- Verdicts: one of an item, and what is accepted.
use Rattle.std.proofs.Common.{◌≡◌, ◌⊎◌, ℕ, ◌<◌, ◌≤◌, ◌^◌, ◌-◌, Some, List, length, Contains, refl, sym, ap, ◌∙◌, subst, inl, inr, arith}
use Rattle.std.proofs.lemmas.List.{length-map, get_or-map}
use Rattle.std.specs.Prelude.{◌↔◌}
use Rattle.std.proofs.lemmas.Option.{none-some, same_Some}
use Rattle.std.proofs.lemmas.Bool.{cases_order}
use Rattle.pol_base.specs.declared.class_name.ClassName.{ClassName}
use Rattle.pol_base.specs.declared.class_name.ClassName.TheVariants.{Constant, Semilattice, SetFunction, Majority, Nu4, Affine, Maltsev}
use Rattle.pol_relation.specs.Relations.{LanguageView, no_named}
use Rattle.pol_relation.specs.Instances.{InstanceView, HasNoSolution, no_constraint}
use Rattle.pol_base.specs.Tuples.{IsTuple}
use Rattle.pol_optable.specs.Operations.{Operation, IsOperation, operation_of}
use Rattle.pol_optable.specs.SetFunctions.{IsSetFunction}
use Rattle.pol_optable.specs.Laws.{table_cells}
use Rattle.pol_optable.proofs.ConstantLemmas.{power_one}
use Rattle.pol_nogood.specs.Logs.{StepView}
use Rattle.pol_nogood.specs.ValidLogs.{IsValidLog}
use Rattle.pol_nogood.proofs.FaultLemmas.{fault_from_valid, fault_from_first}
use Rattle.pol_nogood.proofs.LogSound.{valid_log_sound}
use Rattle.pol_modp.specs.Combinations.{CombinationView}
use Rattle.pol_modp.specs.ValidCombinations.{IsValidCombination}
use Rattle.pol_modp.proofs.CombinationTests.{fault_from_valid as fault_from_valid_sum}
use Rattle.pol_modp.proofs.FirstFaults.{fault_from_first as fault_from_first_sum}
use Rattle.pol_modp.proofs.CombinationSound.{valid_combination_refutes}
use Rattle.pol_lang.specs.Files.{FileView, IsFile, instance_names, instance_of, no_instance}
use Rattle.pol_report.specs.declared.item.Item.{Item}
use Rattle.pol_report.specs.declared.item.Item.TheVariants as item
use Rattle.pol_checker.specs.declared.verdict.Cause.{Cause}
use Rattle.pol_checker.specs.declared.verdict.Cause.TheVariants.{Unknown, Size, Identity, Breaks, Assignment, Constraint, BadLog, BadSum}
use Rattle.pol_checker.specs.declared.verdict.Verdict.{Verdict}
use Rattle.pol_checker.specs.declared.verdict.Verdict.TheVariants.{Accepted, Unchecked, Rejected}
use Rattle.pol_checker.specs.Verdicts.{IsJudged, IsTableFault, IsAssignmentFault, IsLogFault, IsSumFault, IsOperationVerdict, IsSetVerdict, IsTableVerdict, IsSolutionVerdict, IsLogVerdict, IsSumVerdict, IsNoVerdict, HasNamed, IsAnswerVerdict, IsVerdict}
use Rattle.pol_checker.specs.Verdicts.IsAnswerVerdict.{unknown, named}
use Rattle.pol_checker.specs.Laws.{answered}
use Rattle.pol_checker.proofs.FaultLemmas.{table_fault_one, assignment_fault_one, log_fault_one, sum_fault_one}

-- what is good has no fault, and no other has two
judged_one : (Good : Type 0) (Fault : Cause → Type 0) → (Good → (cause : Cause) → ¬ Fault cause) → ((cause other : Cause) → Fault cause → Fault other → cause ≡ other) → (one other : Verdict) → IsJudged Good Fault one → IsJudged Good Fault other → one ≡ other
judged_one Good Fault sound same Accepted Accepted one two = refl
judged_one Good Fault sound same Accepted Unchecked one two = absurd two
judged_one Good Fault sound same Accepted (Rejected cause) one two = absurd (sound one cause two)
judged_one Good Fault sound same Unchecked other one two = absurd one
judged_one Good Fault sound same (Rejected cause) Accepted one two = absurd (sound two cause one)
judged_one Good Fault sound same (Rejected cause) Unchecked one two = absurd two
judged_one Good Fault sound same (Rejected cause) (Rejected later) one two = ap Rejected (same cause later one two)

-- ---- tables

-- a table that keeps all relations has no fault
no_table_fault : (Sized Satisfies : Type 0) (Keeps : ℕ → Type 0) (count : ℕ) → Sized → Satisfies → ((r : ℕ) → r < count → Keeps r) → (cause : Cause) → ¬ IsTableFault Sized Satisfies Keeps count cause
no_table_fault Sized Satisfies Keeps count sized satisfies keeps Size fault = fault sized
no_table_fault Sized Satisfies Keeps count sized satisfies keeps Identity fault = fault.1 satisfies
no_table_fault Sized Satisfies Keeps count sized satisfies keeps (Breaks r) fault = fault.1.here (keeps r fault.1.known)
no_table_fault Sized Satisfies Keeps count sized satisfies keeps Unknown fault = fault
no_table_fault Sized Satisfies Keeps count sized satisfies keeps Assignment fault = fault
no_table_fault Sized Satisfies Keeps count sized satisfies keeps (Constraint c) fault = fault
no_table_fault Sized Satisfies Keeps count sized satisfies keeps (BadLog f) fault = fault
no_table_fault Sized Satisfies Keeps count sized satisfies keeps (BadSum f) fault = fault

operation_one : (identities : Operation → Type 0) (K : ℕ) (lang : LanguageView) (cells : List ℕ) (one other : Verdict) → IsOperationVerdict identities K lang cells one → IsOperationVerdict identities K lang cells other → one ≡ other
operation_one identities K lang cells =
    judged_one _ _ (λ table. no_table_fault _ _ _ (length lang.relations) table.is_operation table.satisfies (λ r inside. table.preserves r no_named inside))
    (table_fault_one _ _ _ (length lang.relations))

set_one : (lang : LanguageView) (cells : List ℕ) (one other : Verdict) → IsSetVerdict lang cells one → IsSetVerdict lang cells other → one ≡ other
set_one lang cells =
    judged_one _ _ (λ table. no_table_fault _ _ _ (length lang.relations) table.is_set_function tt (λ r inside. table.preserves r no_named inside))
    (table_fault_one _ _ _ (length lang.relations))

table_one : (class : ClassName) (lang : LanguageView) (cells : List ℕ) (one other : Verdict) → IsTableVerdict class lang cells one → IsTableVerdict class lang cells other → one ≡ other
table_one Constant lang cells = operation_one _ 1 lang cells
table_one Semilattice lang cells = operation_one _ 2 lang cells
table_one SetFunction lang cells = set_one lang cells
table_one Majority lang cells = operation_one _ 3 lang cells
table_one Nu4 lang cells = operation_one _ 4 lang cells
table_one Affine lang cells = operation_one _ 3 lang cells
table_one Maltsev lang cells = operation_one _ 3 lang cells

-- ---- answers

no_assignment_fault : (lang : LanguageView) (inst : InstanceView) (values : List ℕ) → IsSolutionVerdict lang values inst Accepted → (cause : Cause) → ¬ IsAssignmentFault lang inst values cause
no_assignment_fault lang inst values solution Assignment fault = fault solution.assigns
no_assignment_fault lang inst values solution (Constraint c) fault = fault.1.here (solution.meets c no_constraint fault.1.known)
no_assignment_fault lang inst values solution Unknown fault = fault
no_assignment_fault lang inst values solution Size fault = fault
no_assignment_fault lang inst values solution Identity fault = fault
no_assignment_fault lang inst values solution (Breaks r) fault = fault
no_assignment_fault lang inst values solution (BadLog f) fault = fault
no_assignment_fault lang inst values solution (BadSum f) fault = fault

no_log_fault : (lang : LanguageView) (inst : InstanceView) (log : List StepView) → IsValidLog lang inst log → (cause : Cause) → ¬ IsLogFault lang inst log cause
no_log_fault lang inst log valid (BadLog fault) first = none-some fault (sym (fault_from_valid lang inst log valid) ∙ fault_from_first lang inst log fault first)
no_log_fault lang inst log valid Unknown fault = fault
no_log_fault lang inst log valid Size fault = fault
no_log_fault lang inst log valid Identity fault = fault
no_log_fault lang inst log valid (Breaks r) fault = fault
no_log_fault lang inst log valid Assignment fault = fault
no_log_fault lang inst log valid (Constraint c) fault = fault
no_log_fault lang inst log valid (BadSum f) fault = fault

no_sum_fault : (lang : LanguageView) (inst : InstanceView) (sum : CombinationView) → IsValidCombination lang inst sum → (cause : Cause) → ¬ IsSumFault lang inst sum cause
no_sum_fault lang inst sum valid (BadSum fault) first = none-some fault (sym (fault_from_valid_sum lang inst sum valid) ∙ fault_from_first_sum lang inst sum fault first)
no_sum_fault lang inst sum valid Unknown fault = fault
no_sum_fault lang inst sum valid Size fault = fault
no_sum_fault lang inst sum valid Identity fault = fault
no_sum_fault lang inst sum valid (Breaks r) fault = fault
no_sum_fault lang inst sum valid Assignment fault = fault
no_sum_fault lang inst sum valid (Constraint c) fault = fault
no_sum_fault lang inst sum valid (BadLog f) fault = fault

solution_one : (lang : LanguageView) (values : List ℕ) (inst : InstanceView) (one other : Verdict) → IsSolutionVerdict lang values inst one → IsSolutionVerdict lang values inst other → one ≡ other
solution_one lang values inst = judged_one _ _ (no_assignment_fault lang inst values) (assignment_fault_one lang inst values)

log_one : (lang : LanguageView) (log : List StepView) (inst : InstanceView) (one other : Verdict) → IsLogVerdict lang log inst one → IsLogVerdict lang log inst other → one ≡ other
log_one lang log inst = judged_one _ _ (no_log_fault lang inst log) (log_fault_one lang inst log)

sum_one : (lang : LanguageView) (sum : CombinationView) (inst : InstanceView) (one other : Verdict) → IsSumVerdict lang sum inst one → IsSumVerdict lang sum inst other → one ≡ other
sum_one lang sum inst = judged_one _ _ (no_sum_fault lang inst sum) (sum_fault_one lang inst sum)

-- ---- names

-- a file has at most one instance of a name
pub named_is_one : (file : FileView) (i j : ℕ) → IsFile file → i < length file.instances → j < length file.instances → (instance_of file i).name ≡ (instance_of file j).name → i ≡ j
named_is_one file i j is known there same = by_order (cases_order i j)
  where
    by_order : (i ≡ j) ⊎ ((i < j) ⊎ (j < i)) → i ≡ j
    by_order (inl equal) = equal
    by_order (inr (inl less)) = absurd (is.distinct i j no_instance less there same)
    by_order (inr (inr more)) = absurd (is.distinct j i no_instance more known (sym same))

-- a name of an instance is among the names
name_known : (P : InstanceView → Type 0) (file : FileView) (name : List ℕ) → HasNamed P file name → Contains (instance_names file) name
name_known P file name has =
    let within : has.number < length (instance_names file) = omega (arith, has.known, length-map file.instances (λ inst. inst.name)) in
    (has.number, within, get_or-map (λ inst. inst.name) file.instances has.number no_instance name has.known ∙ has.name_is)

answer_one : (Judges : InstanceView → Verdict → Type 0) → ((inst : InstanceView) (one other : Verdict) → Judges inst one → Judges inst other → one ≡ other) → (file : FileView) (name : List ℕ) (one other : Verdict) → IsFile file → IsAnswerVerdict Judges file name one → IsAnswerVerdict Judges file name other → one ≡ other
answer_one Judges same file name one other is (unknown none told) (unknown again too) = told ∙ sym too
answer_one Judges same file name one other is (unknown none told) (named has) = absurd (none (name_known _ file name has))
answer_one Judges same file name one other is (named has) (unknown none told) = absurd (none (name_known _ file name has))
answer_one Judges same file name one other is (named has) (named too) =
    let place = named_is_one file has.number too.number is has.known too.known (has.name_is ∙ sym too.name_is) in
    same (instance_of file too.number) one other (subst (λ i. Judges (instance_of file i) one) place has.holds) too.holds

-- an item has at most one verdict
pub verdict_one : (file : FileView) (told : Item) (one other : Verdict) → IsFile file → IsVerdict file told one → IsVerdict file told other → one ≡ other
verdict_one file (item.ClassTable class cells) one other is first second = table_one class file.language cells one other first second
verdict_one file (item.ClassNone class) one other is first second = first ∙ sym second
verdict_one file item.ClassBeyond one other is first second = first ∙ sym second
verdict_one file (item.Yes name class values) one other is first second = answer_one _ (solution_one file.language values) file name one other is first second
verdict_one file (item.YesSizes name values sizes) one other is first second = answer_one _ (solution_one file.language values) file name one other is first second
verdict_one file (item.NoLog name class log) one other is first second = answer_one _ (log_one file.language log) file name one other is first second
verdict_one file (item.NoSum name sum) one other is first second = answer_one _ (sum_one file.language sum) file name one other is first second
verdict_one file (item.NoSizes name sizes) one other is first second = answer_one _ (λ inst. no_one) file name one other is first second
  where
    no_one : (a b : Verdict) → a ≡ Unchecked → b ≡ Unchecked → a ≡ b
    no_one a b left right = left ∙ sym right
verdict_one file (item.Undecided name) one other is first second = answer_one _ (λ inst. no_one) file name one other is first second
  where
    no_one : (a b : Verdict) → a ≡ Unchecked → b ≡ Unchecked → a ≡ b
    no_one a b left right = left ∙ sym right

-- ---- what is accepted

accepted_named : (Judges : InstanceView → Verdict → Type 0) (file : FileView) (name : List ℕ) → IsAnswerVerdict Judges file name Accepted → HasNamed (λ inst. Judges inst Accepted) file name
accepted_named Judges file name (unknown none told) = cc
accepted_named Judges file name (named has) = has

-- an instance with an accepted log has no solution
pub log_refutes : (file : FileView) (name : List ℕ) (log : List StepView) → IsAnswerVerdict (IsLogVerdict file.language log) file name Accepted → HasNamed (HasNoSolution file.language) file name
log_refutes file name log accepted =
    let has = accepted_named (IsLogVerdict file.language log) file name accepted in
    record {
      number = has.number;
      known = has.known;
      name_is = has.name_is;
      holds = valid_log_sound file.language (instance_of file has.number) log has.holds;
    }

-- an instance with an accepted combination has no solution
pub sum_refutes : (file : FileView) (name : List ℕ) (sum : CombinationView) → IsFile file → IsAnswerVerdict (IsSumVerdict file.language sum) file name Accepted → HasNamed (HasNoSolution file.language) file name
sum_refutes file name sum is accepted =
    let has = accepted_named (IsSumVerdict file.language sum) file name accepted in
    let fits = (is.instances_are has.number no_instance has.known).fits in
    record {
      number = has.number;
      known = has.known;
      name_is = has.name_is;
      holds = λ assignment solution. valid_combination_refutes file.language (instance_of file has.number) sum assignment fits has.holds solution;
    }

-- ---- what is unknown, and what has another size

answer_unknown : (Judges : InstanceView → Verdict → Type 0) → ((inst : InstanceView) → ¬ Judges inst (Rejected Unknown)) → (file : FileView) (name : List ℕ) → IsAnswerVerdict Judges file name (Rejected Unknown) ↔ (¬ Contains (instance_names file) name)
answer_unknown Judges never file name = (absent, λ none. unknown none refl)
  where
    absent : IsAnswerVerdict Judges file name (Rejected Unknown) → ¬ Contains (instance_names file) name
    absent (unknown none told) = none
    absent (named has) = absurd (never (instance_of file has.number) has.holds)

unknown_by_name : (Judges : InstanceView → Verdict → Type 0) → ((inst : InstanceView) → ¬ Judges inst (Rejected Unknown)) → (file : FileView) (told name : List ℕ) → Some told ≡ Some name → IsAnswerVerdict Judges file told (Rejected Unknown) ↔ (¬ Contains (instance_names file) name)
unknown_by_name Judges never file told name same =
    subst (λ (other : List ℕ). IsAnswerVerdict Judges file told (Rejected Unknown) ↔ (¬ Contains (instance_names file) other)) (same_Some told name same) (answer_unknown Judges never file told)

no_unknown : (inst : InstanceView) → ¬ IsNoVerdict inst (Rejected Unknown)
no_unknown inst = λ same. cc

-- an answer is unknown exactly where no instance has its name
pub unknown_is_absent : (file : FileView) (told : Item) (name : List ℕ) → answered told ≡ Some name → IsVerdict file told (Rejected Unknown) ↔ (¬ Contains (instance_names file) name)
unknown_is_absent file (item.ClassTable class cells) name same = absurd (none-some name same)
unknown_is_absent file (item.ClassNone class) name same = absurd (none-some name same)
unknown_is_absent file item.ClassBeyond name same = absurd (none-some name same)
unknown_is_absent file (item.Yes told class values) name same = unknown_by_name (IsSolutionVerdict file.language values) (λ inst no. no) file told name same
unknown_is_absent file (item.YesSizes told values sizes) name same = unknown_by_name (IsSolutionVerdict file.language values) (λ inst no. no) file told name same
unknown_is_absent file (item.NoLog told class log) name same = unknown_by_name (IsLogVerdict file.language log) (λ inst no. no) file told name same
unknown_is_absent file (item.NoSum told sum) name same = unknown_by_name (IsSumVerdict file.language sum) (λ inst no. no) file told name same
unknown_is_absent file (item.NoSizes told sizes) name same = unknown_by_name IsNoVerdict no_unknown file told name same
unknown_is_absent file (item.Undecided told) name same = unknown_by_name IsNoVerdict no_unknown file told name same

operation_size : (K d n : ℕ) (cells : List ℕ) → 1 ≤ K → n ≡ d ^ K → (¬ IsOperation (operation_of d K cells)) ↔ (¬ IsTuple d n cells)
operation_size K d n cells some same = (
  λ no tuple. no (record { some_arguments = some; all_cells = tuple.long ∙ same; below = tuple.below }),
  λ no is. no (record { long = is.all_cells ∙ sym same; below = is.below }),
)

set_size : (d : ℕ) (cells : List ℕ) → (¬ IsSetFunction (record { domain = d; cells = cells })) ↔ (¬ IsTuple d (2 ^ d - 1) cells)
set_size d cells =
    (λ no tuple. no (record { all_cells = tuple.long; below = tuple.below }), λ no is. no (record { long = is.all_cells; below = is.below }))

-- a table is rejected for its size exactly where it has not a value for each cell of its class
pub size_is_of_cells : (file : FileView) (class : ClassName) (cells : List ℕ) → IsTableVerdict class file.language cells (Rejected Size) ↔ (¬ IsTuple file.language.domain (table_cells class file.language.domain) cells)
size_is_of_cells file Constant cells = operation_size 1 file.language.domain file.language.domain cells (omega arith) (sym (power_one file.language.domain))
size_is_of_cells file Semilattice cells = operation_size 2 file.language.domain _ cells (omega arith) refl
size_is_of_cells file SetFunction cells = set_size file.language.domain cells
size_is_of_cells file Majority cells = operation_size 3 file.language.domain _ cells (omega arith) refl
size_is_of_cells file Nu4 cells = operation_size 4 file.language.domain _ cells (omega arith) refl
size_is_of_cells file Affine cells = operation_size 3 file.language.domain _ cells (omega arith) refl
size_is_of_cells file Maltsev cells = operation_size 3 file.language.domain _ cells (omega arith) refl
