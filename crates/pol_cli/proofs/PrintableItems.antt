-- The items of a report of a file can be printed: their numbers are within the bounds of the format.
use Rattle.std.proofs.Common.{◌≡◌, ℕ, ◌+◌, ◌*◌, ◌^◌, ◌<◌, ◌≤◌, ◌==◌, zero, suc, cond, List, [], ◌∷◌, length, take, get_or, All, Option, Some, None, inl, inr, ap, sym, subst, arith}
use Rattle.std.specs.Prelude.{filter, nat_lt, count_by}
use Rattle.std.proofs.Math.Nat.{one-le-pow, pow-le-pow_left, pow-le-pow_right, mul-le-mul}
use Rattle.std.proofs.lemmas.Bool.{cases_lt, lt-ltb, le-ltb, eq-eqb}
use Rattle.std.proofs.lemmas.List.{length-map, get_or_default, length-take}
use Rattle.std.proofs.lemmas.List.FromFn.{length-map-range_with_len}
use Rattle.std.proofs.lemmas.List.Elements.{All-head, All-tail}
use Rattle.std.proofs.lemmas.List.Sums.{length-filter, count_by-le-length, sum_by-cons}
use Rattle.pol_base.specs.declared.class_name.ClassName.{ClassName}
use Rattle.pol_base.specs.declared.class_name.ClassName.TheVariants.{Constant, Semilattice, SetFunction, Majority, Nu4, Affine, Maltsev}
use Rattle.pol_relation.specs.Relations.{LanguageView, IsLanguage, no_named, rows_of}
use Rattle.pol_relation.specs.Instances.{InstanceView, IsSolution, constraint_of, no_constraint}
use Rattle.pol_nogood.specs.Nogoods.{Pair}
use Rattle.pol_nogood.specs.Logs.{Basis, StepView, step_at, no_step, cases_of, reading, is_case, value_case, FitsMost}
use Rattle.pol_nogood.specs.ValidLogs.{CanRestOn, IsValidStep}
use Rattle.pol_nogood.specs.Answers.{IsCertificate}
use Rattle.pol_nogood.proofs.Counting.{few_steps_of_three}
use Rattle.pol_modp.specs.Combinations.{PartView, CombinationView}
use Rattle.pol_modp.specs.ValidCombinations.{IsPlaced}
use Rattle.pol_affine.specs.Answers.{parts_at, IsSumCertificate}
use Rattle.pol_maltsev.specs.Compacts.{AreSizes}
use Rattle.pol_maltsev.specs.Representations.{MeetsFirst}
use Rattle.pol_rows.proofs.SizeLemmas.{size-bound}
use Rattle.pol_optable.specs.Operations.{Operation}
use Rattle.pol_optable.specs.ClassLines.{IsTable, IsSetTable, IsTableOf, Line, ClassLine}
use Rattle.pol_optable.specs.ClassLines.Line.{Beyond, Sought}
use Rattle.pol_solve.specs.declared.answering.InstanceAnswer.{InstanceAnswer}
use Rattle.pol_solve.specs.declared.answering.InstanceAnswer.TheVariants as answer
use Rattle.pol_solve.specs.Answers.{IsLogAnswer, IsSumAnswer, IsSizesAnswer, AnswersBy}
use Rattle.pol_report.specs.declared.item.Item.{Item}
use Rattle.pol_report.specs.Printable.{AreValues, IsShort, basis_number, IsPrintableStep, IsPrintableLog, IsPrintablePart, IsPrintableCombination, ArePrintableSizes, HasPlainYes, HasLogs, IsPrintable}
use Rattle.pol_lang.specs.Files.{IsFileLanguage, IsFileInstance}
use Rattle.pol_cli.specs.Reports.{class_item, answer_item, IsClassItem, IsInstanceItem}

-- ---- the items of classes

op_cells :
    (identities : Operation → Type 0) (k : ℕ) (lang : LanguageView) (cells : List ℕ)
    → k ≤ 4
    → IsLanguage lang
    → IsTable identities k lang cells
    → AreValues 625 cells
op_cells identities k lang cells few is table =
    let some : 1 ≤ lang.domain ^ k = one-le-pow k lang.domain is.domain_is.some in
    let wide : lang.domain ^ k ≤ 5 ^ k = pow-le-pow_left is.domain_is.few k in
    let long : 5 ^ k ≤ 5 ^ 4 = pow-le-pow_right (omega arith) few in
    record {
      some = omega (arith, some, table.is_operation.all_cells);
      few = omega (arith, wide, long, table.is_operation.all_cells);
      each = λ i none inside. omega (arith, table.is_operation.below i none inside, is.domain_is.few);
    }

set_cells : (lang : LanguageView) (cells : List ℕ) → IsLanguage lang → IsSetTable lang cells → AreValues 625 cells
set_cells lang cells is table =
    let some : 2 ^ 1 ≤ 2 ^ lang.domain = pow-le-pow_right (omega arith) is.domain_is.some in
    let few : 2 ^ lang.domain ≤ 2 ^ 5 = pow-le-pow_right (omega arith) is.domain_is.few in
    record {
      some = omega (arith, some, table.is_set_function.all_cells);
      few = omega (arith, few, table.is_set_function.all_cells);
      each = λ i none inside. omega (arith, table.is_set_function.below i none inside, is.domain_is.few);
    }

-- the cells of a table of a class are few
table_cells : (class : ClassName) (lang : LanguageView) (cells : List ℕ) → IsLanguage lang → IsTableOf class lang cells → AreValues 625 cells
table_cells Constant lang cells is table = op_cells _ 1 lang cells (omega arith) is table
table_cells Semilattice lang cells is table = op_cells _ 2 lang cells (omega arith) is table
table_cells SetFunction lang cells is table = set_cells lang cells is table
table_cells Majority lang cells is table = op_cells _ 3 lang cells (omega arith) is table
table_cells Nu4 lang cells is table = op_cells _ 4 lang cells (omega arith) is table
table_cells Affine lang cells is table = op_cells _ 3 lang cells (omega arith) is table
table_cells Maltsev lang cells is table = op_cells _ 3 lang cells (omega arith) is table

line_printable : (class : ClassName) (lang : LanguageView) (line : Line) → IsLanguage lang → ClassLine class lang line → IsPrintable (class_item class line)
line_printable class lang Beyond is line = tt
line_printable class lang (Sought None) is line = tt
line_printable class lang (Sought (Some cells)) is line = table_cells class lang cells is line.1.holds

pub class_printable : (lang : LanguageView) (class : ClassName) (told : Item) → IsFileLanguage lang → IsClassItem lang class told → IsPrintable told
class_printable lang class told is item =
    subst IsPrintable (sym item.item_is) (line_printable class lang item.line is.is_language item.is_line)

-- ---- the steps of logs

-- a step has at most 128 cases
few_cases :
    (lang : LanguageView) (inst : InstanceView) (nogood : List Pair) (basis : Basis)
    → IsFileLanguage lang
    → IsFileInstance lang inst
    → CanRestOn inst nogood basis
    → length (cases_of lang inst basis nogood) ≤ 128
few_cases lang inst nogood (Basis.ByConstraint c) is fits rests =
    let at = constraint_of inst c in
    let cases = filter (is_case at.scope nogood) (rows_of lang at.relation) in
    let rows = is.few_tuples at.relation no_named (fits.fits c no_constraint rests).known in
    omega (arith, length-map cases (reading at.scope), length-filter (is_case at.scope nogood) (rows_of lang at.relation), count_by-le-length (is_case at.scope nogood) (rows_of lang at.relation), rows)
few_cases lang inst nogood (Basis.ByVariable v) is fits rests =
    omega (arith, length-map-range_with_len (value_case v) 0 lang.domain, is.is_language.domain_is.few)

basis_short :
    (lang : LanguageView) (inst : InstanceView) (nogood : List Pair) (basis : Basis)
    → IsFileInstance lang inst
    → CanRestOn inst nogood basis
    → IsShort (basis_number basis)
basis_short lang inst nogood (Basis.ByConstraint c) fits rests = omega (arith, rests, fits.few_constraints)
basis_short lang inst nogood (Basis.ByVariable v) fits rests = omega (arith, rests.0, fits.few_variables)

step_printable :
    (lang : LanguageView) (inst : InstanceView) (earlier : List StepView) (s : StepView)
    → IsFileLanguage lang
    → IsFileInstance lang inst
    → length earlier ≤ 1254701
    → length s.nogood ≤ 3
    → IsValidStep lang inst earlier s
    → IsPrintableStep s
step_printable lang inst earlier s is fits few small valid = record {
  basis = basis_short lang inst s.nogood s.basis fits valid.placed.rests;
  pairs = record {
    few = small;
    each = λ i none inside.
        (let pair = valid.placed.is_nogood.pairs i none inside in
        record {
          variable = omega (arith, pair.variable_known, fits.few_variables);
          value = omega (arith, pair.value_known, is.is_language.domain_is.few);
        });
  };
  references = record {
    few = omega (arith, valid.referred.as_many, few_cases lang inst s.nogood s.basis is fits valid.placed.rests);
    each = λ i none inside. omega (arith, valid.referred.to_earlier i none inside, few);
  };
}

log_printable :
    (most : ℕ) (lang : LanguageView) (inst : InstanceView) (log : List StepView)
    → most ≤ 3
    → IsFileLanguage lang
    → IsFileInstance lang inst
    → IsCertificate most lang inst log
    → IsPrintableLog log
log_printable most lang inst log three is fits certificate =
    let small : FitsMost 3 log = record {
      different = certificate.fits.different;
      small = λ i none inside. omega (arith, certificate.fits.small i none inside, three);
    } in
    let steps = certificate.valid.steps in
    let few : length log ≤ 1254701 = few_steps_of_three lang inst log is.is_language.domain_is.few fits.few_variables steps small in
    record {
      few = omega (arith, few);
      each = λ i none inside. subst IsPrintableStep (get_or_default log i no_step none inside)
          (step_printable lang inst (take i log) (step_at log i) is fits (omega (arith, few, inside, length-take i log))
          (small.small i no_step inside) (steps i inside));
    }

-- ---- the parts of combinations

counted : (c m : ℕ) → c < m → cond {A = ℕ} (nat_lt c m) 1 0 ≡ 1
counted c m less = ap (λ b. cond {A = ℕ} b 1 0) (lt-ltb c m less)

not_counted : (c m : ℕ) → m ≤ c → cond {A = ℕ} (nat_lt c m) 1 0 ≡ 0
not_counted c m more = ap (λ b. cond {A = ℕ} b 1 0) (le-ltb c m more)

-- a number is counted below the next where it is below this one, or this one
below_next : (c m : ℕ) → cond (nat_lt c (suc m)) 1 0 ≤ cond (nat_lt c m) 1 0 + cond (c == m) 1 0
below_next c m = elim (cases_lt c m) [
  | inl less ↦ omega (arith, counted c m less, counted c (suc m) (omega (arith, less)))
  | inr more ↦ elim (cases_lt c (suc m)) [
    | inl last ↦ (let same : cond {A = ℕ} (c == m) 1 0 ≡ 1 = ap (λ b. cond {A = ℕ} b 1 0) (eq-eqb c m (omega (arith, more, last))) in
        omega (arith, same, counted c (suc m) last))
    | inr above ↦ omega (arith, not_counted c (suc m) above)
  ]
]

-- how many parts are of the first constraints, so many of them
abbrev parts_below : ℕ → List PartView → ℕ
parts_below m parts = count_by (λ (part : PartView). nat_lt part.constraint m) parts

none_below : (parts : List PartView) → parts_below 0 parts ≤ 0
none_below [] = omega arith
none_below (part ∷ parts) =
    omega (arith, none_below parts, not_counted part.constraint 0 (omega arith), sum_by-cons (λ (p : PartView). cond (nat_lt p.constraint 0) 1 0) part parts)

one_more : (m : ℕ) (parts : List PartView) → parts_below (suc m) parts ≤ parts_below m parts + parts_at m parts
one_more m [] = omega arith
one_more m (part ∷ parts) = omega (
  arith,
  one_more m parts,
  below_next part.constraint m,
  sum_by-cons (λ (p : PartView). cond (nat_lt p.constraint (suc m)) 1 0) part parts,
  sum_by-cons (λ (p : PartView). cond (nat_lt p.constraint m) 1 0) part parts,
  sum_by-cons (λ (p : PartView). cond (p.constraint == m) 1 0) part parts,
)

few_below : (m : ℕ) (parts : List PartView) → ((k : ℕ) → parts_at k parts ≤ 7) → parts_below m parts ≤ 7 * m
few_below zero parts few = omega (arith, none_below parts)
few_below (suc m) parts few = omega (arith, few_below m parts few, one_more m parts, few m)

all_below : (m : ℕ) (parts : List PartView) → All (λ (p : PartView). p.constraint < m) parts → length parts ≤ parts_below m parts
all_below m [] all = omega arith
all_below m (part ∷ parts) all = omega (
  arith,
  all_below m parts (All-tail (λ (p : PartView). p.constraint < m) part parts all),
  counted part.constraint m (All-head (λ (p : PartView). p.constraint < m) part parts all),
  sum_by-cons (λ (p : PartView). cond (nat_lt p.constraint m) 1 0) part parts,
)

part_printable :
    (lang : LanguageView) (inst : InstanceView) (part : PartView)
    → IsFileLanguage lang
    → IsFileInstance lang inst
    → IsPlaced lang inst part
    → IsPrintablePart part
part_printable lang inst part is fits placed =
    let at = constraint_of inst part.constraint in
    let fit = fits.fits part.constraint no_constraint placed.known in
    let over = is.is_language.relations_are at.relation no_named fit.known in
    let small = is.is_language.domain_is.few in
    record {
      constraint = omega (arith, placed.known, fits.few_constraints);
      multiplier = omega (arith, placed.multiplier_below, small);
      right = omega (arith, placed.right_below, small);
      coefs = record {
        some = omega (arith, placed.as_many, over.is_relation.some_places);
        few = omega (arith, placed.as_many, over.is_relation.few_places);
        each = λ i none inside. omega (arith, placed.coefs_below i none inside, small);
      };
    }

combination_printable :
    (lang : LanguageView) (inst : InstanceView) (sum : CombinationView)
    → IsFileLanguage lang
    → IsFileInstance lang inst
    → IsSumCertificate lang inst sum
    → IsPrintableCombination sum
combination_printable lang inst sum is fits certificate =
    let valid = certificate.valid in
    let domain = is.is_language.domain_is in
    let m = length inst.constraints in
    record {
      labels = record {
        some = omega (arith, valid.labels.many, domain.some);
        few = omega (arith, valid.labels.many, domain.few);
        each = λ i none inside. omega (arith, valid.labels.below i none inside, domain.few);
      };
      parts = record {
        few = omega (
          arith,
          few_below m sum.parts certificate.few,
          all_below m sum.parts (λ i none inside. (valid.placed i none inside).known),
          fits.few_constraints,
        );
        each = λ i none inside. part_printable lang inst (get_or sum.parts i none) is fits (valid.placed i none inside);
      };
    }

-- ---- sizes

-- a signature of at most 40 places and five values has at most a thousand triples
size_short : (n d size : ℕ) → n ≤ 40 → d ≤ 5 → size ≤ n * (d * d) → IsShort size
size_short n d size few small most =
    let square : d * d ≤ 5 * 5 = mul-le-mul small small in
    let all : n * (d * d) ≤ 40 * (5 * 5) = mul-le-mul few square in
    omega (arith, most, all)

sizes_printable :
    (lang : LanguageView) (inst : InstanceView) (sizes : List ℕ)
    → IsFileLanguage lang
    → IsFileInstance lang inst
    → AreSizes lang inst sizes
    → ArePrintableSizes sizes
sizes_printable lang inst sizes is fits are = record {
  some = omega (arith, are.counted);
  few = omega (arith, are.counted, fits.few_constraints);
  each = λ j none inside. subst IsShort (get_or_default sizes j 0 none inside)
      (size_short (length inst.variables) lang.domain (get_or sizes j 0) fits.few_variables is.is_language.domain_is.few
      (size-bound (length inst.variables) lang.domain (MeetsFirst lang inst j) (get_or sizes j 0)
      (are.each j (omega (arith, inside, are.counted)))));
}

-- ---- the items of instances

solution_values :
    (lang : LanguageView) (inst : InstanceView) (values : List ℕ)
    → IsFileLanguage lang
    → IsFileInstance lang inst
    → IsSolution lang inst values
    → AreValues 40 values
solution_values lang inst values is fits solution = record {
  some = omega (arith, solution.assigns.long, fits.some_variables);
  few = omega (arith, solution.assigns.long, fits.few_variables);
  each = λ i none inside. omega (arith, solution.assigns.below i none inside, is.is_language.domain_is.few);
}

answer_printable :
    (class : ClassName) (most : ℕ) (lang : LanguageView) (inst : InstanceView) (given : InstanceAnswer)
    → most ≤ 3
    → HasPlainYes class
    → HasLogs class
    → IsFileLanguage lang
    → IsFileInstance lang inst
    → IsLogAnswer most lang inst given
    → IsPrintable (answer_item inst.name (Some class) given)
answer_printable class most lang inst (answer.Yes values) three plain logs is fits owed = record {
  named = fits.name_is;
  plain = plain;
  solution = solution_values lang inst values is fits owed;
}
answer_printable class most lang inst (answer.NoLog log) three plain logs is fits owed = record {
  named = fits.name_is;
  has_logs = logs;
  steps = log_printable most lang inst log three is fits owed.1;
}
answer_printable class most lang inst (answer.NoSum combination) three plain logs is fits owed = absurd owed
answer_printable class most lang inst (answer.YesSizes values sizes) three plain logs is fits owed = absurd owed
answer_printable class most lang inst (answer.NoSizes sizes) three plain logs is fits owed = absurd owed
answer_printable class most lang inst answer.Undecided three plain logs is fits owed = absurd owed

sum_printable :
    (lang : LanguageView) (inst : InstanceView) (given : InstanceAnswer)
    → IsFileLanguage lang
    → IsFileInstance lang inst
    → IsSumAnswer lang inst given
    → IsPrintable (answer_item inst.name (Some Affine) given)
sum_printable lang inst (answer.Yes values) is fits owed = record {
  named = fits.name_is;
  plain = tt;
  solution = solution_values lang inst values is fits owed;
}
sum_printable lang inst (answer.NoLog log) is fits owed = absurd owed
sum_printable lang inst (answer.NoSum combination) is fits owed = record {
  named = fits.name_is;
  combination = combination_printable lang inst combination is fits owed.1;
}
sum_printable lang inst (answer.YesSizes values sizes) is fits owed = absurd owed
sum_printable lang inst (answer.NoSizes sizes) is fits owed = absurd owed
sum_printable lang inst answer.Undecided is fits owed = absurd owed

sized_printable :
    (lang : LanguageView) (inst : InstanceView) (given : InstanceAnswer)
    → IsFileLanguage lang
    → IsFileInstance lang inst
    → IsSizesAnswer lang inst given
    → IsPrintable (answer_item inst.name (Some Maltsev) given)
sized_printable lang inst (answer.Yes values) is fits owed = absurd owed
sized_printable lang inst (answer.NoLog log) is fits owed = absurd owed
sized_printable lang inst (answer.NoSum combination) is fits owed = absurd owed
sized_printable lang inst (answer.YesSizes values sizes) is fits owed = record {
  named = fits.name_is;
  solution = solution_values lang inst values is fits owed.0;
  sized = sizes_printable lang inst sizes is fits owed.1;
}
sized_printable lang inst (answer.NoSizes sizes) is fits owed = record {
  named = fits.name_is;
  sized = sizes_printable lang inst sizes is fits owed.1;
}
sized_printable lang inst answer.Undecided is fits owed = absurd owed

owed_printable :
    (chosen : Option ClassName) (lang : LanguageView) (inst : InstanceView) (given : InstanceAnswer)
    → IsFileLanguage lang
    → IsFileInstance lang inst
    → AnswersBy chosen lang inst given
    → IsPrintable (answer_item inst.name chosen given)
owed_printable None lang inst given is fits owed = fits.name_is
owed_printable (Some Constant) lang inst given is fits owed = answer_printable Constant 1 lang inst given (omega arith) tt tt is fits owed
owed_printable (Some Semilattice) lang inst given is fits owed = answer_printable Semilattice 1 lang inst given (omega arith) tt tt is fits owed
owed_printable (Some SetFunction) lang inst given is fits owed = answer_printable SetFunction 1 lang inst given (omega arith) tt tt is fits owed
owed_printable (Some Majority) lang inst given is fits owed = answer_printable Majority 2 lang inst given (omega arith) tt tt is fits owed
owed_printable (Some Nu4) lang inst given is fits owed = answer_printable Nu4 3 lang inst given (omega arith) tt tt is fits owed
owed_printable (Some Affine) lang inst given is fits owed = sum_printable lang inst given is fits owed
owed_printable (Some Maltsev) lang inst given is fits owed = sized_printable lang inst given is fits owed

pub instance_printable : (lang : LanguageView) (inst : InstanceView) (told : Item) → IsFileLanguage lang → IsFileInstance lang inst → IsInstanceItem lang inst told → IsPrintable told
instance_printable lang inst told is fits item =
    subst IsPrintable (sym item.item_is) (owed_printable item.chosen lang inst item.given is fits item.owed)
