-- What a reader of a report may rely on.
use Rattle.std.proofs.Common.{◌≡◌, ◌≢◌, ◌↔◌, ℕ, ◌+◌, ◌<◌, ◌≤◌, List, ◌++◌, length, map, get_or, slice_get, Option, Some, None, refl, sym, ap, ◌∙◌, subst, arith, length-append}
use Rattle.std.specs.Prelude.{IsSomeAnd, MatchOption}
use Rattle.std.specs.List.{AllZip}
use Rattle.std.proofs.lemmas.List.{length-map, get_or_append_left, get_or-append-add, get_or-map}
use Rattle.std.proofs.lemmas.Option.{slice_get-get_or}
use Rattle.std.proofs.lemmas.Slice.Zip.{AllZip-left, AllZip-long}
use Rattle.pol_base.specs.declared.class_name.ClassName.{ClassName}
use Rattle.pol_base.specs.declared.class_name.ClassName.TheVariants.{Constant, Semilattice, SetFunction, Majority, Nu4, Affine, Maltsev}
use Rattle.pol_relation.specs.Relations.{LanguageView}
use Rattle.pol_relation.specs.Instances.{InstanceView, IsSolution, HasNoSolution}
use Rattle.pol_nogood.specs.Logs.{StepView}
use Rattle.pol_nogood.specs.Answers.{IsCertificate}
use Rattle.pol_nogood.specs.Trims.{AreReferredTo}
use Rattle.pol_modp.specs.Combinations.{CombinationView}
use Rattle.pol_affine.specs.Answers.{IsSumCertificate}
use Rattle.pol_maltsev.specs.Compacts.{AreSizes}
use Rattle.pol_optable.specs.ClassLines.{Line, ClassLine, Chooses, all_classes}
use Rattle.pol_optable.proofs.LineLemmas.{one_line, one_choice}
use Rattle.pol_solve.specs.declared.answering.InstanceAnswer.{InstanceAnswer}
use Rattle.pol_solve.specs.declared.answering.InstanceAnswer.TheVariants as answer
use Rattle.pol_solve.specs.Answers.{most_pairs, IsLogAnswer, IsSumAnswer, IsSizesAnswer, AnswersByLog, AnswersOf, AnswersBy}
use Rattle.pol_report.specs.declared.item.Item.{Item}
use Rattle.pol_report.specs.declared.item.Item.TheVariants as item
use Rattle.pol_report.specs.Texts.{last_line}
use Rattle.pol_lang.specs.Files.{FileView, no_instance, instance_of}
use Rattle.pol_cli.specs.Reports.{Subject, subjects, IsItem, class_item, answer_item, IsClassItem, IsInstanceItem, IsReport, IsBegunReport}
use Rattle.pol_cli.specs.Laws.{class_at, IsWhole, IsBegunWhole, IsTrueOf, IsYes}

-- what is right of the subject at a place stands there
at_place : {A B : Type 0} (R : A → B → Type 0) (xs : List A) (ys : List B) (k : ℕ) (d : A) → AllZip R xs ys → k < length xs → IsSomeAnd (slice_get ys k) (R (get_or xs k d))
at_place R xs ys k d all inside = subst (λ found. MatchOption found (Unit {0}) (λ x. IsSomeAnd (slice_get ys k) (R x))) (slice_get-get_or xs k d inside) (AllZip-left R xs ys all k)

-- the subject of a class
subject_of_class : (file : FileView) (k : ℕ) (d : Subject) → k < length all_classes → get_or (subjects file) k d ≡ Subject.OfClass (class_at k)
subject_of_class file k d inside =
    get_or_append_left (map Subject.OfClass all_classes) (map Subject.OfInstance file.instances) d k (omega (arith, length-map all_classes Subject.OfClass)) ∙ get_or-map Subject.OfClass all_classes k Constant d inside

-- the subject of an instance
subject_of_instance : (file : FileView) (i : ℕ) (d : Subject) → i < length file.instances → get_or (subjects file) (length all_classes + i) d ≡ Subject.OfInstance (instance_of file i)
subject_of_instance file i d inside =
    get_or-append-add (map Subject.OfClass all_classes) (map Subject.OfInstance file.instances) i d ∙ get_or-map Subject.OfInstance file.instances i no_instance d inside

-- how many subjects there are
pub count_of_subjects : (file : FileView) → length (subjects file) ≡ length all_classes + length file.instances
count_of_subjects file = omega (arith, length-append (map Subject.OfClass all_classes) (map Subject.OfInstance file.instances), length-map all_classes Subject.OfClass, length-map file.instances Subject.OfInstance)

-- a report has the item of each class and of each instance at its place, and no other
pub reports_whole : (file : FileView) (text : List ℕ) → IsReport file text → IsWhole file text
reports_whole file text report =
    let has = report.has_items in
    let d = Subject.OfClass Constant in
    let count = count_of_subjects file in
    record {
      items = has.items;
      text_is = report.text_is ∙ ap (λ front. front ++ last_line) has.text_is;
      count = AllZip-long (IsItem file.language) (subjects file) has.items has.right ∙ count;
      classes = λ k inside. subst (λ subject. IsSomeAnd (slice_get has.items k) (IsItem file.language subject)) (subject_of_class file k d inside) (at_place (IsItem file.language) (subjects file) has.items k d has.right (omega (arith, count)));
      instances = λ i inside. subst (λ subject. IsSomeAnd (slice_get has.items (length all_classes + i)) (IsItem file.language subject)) (subject_of_instance file i d inside) (at_place (IsItem file.language) (subjects file) has.items (length all_classes + i) d has.right (omega (arith, count)));
    }

-- a begun report has the first of these items
pub begun_whole : (file : FileView) (text : List ℕ) → IsBegunReport file text → IsBegunWhole file text
begun_whole file text begun =
    let has = begun.has_items in
    let d = Subject.OfClass Constant in
    let long = AllZip-long (IsItem file.language) begun.first has.items has.right in
    let count = count_of_subjects file in
    let all : length begun.first ≤ length (subjects file) = omega (arith, ap length begun.split, length-append begun.first begun.later) in
    let same : (k : ℕ) → k < length begun.first → get_or begun.first k d ≡ get_or (subjects file) k d = λ k inside. sym (ap (λ some. get_or some k d) begun.split ∙ get_or_append_left begun.first begun.later d k inside) in
    record {
      items = has.items;
      text_is = has.text_is;
      few = omega (arith, long, count, all);
      classes = λ k inside there.
          let stands : k < length begun.first = omega (arith, long) in
          subst (λ subject. IsSomeAnd (slice_get has.items k) (IsItem file.language subject)) (same k stands ∙ subject_of_class file k d inside) (at_place (IsItem file.language) begun.first has.items k d has.right stands);
      instances = λ i there.
          let stands : length all_classes + i < length begun.first = omega (arith, long) in
          let inside : i < length file.instances = omega (arith, count, all) in
          subst (λ subject. IsSomeAnd (slice_get has.items (length all_classes + i)) (IsItem file.language subject)) (same (length all_classes + i) stands ∙ subject_of_instance file i d inside) (at_place (IsItem file.language) begun.first has.items (length all_classes + i) d has.right stands);
    }

pub class_lines_told : (lang : LanguageView) (class : ClassName) (line : Line) (told : Item) → ClassLine class lang line → IsClassItem lang class told → told ≡ class_item class line
class_lines_told lang class line told is item = item.item_is ∙ ap (λ some. class_item class some) (one_line class lang item.line line item.is_line is)

-- what the chosen class owes
owed_by :
    (lang : LanguageView) (inst : InstanceView) (chosen : Option ClassName) (told : Item)
    → Chooses lang chosen
    → (item : IsInstanceItem lang inst told)
    → AnswersBy chosen lang inst item.given × (told ≡ answer_item inst.name chosen item.given)
owed_by lang inst chosen told chooses item =
    let same = one_choice lang item.chosen chosen item.chooses chooses in (
      subst (λ some. AnswersBy some lang inst item.given) same item.owed,
      item.item_is ∙ ap (λ some. answer_item inst.name some item.given) same,
    )

-- ---- what is told is true

true_log :
    (most : ℕ) (class : ClassName) (lang : LanguageView) (inst : InstanceView) (given : InstanceAnswer)
    → IsLogAnswer most lang inst given
    → IsTrueOf lang inst (answer_item inst.name (Some class) given)
true_log most class lang inst (answer.Yes values) owed = owed
true_log most class lang inst (answer.NoLog log) owed = owed.0
true_log most class lang inst (answer.NoSum combination) owed = absurd owed
true_log most class lang inst (answer.YesSizes values sizes) owed = absurd owed
true_log most class lang inst (answer.NoSizes sizes) owed = absurd owed
true_log most class lang inst answer.Undecided owed = absurd owed

true_sum :
    (class : ClassName) (lang : LanguageView) (inst : InstanceView) (given : InstanceAnswer)
    → IsSumAnswer lang inst given
    → IsTrueOf lang inst (answer_item inst.name (Some class) given)
true_sum class lang inst (answer.Yes values) owed = owed
true_sum class lang inst (answer.NoLog log) owed = absurd owed
true_sum class lang inst (answer.NoSum combination) owed = owed.0
true_sum class lang inst (answer.YesSizes values sizes) owed = absurd owed
true_sum class lang inst (answer.NoSizes sizes) owed = absurd owed
true_sum class lang inst answer.Undecided owed = absurd owed

true_sizes :
    (class : ClassName) (lang : LanguageView) (inst : InstanceView) (given : InstanceAnswer)
    → IsSizesAnswer lang inst given
    → IsTrueOf lang inst (answer_item inst.name (Some class) given)
true_sizes class lang inst (answer.Yes values) owed = absurd owed
true_sizes class lang inst (answer.NoLog log) owed = absurd owed
true_sizes class lang inst (answer.NoSum combination) owed = absurd owed
true_sizes class lang inst (answer.YesSizes values sizes) owed = owed
true_sizes class lang inst (answer.NoSizes sizes) owed = owed
true_sizes class lang inst answer.Undecided owed = absurd owed

pub true_owed :
    (chosen : Option ClassName) (lang : LanguageView) (inst : InstanceView) (given : InstanceAnswer)
    → AnswersBy chosen lang inst given
    → IsTrueOf lang inst (answer_item inst.name chosen given)
true_owed None lang inst given owed = tt
true_owed (Some Constant) lang inst given owed = true_log 1 Constant lang inst given owed
true_owed (Some Semilattice) lang inst given owed = true_log 1 Semilattice lang inst given owed
true_owed (Some SetFunction) lang inst given owed = true_log 1 SetFunction lang inst given owed
true_owed (Some Majority) lang inst given owed = true_log 2 Majority lang inst given owed
true_owed (Some Nu4) lang inst given owed = true_log 3 Nu4 lang inst given owed
true_owed (Some Affine) lang inst given owed = true_sum Affine lang inst given owed
true_owed (Some Maltsev) lang inst given owed = true_sizes Maltsev lang inst given owed

pub items_true : (lang : LanguageView) (inst : InstanceView) (told : Item) → IsInstanceItem lang inst told → IsTrueOf lang inst told
items_true lang inst told is = subst (IsTrueOf lang inst) (sym is.item_is) (true_owed is.chosen lang inst is.given is.owed)

-- ---- a solution

-- an answer with a log gives an instance that has a solution one
solved_by_log :
    (most : ℕ) (lang : LanguageView) (inst : InstanceView) (class : ClassName) (told : Item) (some : List ℕ) (given : InstanceAnswer)
    → IsSolution lang inst some
    → IsLogAnswer most lang inst given
    → told ≡ answer_item inst.name (Some class) given
    → (values : List ℕ) × IsSolution lang inst values × (told ≡ item.Yes inst.name class values)
solved_by_log most lang inst class told some (answer.Yes values) solution owed same = (values, owed, same)
solved_by_log most lang inst class told some (answer.NoLog log) solution owed same = absurd (owed.0 some solution)
solved_by_log most lang inst class told some (answer.NoSum combination) solution owed same = absurd owed
solved_by_log most lang inst class told some (answer.YesSizes values sizes) solution owed same = absurd owed
solved_by_log most lang inst class told some (answer.NoSizes sizes) solution owed same = absurd owed
solved_by_log most lang inst class told some answer.Undecided solution owed same = absurd owed

-- so does one with a combination
solved_by_sum :
    (lang : LanguageView) (inst : InstanceView) (class : ClassName) (told : Item) (some : List ℕ) (given : InstanceAnswer)
    → IsSolution lang inst some
    → IsSumAnswer lang inst given
    → told ≡ answer_item inst.name (Some class) given
    → (values : List ℕ) × IsSolution lang inst values × (told ≡ item.Yes inst.name class values)
solved_by_sum lang inst class told some (answer.Yes values) solution owed same = (values, owed, same)
solved_by_sum lang inst class told some (answer.NoLog log) solution owed same = absurd owed
solved_by_sum lang inst class told some (answer.NoSum combination) solution owed same = absurd (owed.0 some solution)
solved_by_sum lang inst class told some (answer.YesSizes values sizes) solution owed same = absurd owed
solved_by_sum lang inst class told some (answer.NoSizes sizes) solution owed same = absurd owed
solved_by_sum lang inst class told some answer.Undecided solution owed same = absurd owed

-- and one with sizes
solved_with_sizes :
    (lang : LanguageView) (inst : InstanceView) (class : ClassName) (told : Item) (some : List ℕ) (given : InstanceAnswer)
    → IsSolution lang inst some
    → IsSizesAnswer lang inst given
    → told ≡ answer_item inst.name (Some class) given
    → (values : List ℕ) × IsSolution lang inst values × IsYes lang inst Maltsev values told
solved_with_sizes lang inst class told some (answer.Yes values) solution owed same = absurd owed
solved_with_sizes lang inst class told some (answer.NoLog log) solution owed same = absurd owed
solved_with_sizes lang inst class told some (answer.NoSum combination) solution owed same = absurd owed
solved_with_sizes lang inst class told some (answer.YesSizes values sizes) solution owed same = (values, owed.0, (sizes, owed.1, same))
solved_with_sizes lang inst class told some (answer.NoSizes sizes) solution owed same = absurd (owed.0 some solution)
solved_with_sizes lang inst class told some answer.Undecided solution owed same = absurd owed

solved :
    (class : ClassName) (lang : LanguageView) (inst : InstanceView) (told : Item) (some : List ℕ) (given : InstanceAnswer)
    → IsSolution lang inst some
    → AnswersOf class lang inst given
    → told ≡ answer_item inst.name (Some class) given
    → (values : List ℕ) × IsSolution lang inst values × IsYes lang inst class values told
solved Constant lang inst told some given solution owed same = solved_by_log 1 lang inst Constant told some given solution owed same
solved Semilattice lang inst told some given solution owed same = solved_by_log 1 lang inst Semilattice told some given solution owed same
solved SetFunction lang inst told some given solution owed same = solved_by_log 1 lang inst SetFunction told some given solution owed same
solved Majority lang inst told some given solution owed same = solved_by_log 2 lang inst Majority told some given solution owed same
solved Nu4 lang inst told some given solution owed same = solved_by_log 3 lang inst Nu4 told some given solution owed same
solved Affine lang inst told some given solution owed same = solved_by_sum lang inst Affine told some given solution owed same
solved Maltsev lang inst told some given solution owed same = solved_with_sizes lang inst Maltsev told some given solution owed same

pub solvable_solved :
    (lang : LanguageView) (inst : InstanceView) (class : ClassName) (told : Item) (some : List ℕ)
    → Chooses lang (Some class)
    → IsSolution lang inst some
    → IsInstanceItem lang inst told
    → (values : List ℕ) × IsSolution lang inst values × IsYes lang inst class values told
solvable_solved lang inst class told some chooses solution is =
    let owed = owed_by lang inst (Some class) told chooses is in
    solved class lang inst told some is.given solution owed.0 owed.1

-- ---- no solution

-- a class with logs owes an answer with one
owes_log :
    (class : ClassName) (most : ℕ) (lang : LanguageView) (inst : InstanceView) (given : InstanceAnswer)
    → most_pairs class ≡ Some most
    → AnswersOf class lang inst given
    → IsLogAnswer most lang inst given
owes_log Constant most lang inst given logs owed = subst (λ some. AnswersByLog some lang inst given) logs owed
owes_log Semilattice most lang inst given logs owed = subst (λ some. AnswersByLog some lang inst given) logs owed
owes_log SetFunction most lang inst given logs owed = subst (λ some. AnswersByLog some lang inst given) logs owed
owes_log Majority most lang inst given logs owed = subst (λ some. AnswersByLog some lang inst given) logs owed
owes_log Nu4 most lang inst given logs owed = subst (λ some. AnswersByLog some lang inst given) logs owed
owes_log Affine most lang inst given logs owed = absurd (cc logs)
owes_log Maltsev most lang inst given logs owed = absurd (cc logs)

refuted_by_log :
    (lang : LanguageView) (inst : InstanceView) (class : ClassName) (most : ℕ) (told : Item) (given : InstanceAnswer)
    → HasNoSolution lang inst
    → IsLogAnswer most lang inst given
    → told ≡ answer_item inst.name (Some class) given
    → (log : List StepView) × IsCertificate most lang inst log × AreReferredTo log × (told ≡ item.NoLog inst.name class log)
refuted_by_log lang inst class most told (answer.Yes values) none owed same = absurd (none values owed)
refuted_by_log lang inst class most told (answer.NoLog log) none owed same = (log, owed.1, owed.2, same)
refuted_by_log lang inst class most told (answer.NoSum combination) none owed same = absurd owed
refuted_by_log lang inst class most told (answer.YesSizes values sizes) none owed same = absurd owed
refuted_by_log lang inst class most told (answer.NoSizes sizes) none owed same = absurd owed
refuted_by_log lang inst class most told answer.Undecided none owed same = absurd owed

pub logs_refute :
    (lang : LanguageView) (inst : InstanceView) (class : ClassName) (most : ℕ) (told : Item)
    → Chooses lang (Some class)
    → most_pairs class ≡ Some most
    → HasNoSolution lang inst
    → IsInstanceItem lang inst told
    → (log : List StepView) × IsCertificate most lang inst log × AreReferredTo log × (told ≡ item.NoLog inst.name class log)
logs_refute lang inst class most told chooses logs none is =
    let owed = owed_by lang inst (Some class) told chooses is in
    refuted_by_log lang inst class most told is.given none (owes_log class most lang inst is.given logs owed.0) owed.1

refuted_by_sum :
    (lang : LanguageView) (inst : InstanceView) (told : Item) (given : InstanceAnswer)
    → HasNoSolution lang inst
    → IsSumAnswer lang inst given
    → told ≡ answer_item inst.name (Some Affine) given
    → (combination : CombinationView) × IsSumCertificate lang inst combination × (told ≡ item.NoSum inst.name combination)
refuted_by_sum lang inst told (answer.Yes values) none owed same = absurd (none values owed)
refuted_by_sum lang inst told (answer.NoLog log) none owed same = absurd owed
refuted_by_sum lang inst told (answer.NoSum combination) none owed same = (combination, owed.1, same)
refuted_by_sum lang inst told (answer.YesSizes values sizes) none owed same = absurd owed
refuted_by_sum lang inst told (answer.NoSizes sizes) none owed same = absurd owed
refuted_by_sum lang inst told answer.Undecided none owed same = absurd owed

pub combinations_refute :
    (lang : LanguageView) (inst : InstanceView) (told : Item)
    → Chooses lang (Some Affine)
    → HasNoSolution lang inst
    → IsInstanceItem lang inst told
    → (combination : CombinationView) × IsSumCertificate lang inst combination × (told ≡ item.NoSum inst.name combination)
combinations_refute lang inst told chooses none is =
    let owed = owed_by lang inst (Some Affine) told chooses is in
    refuted_by_sum lang inst told is.given none owed.0 owed.1

refuted_with_sizes :
    (lang : LanguageView) (inst : InstanceView) (told : Item) (given : InstanceAnswer)
    → HasNoSolution lang inst
    → IsSizesAnswer lang inst given
    → told ≡ answer_item inst.name (Some Maltsev) given
    → (sizes : List ℕ) × AreSizes lang inst sizes × (told ≡ item.NoSizes inst.name sizes)
refuted_with_sizes lang inst told (answer.Yes values) none owed same = absurd owed
refuted_with_sizes lang inst told (answer.NoLog log) none owed same = absurd owed
refuted_with_sizes lang inst told (answer.NoSum combination) none owed same = absurd owed
refuted_with_sizes lang inst told (answer.YesSizes values sizes) none owed same = absurd (none values owed.0)
refuted_with_sizes lang inst told (answer.NoSizes sizes) none owed same = (sizes, owed.1, same)
refuted_with_sizes lang inst told answer.Undecided none owed same = absurd owed

pub sizes_told :
    (lang : LanguageView) (inst : InstanceView) (told : Item)
    → Chooses lang (Some Maltsev)
    → HasNoSolution lang inst
    → IsInstanceItem lang inst told
    → (sizes : List ℕ) × AreSizes lang inst sizes × (told ≡ item.NoSizes inst.name sizes)
sizes_told lang inst told chooses none is =
    let owed = owed_by lang inst (Some Maltsev) told chooses is in
    refuted_with_sizes lang inst told is.given none owed.0 owed.1

-- ---- undecided

-- the item is not undecided where the answer is of a class
decided_by_log : (most : ℕ) (class : ClassName) (lang : LanguageView) (inst : InstanceView) (given : InstanceAnswer) → IsLogAnswer most lang inst given → answer_item inst.name (Some class) given ≢ item.Undecided inst.name
decided_by_log most class lang inst (answer.Yes values) owed same = cc same
decided_by_log most class lang inst (answer.NoLog log) owed same = cc same
decided_by_log most class lang inst (answer.NoSum combination) owed same = owed
decided_by_log most class lang inst (answer.YesSizes values sizes) owed same = owed
decided_by_log most class lang inst (answer.NoSizes sizes) owed same = owed
decided_by_log most class lang inst answer.Undecided owed same = owed

decided_by_sum : (class : ClassName) (lang : LanguageView) (inst : InstanceView) (given : InstanceAnswer) → IsSumAnswer lang inst given → answer_item inst.name (Some class) given ≢ item.Undecided inst.name
decided_by_sum class lang inst (answer.Yes values) owed same = cc same
decided_by_sum class lang inst (answer.NoLog log) owed same = owed
decided_by_sum class lang inst (answer.NoSum combination) owed same = cc same
decided_by_sum class lang inst (answer.YesSizes values sizes) owed same = owed
decided_by_sum class lang inst (answer.NoSizes sizes) owed same = owed
decided_by_sum class lang inst answer.Undecided owed same = owed

decided_with_sizes : (class : ClassName) (lang : LanguageView) (inst : InstanceView) (given : InstanceAnswer) → IsSizesAnswer lang inst given → answer_item inst.name (Some class) given ≢ item.Undecided inst.name
decided_with_sizes class lang inst (answer.Yes values) owed same = owed
decided_with_sizes class lang inst (answer.NoLog log) owed same = owed
decided_with_sizes class lang inst (answer.NoSum combination) owed same = owed
decided_with_sizes class lang inst (answer.YesSizes values sizes) owed same = cc same
decided_with_sizes class lang inst (answer.NoSizes sizes) owed same = cc same
decided_with_sizes class lang inst answer.Undecided owed same = owed

unchosen :
    (chosen : Option ClassName) (lang : LanguageView) (inst : InstanceView) (given : InstanceAnswer)
    → AnswersBy chosen lang inst given
    → answer_item inst.name chosen given ≡ item.Undecided inst.name
    → chosen ≡ None
unchosen None lang inst given owed same = refl
unchosen (Some Constant) lang inst given owed same = absurd (decided_by_log 1 Constant lang inst given owed same)
unchosen (Some Semilattice) lang inst given owed same = absurd (decided_by_log 1 Semilattice lang inst given owed same)
unchosen (Some SetFunction) lang inst given owed same = absurd (decided_by_log 1 SetFunction lang inst given owed same)
unchosen (Some Majority) lang inst given owed same = absurd (decided_by_log 2 Majority lang inst given owed same)
unchosen (Some Nu4) lang inst given owed same = absurd (decided_by_log 3 Nu4 lang inst given owed same)
unchosen (Some Affine) lang inst given owed same = absurd (decided_by_sum Affine lang inst given owed same)
unchosen (Some Maltsev) lang inst given owed same = absurd (decided_with_sizes Maltsev lang inst given owed same)

pub undecided_unchosen : (lang : LanguageView) (inst : InstanceView) (told : Item) → IsInstanceItem lang inst told → (told ≡ item.Undecided inst.name) ↔ Chooses lang None
undecided_unchosen lang inst told is = (
  λ same. subst (Chooses lang) (unchosen is.chosen lang inst is.given is.owed (sym is.item_is ∙ same)) is.chooses,
  λ none. (owed_by lang inst None told none is).1,
)
