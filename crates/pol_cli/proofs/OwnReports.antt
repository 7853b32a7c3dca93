-- A file with its own report behind it passes.
use Rattle.std.proofs.Common.{◌≡◌, ℕ, ◌+◌, ◌*◌, ◌<◌, ◌≤◌, true, false, List, [], ◌∷◌, ◌++◌, length, map, get_or, sum_by, All, Option, Some, None, Ok, refl, sym, ap, ◌∙◌, subst, arith, append_assoc}
use Rattle.std.specs.List.{AllZip}
use Rattle.std.proofs.lemmas.List.{get_or_default}
use Rattle.std.proofs.lemmas.List.Elements.{All-nil, All-cons, All-head, All-tail, All-append, All-map}
use Rattle.std.proofs.lemmas.List.Sums.{sum_by-cons}
use Rattle.std.proofs.lemmas.Slice.Zip.{AllZip-long}
use Rattle.pol_base.specs.declared.class_name.ClassName.{ClassName}
use Rattle.pol_base.specs.declared.class_name.ClassName.TheVariants.{Constant, Semilattice, SetFunction, Majority, Nu4, Affine, Maltsev}
use Rattle.pol_text.specs.Texts.{joined}
use Rattle.pol_relation.specs.Relations.{LanguageView}
use Rattle.pol_relation.specs.Instances.{InstanceView}
use Rattle.pol_nogood.specs.Logs.{StepView, FitsMost}
use Rattle.pol_nogood.specs.Answers.{IsCertificate}
use Rattle.pol_nogood.proofs.Counting.{few_steps_of_three}
use Rattle.pol_optable.specs.ClassLines.{Line, ClassLine, all_classes}
use Rattle.pol_optable.specs.ClassLines.Line.{Beyond, Sought}
use Rattle.pol_solve.specs.declared.answering.InstanceAnswer.{InstanceAnswer}
use Rattle.pol_solve.specs.declared.answering.InstanceAnswer.TheVariants as answer
use Rattle.pol_solve.specs.Answers.{IsLogAnswer, IsSumAnswer, IsSizesAnswer, AnswersBy}
use Rattle.pol_report.specs.declared.item.Item.{Item}
use Rattle.pol_report.specs.declared.item.Item.TheVariants as item
use Rattle.pol_report.specs.Texts.{head_line, last_line, item_text}
use Rattle.pol_report.specs.Printable.{IsPrintable}
use Rattle.pol_report.specs.Reports.{steps_of, report_text, ArePrintableItems}
use Rattle.pol_lang.specs.Limits.{most_bytes}
use Rattle.pol_lang.specs.Files.{FileView, IsFile, IsFileLanguage, IsFileInstance, Parsed, no_instance, instance_of}
use Rattle.pol_lang.proofs.GrammarLemmas.{parse-within}
use Rattle.pol_lang.proofs.SpellingLemmas.{parse-spelled}
use Rattle.pol_checker.specs.declared.verdict.Verdict.{Verdict}
use Rattle.pol_checker.specs.declared.verdict.Verdict.TheVariants.{Accepted, Unchecked}
use Rattle.pol_checker.specs.Verdicts.{IsVerdict, IsAnswerVerdict}
use Rattle.pol_checker.specs.Verdicts.IsAnswerVerdict.{named}
use Rattle.pol_checker.specs.VerdictTexts.{verdict_line}
use Rattle.pol_checker.specs.Laws.{VerdictIsOne}
use Rattle.pol_cli.specs.Reports.{Subject, subjects, IsItem, IsClassItem, IsInstanceItem, IsReport, class_item, answer_item}
use Rattle.pol_cli.specs.Checks.{is_rejected, has_rejected, verdict_lines, AreVerdicts, IsChecked}
use Rattle.pol_cli.specs.Due.{IsDue, Begin, IsAlone, check_words, items_behind}
use Rattle.pol_cli.specs.Laws.{EndsWithLF, own_verdict, Passes}
use Rattle.pol_cli.specs.declared.ended.Ended.{Ended}
use Rattle.pol_cli.specs.declared.ended.Ended.TheVariants as ended
use Rattle.pol_cli.proofs.ReportLaws.{count_of_subjects}
use Rattle.pol_cli.proofs.PrintableItems.{class_printable, instance_printable}
use Rattle.pol_cli.proofs.TextsBehind.{is_whole, is_whole-ended, parse-behind, items_of-behind_file}
use Rattle.pol_cli.proofs.CheckLaws.{checked_once}
use Rattle.pol_cli.proofs.DueLaws.{due_checked}

-- ---- the verdict on each item

own_line : (file : FileView) (class : ClassName) (line : Line) → ClassLine class file.language line → IsVerdict file (class_item class line) (own_verdict (class_item class line))
own_line file class Beyond is = refl
own_line file class (Sought None) is = refl
own_line file Constant (Sought (Some cells)) is = is.1.holds
own_line file Semilattice (Sought (Some cells)) is = is.1.holds
own_line file SetFunction (Sought (Some cells)) is = is.1.holds
own_line file Majority (Sought (Some cells)) is = is.1.holds
own_line file Nu4 (Sought (Some cells)) is = is.1.holds
own_line file Affine (Sought (Some cells)) is = is.1.holds
own_line file Maltsev (Sought (Some cells)) is = is.1.holds

own_class : (file : FileView) (class : ClassName) (told : Item) → IsClassItem file.language class told → IsVerdict file told (own_verdict told)
own_class file class told is = subst (λ some. IsVerdict file some (own_verdict some)) (sym is.item_is) (own_line file class is.line is.is_line)

-- what holds of the instance with the number holds of the one with its name
at_number : (Judges : InstanceView → Verdict → Type 0) (file : FileView) (i : ℕ) (verdict : Verdict) → i < length file.instances → Judges (instance_of file i) verdict → IsAnswerVerdict Judges file (instance_of file i).name verdict
at_number Judges file i verdict inside holds = named (record { number = i; known = inside; name_is = refl; holds = holds })

own_log :
    (most : ℕ) (class : ClassName) (file : FileView) (i : ℕ) (given : InstanceAnswer)
    → i < length file.instances
    → IsLogAnswer most file.language (instance_of file i) given
    → (let told = answer_item (instance_of file i).name (Some class) given in IsVerdict file told (own_verdict told))
own_log most class file i (answer.Yes values) inside owed = at_number _ file i Accepted inside owed
own_log most class file i (answer.NoLog log) inside owed = at_number _ file i Accepted inside owed.1.valid
own_log most class file i (answer.NoSum combination) inside owed = absurd owed
own_log most class file i (answer.YesSizes values sizes) inside owed = absurd owed
own_log most class file i (answer.NoSizes sizes) inside owed = absurd owed
own_log most class file i answer.Undecided inside owed = absurd owed

own_sum :
    (file : FileView) (i : ℕ) (given : InstanceAnswer)
    → i < length file.instances
    → IsSumAnswer file.language (instance_of file i) given
    → (let told = answer_item (instance_of file i).name (Some Affine) given in IsVerdict file told (own_verdict told))
own_sum file i (answer.Yes values) inside owed = at_number _ file i Accepted inside owed
own_sum file i (answer.NoLog log) inside owed = absurd owed
own_sum file i (answer.NoSum combination) inside owed = at_number _ file i Accepted inside owed.1.valid
own_sum file i (answer.YesSizes values sizes) inside owed = absurd owed
own_sum file i (answer.NoSizes sizes) inside owed = absurd owed
own_sum file i answer.Undecided inside owed = absurd owed

own_sizes :
    (file : FileView) (i : ℕ) (given : InstanceAnswer)
    → i < length file.instances
    → IsSizesAnswer file.language (instance_of file i) given
    → (let told = answer_item (instance_of file i).name (Some Maltsev) given in IsVerdict file told (own_verdict told))
own_sizes file i (answer.Yes values) inside owed = absurd owed
own_sizes file i (answer.NoLog log) inside owed = absurd owed
own_sizes file i (answer.NoSum combination) inside owed = absurd owed
own_sizes file i (answer.YesSizes values sizes) inside owed = at_number _ file i Accepted inside owed.0
own_sizes file i (answer.NoSizes sizes) inside owed = at_number _ file i Unchecked inside refl
own_sizes file i answer.Undecided inside owed = absurd owed

own_answer :
    (chosen : Option ClassName) (file : FileView) (i : ℕ) (given : InstanceAnswer)
    → i < length file.instances
    → AnswersBy chosen file.language (instance_of file i) given
    → (let told = answer_item (instance_of file i).name chosen given in IsVerdict file told (own_verdict told))
own_answer None file i given inside owed = at_number _ file i Unchecked inside refl
own_answer (Some Constant) file i given inside owed = own_log 1 Constant file i given inside owed
own_answer (Some Semilattice) file i given inside owed = own_log 1 Semilattice file i given inside owed
own_answer (Some SetFunction) file i given inside owed = own_log 1 SetFunction file i given inside owed
own_answer (Some Majority) file i given inside owed = own_log 2 Majority file i given inside owed
own_answer (Some Nu4) file i given inside owed = own_log 3 Nu4 file i given inside owed
own_answer (Some Affine) file i given inside owed = own_sum file i given inside owed
own_answer (Some Maltsev) file i given inside owed = own_sizes file i given inside owed

own_instance : (file : FileView) (i : ℕ) (told : Item) → i < length file.instances → IsInstanceItem file.language (instance_of file i) told → IsVerdict file told (own_verdict told)
own_instance file i told inside is =
    subst (λ some. IsVerdict file some (own_verdict some)) (sym is.item_is) (own_answer is.chosen file i is.given inside is.owed)

-- ---- the steps of each item

no_steps : (lang : LanguageView) (class : ClassName) (line : Line) → steps_of (class_item class line) ≡ 0
no_steps lang class Beyond = refl
no_steps lang class (Sought None) = refl
no_steps lang class (Sought (Some cells)) = refl

few_steps_of_log : (most : ℕ) (lang : LanguageView) (inst : InstanceView) (log : List StepView) → most ≤ 3 → IsFileLanguage lang → IsFileInstance lang inst → IsCertificate most lang inst log → length log ≤ 1254701
few_steps_of_log most lang inst log three is fits certificate =
    let small : FitsMost 3 log = record {
      different = certificate.fits.different;
      small = λ i none inside. omega (arith, certificate.fits.small i none inside, three);
    } in
    few_steps_of_three lang inst log is.is_language.domain_is.few fits.few_variables certificate.valid.steps small

few_by_log : (most : ℕ) (class : ClassName) (lang : LanguageView) (inst : InstanceView) (given : InstanceAnswer) → most ≤ 3 → IsFileLanguage lang → IsFileInstance lang inst → IsLogAnswer most lang inst given → steps_of (answer_item inst.name (Some class) given) ≤ 1254701
few_by_log most class lang inst (answer.Yes values) three is fits owed = omega arith
few_by_log most class lang inst (answer.NoLog log) three is fits owed = few_steps_of_log most lang inst log three is fits owed.1
few_by_log most class lang inst (answer.NoSum combination) three is fits owed = omega arith
few_by_log most class lang inst (answer.YesSizes values sizes) three is fits owed = omega arith
few_by_log most class lang inst (answer.NoSizes sizes) three is fits owed = omega arith
few_by_log most class lang inst answer.Undecided three is fits owed = omega arith

few_by_sum : (class : ClassName) (lang : LanguageView) (inst : InstanceView) (given : InstanceAnswer) → IsSumAnswer lang inst given → steps_of (answer_item inst.name (Some class) given) ≤ 1254701
few_by_sum class lang inst (answer.Yes values) owed = omega arith
few_by_sum class lang inst (answer.NoLog log) owed = absurd owed
few_by_sum class lang inst (answer.NoSum combination) owed = omega arith
few_by_sum class lang inst (answer.YesSizes values sizes) owed = omega arith
few_by_sum class lang inst (answer.NoSizes sizes) owed = omega arith
few_by_sum class lang inst answer.Undecided owed = omega arith

few_by_sizes : (class : ClassName) (lang : LanguageView) (inst : InstanceView) (given : InstanceAnswer) → IsSizesAnswer lang inst given → steps_of (answer_item inst.name (Some class) given) ≤ 1254701
few_by_sizes class lang inst (answer.Yes values) owed = omega arith
few_by_sizes class lang inst (answer.NoLog log) owed = absurd owed
few_by_sizes class lang inst (answer.NoSum combination) owed = omega arith
few_by_sizes class lang inst (answer.YesSizes values sizes) owed = omega arith
few_by_sizes class lang inst (answer.NoSizes sizes) owed = omega arith
few_by_sizes class lang inst answer.Undecided owed = omega arith

few_by_answer : (chosen : Option ClassName) (lang : LanguageView) (inst : InstanceView) (given : InstanceAnswer) → IsFileLanguage lang → IsFileInstance lang inst → AnswersBy chosen lang inst given → steps_of (answer_item inst.name chosen given) ≤ 1254701
few_by_answer None lang inst given is fits owed = omega arith
few_by_answer (Some Constant) lang inst given is fits owed = few_by_log 1 Constant lang inst given (omega arith) is fits owed
few_by_answer (Some Semilattice) lang inst given is fits owed = few_by_log 1 Semilattice lang inst given (omega arith) is fits owed
few_by_answer (Some SetFunction) lang inst given is fits owed = few_by_log 1 SetFunction lang inst given (omega arith) is fits owed
few_by_answer (Some Majority) lang inst given is fits owed = few_by_log 2 Majority lang inst given (omega arith) is fits owed
few_by_answer (Some Nu4) lang inst given is fits owed = few_by_log 3 Nu4 lang inst given (omega arith) is fits owed
few_by_answer (Some Affine) lang inst given is fits owed = few_by_sum Affine lang inst given owed
few_by_answer (Some Maltsev) lang inst given is fits owed = few_by_sizes Maltsev lang inst given owed

few_own_steps : (lang : LanguageView) (inst : InstanceView) (told : Item) → IsFileLanguage lang → IsFileInstance lang inst → IsInstanceItem lang inst told → steps_of told ≤ 1254701
few_own_steps lang inst told is fits item =
    subst (λ some. steps_of some ≤ 1254701) (sym item.item_is) (few_by_answer item.chosen lang inst item.given is fits item.owed)

steps_of_instances : (lang : LanguageView) (instances : List InstanceView) (items : List Item) → IsFileLanguage lang → All (IsFileInstance lang) instances → AllZip (IsItem lang) (map Subject.OfInstance instances) items → sum_by steps_of items ≤ 1254701 * length instances
steps_of_instances lang [] [] is fits all = omega arith
steps_of_instances lang [] (t ∷ items) is fits all = absurd all
steps_of_instances lang (inst ∷ instances) [] is fits all = absurd all
steps_of_instances lang (inst ∷ instances) (t ∷ items) is fits all =
    let rest = steps_of_instances lang instances items is (All-tail (IsFileInstance lang) inst instances fits) all.1 in
    let here = few_own_steps lang inst t is (All-head (IsFileInstance lang) inst instances fits) all.0 in
    omega (arith, rest, here, sum_by-cons steps_of t items)

steps_behind_classes : (lang : LanguageView) (classes : List ClassName) (instances : List InstanceView) (items : List Item) → IsFileLanguage lang → All (IsFileInstance lang) instances → AllZip (IsItem lang) (map Subject.OfClass classes ++ map Subject.OfInstance instances) items → sum_by steps_of items ≤ 1254701 * length instances
steps_behind_classes lang [] instances items is fits all = steps_of_instances lang instances items is fits all
steps_behind_classes lang (class ∷ classes) instances [] is fits all = absurd all
steps_behind_classes lang (class ∷ classes) instances (t ∷ items) is fits all =
    let rest = steps_behind_classes lang classes instances items is fits all.1 in
    let here : steps_of t ≡ 0 = ap steps_of all.0.item_is ∙ no_steps lang class all.0.line in
    omega (arith, rest, here, sum_by-cons steps_of t items)

-- ---- all items

-- what holds of the item of each subject holds of all items
of_subjects : (lang : LanguageView) (P : Item → Type 0) (some : List Subject) (items : List Item) → All (λ s. (told : Item) → IsItem lang s told → P told) some → AllZip (IsItem lang) some items → All P items
of_subjects lang P [] [] each all = All-nil P
of_subjects lang P [] (t ∷ items) each all = absurd all
of_subjects lang P (s ∷ some) [] each all = absurd all
of_subjects lang P (s ∷ some) (t ∷ items) each all =
    let Q : Subject → Type 0 = λ subject. (told : Item) → IsItem lang subject told → P told in
    All-cons P t items (All-head Q s some each t all.0) (of_subjects lang P some items (All-tail Q s some each) all.1)

-- a right item of the file's own report
record IsOwn (file : FileView) (told : Item) : Type 0 where
  printable : IsPrintable told
  verdict : IsVerdict file told (own_verdict told)

own_items : (file : FileView) (items : List Item) → IsFile file → AllZip (IsItem file.language) (subjects file) items → All (IsOwn file) items
own_items file items is all =
    let lang = file.language in
    let Q : Subject → Type 0 = λ s. (told : Item) → IsItem lang s told → IsOwn file told in
    let classes : All Q (map Subject.OfClass all_classes) = All-map Q Subject.OfClass all_classes (λ k d inside told item. record {
      printable = class_printable lang (get_or all_classes k d) told is.language_is item;
      verdict = own_class file (get_or all_classes k d) told item;
    }) in
    let instances : All Q (map Subject.OfInstance file.instances) = All-map Q Subject.OfInstance file.instances (λ i d inside told item.
    let same : get_or file.instances i d ≡ instance_of file i = get_or_default file.instances i d no_instance inside in
    let right : IsInstanceItem lang (instance_of file i) told = subst (λ inst. IsInstanceItem lang inst told) same item in
    record {
      printable = instance_printable lang (instance_of file i) told is.language_is (is.instances_are i no_instance inside) right;
      verdict = own_instance file i told inside right;
    }) in
    of_subjects lang (IsOwn file) (subjects file) items (All-append Q (map Subject.OfClass all_classes) (map Subject.OfInstance file.instances) classes instances) all

own_verdicts : (file : FileView) (items : List Item) → All (IsOwn file) items → AreVerdicts file items (map own_verdict items)
own_verdicts file [] own = tt
own_verdicts file (t ∷ items) own = ((All-head (IsOwn file) t items own).verdict, own_verdicts file items (All-tail (IsOwn file) t items own))

own_lines : (items : List Item) → verdict_lines items (map own_verdict items) ≡ joined (λ told. verdict_line told (own_verdict told)) items
own_lines [] = refl
own_lines (t ∷ items) = ap (λ rest. verdict_line t (own_verdict t) ++ rest) (own_lines items)

not_rejected : (told : Item) → is_rejected (own_verdict told) ≡ false
not_rejected (item.ClassTable class cells) = refl
not_rejected (item.ClassNone class) = refl
not_rejected item.ClassBeyond = refl
not_rejected (item.Yes name class values) = refl
not_rejected (item.YesSizes name values sizes) = refl
not_rejected (item.NoLog name class log) = refl
not_rejected (item.NoSum name combination) = refl
not_rejected (item.NoSizes name sizes) = refl
not_rejected (item.Undecided name) = refl

none_rejected : (items : List Item) → has_rejected (map own_verdict items) ≡ false
none_rejected [] = refl
none_rejected (t ∷ items) = rw (not_rejected t) (none_rejected items)

-- the items of the file's own report are judged so
own_checked : (file : FileView) (items : List Item) → All (IsOwn file) items → IsChecked file items (joined (λ told. verdict_line told (own_verdict told)) items ++ last_line) ended.Done
own_checked file items own = record {
  verdicts = map own_verdict items;
  right = own_verdicts file items own;
  text_is = ap (λ lines. lines ++ last_line) (sym (own_lines items));
  ending_is = rw (none_rejected items) refl;
}

-- and can be read again
own_printable : (file : FileView) (items : List Item) → IsFile file → AllZip (IsItem file.language) (subjects file) items → ArePrintableItems items
own_printable file items is all =
    let own = own_items file items is all in
    let count = AllZip-long (IsItem file.language) (subjects file) items all in
    let subjects_are : length (subjects file) ≡ length all_classes + length file.instances = count_of_subjects file in
    let steps = steps_behind_classes file.language all_classes file.instances items is.language_is is.instances_are all in
    record {
      each = λ i d inside. (own i d inside).printable;
      few = omega (arith, count, subjects_are, is.few_instances);
      few_steps = omega (arith, steps, is.few_instances);
    }

-- the text of the report is that of its items
report_is : (file : FileView) (report : List ℕ) → (is : IsReport file report) → report ≡ report_text is.has_items.items
report_is file report is =
    is.text_is ∙ (ap (λ front. front ++ last_line) is.has_items.text_is ∙ append_assoc head_line (joined item_text is.has_items.items) last_line)

pub own_reports_pass : VerdictIsOne → (bytes report text : List ℕ) (ending : Ended) (found : Parsed) → IsAlone bytes found → EndsWithLF bytes → IsReport found.file report → length (bytes ++ report) ≤ most_bytes → IsDue check_words (bytes ++ report) text ending → Passes report text ending
own_reports_pass once bytes report text ending found alone (front, ends) is few due =
    let file_is = alone.begins.file_is in
    let file : IsFile found.file = (parse-spelled bytes found file_is).is_file in
    let items = is.has_items.items in
    let same : report ≡ report_text items = report_is found.file report is in
    let whole : is_whole bytes ≡ true = subst (λ some. is_whole some ≡ true) (sym ends) (is_whole-ended front) in
    let begins : Begin (bytes ++ report) found = record { few = few; file_is = parse-behind bytes report found whole file_is } in
    let within = (parse-within bytes found file_is).place in
    let read : items_behind (bytes ++ report) found ≡ Ok items =
    subst (λ some. items_behind (bytes ++ some) found ≡ Ok items) (sym same)
    (items_of-behind_file bytes found.place found.line items whole within alone.nothing_more (own_printable found.file items file is.has_items.right)) in
    let checked = due_checked check_words (bytes ++ report) text ending found items refl begins read due in
    let decided = checked_once once found.file file items _ _ _ _ checked (own_checked found.file items (own_items found.file items file is.has_items.right)) in
    record { items = items; report_is = same; text_is = decided.1; done = decided.0 }
