-- What a reader of a report, of verdicts and of a run may rely on.
use Rattle.std.specs.Prelude.{◌≡◌, ℕ, ◌+◌, ◌<◌, ◌≤◌, ◌⊎◌}
use Rattle.std.specs.Prelude.{◌↔◌, List, [], ◌∷◌, ◌++◌, length, Option, Some}
use Rattle.std.specs.Prelude.{None, Ok, Err, ⊤, Any, IsSomeAnd, slice_get, slice_index_or}
use Rattle.pol_base.specs.declared.class_name.ClassName.{ClassName}
use Rattle.pol_base.specs.declared.class_name.ClassName.TheVariants.{Constant, Affine, Maltsev}
use Rattle.pol_text.specs.declared.refusal.Refusal.{Refusal}
use Rattle.pol_text.specs.Refusals.{refusal_line}
use Rattle.pol_text.specs.Texts.{joined}
use Rattle.pol_relation.specs.Relations.{LanguageView}
use Rattle.pol_relation.specs.Instances.{InstanceView, IsSolution, HasNoSolution}
use Rattle.pol_nogood.specs.Logs.{StepView}
use Rattle.pol_nogood.specs.Answers.{IsCertificate}
use Rattle.pol_nogood.specs.Trims.{AreReferredTo}
use Rattle.pol_modp.specs.Combinations.{CombinationView}
use Rattle.pol_affine.specs.Answers.{IsSumCertificate}
use Rattle.pol_maltsev.specs.Compacts.{AreSizes}
use Rattle.pol_optable.specs.ClassLines.{Line, ClassLine, Chooses, all_classes}
use Rattle.pol_solve.specs.Answers.{most_pairs}
use Rattle.pol_report.specs.declared.item.Item.{Item}
use Rattle.pol_report.specs.declared.item.Item.TheVariants as item
use Rattle.pol_report.specs.Texts.{head_line, last_line, item_text}
use Rattle.pol_report.specs.Printable.{IsPrintable}
use Rattle.pol_report.specs.Reports.{report_text}
use Rattle.pol_lang.specs.Limits.{most_bytes}
use Rattle.pol_lang.specs.Files.{FileView, IsFile, IsFileLanguage, IsFileInstance, Parsed, instance_of}
use Rattle.pol_lang.specs.Grammar.{parse}
use Rattle.pol_cli.specs.Reports.{class_item, IsClassItem, IsInstanceItem, IsReport, IsBegunReport}
use Rattle.pol_checker.specs.declared.verdict.Cause.{Cause}
use Rattle.pol_checker.specs.declared.verdict.Verdict.{Verdict}
use Rattle.pol_checker.specs.declared.verdict.Verdict.TheVariants.{Accepted, Unchecked, Rejected}
use Rattle.pol_checker.specs.Verdicts.{IsVerdict}
use Rattle.pol_checker.specs.VerdictTexts.{verdict_line}
use Rattle.pol_cli.specs.Checks.{IsChecked}
use Rattle.pol_gen.specs.Files.{made_file}
use Rattle.pol_cli.specs.Summaries.{IsSummary}
use Rattle.pol_cli.specs.Due.{IsDue, Begin, IsAlone, AsksReport, AskInput, AsksGen, AreKnown, report_words}
use Rattle.pol_cli.specs.Due.{check_words, items_behind, usage_line}
use Rattle.pol_cli.specs.Runs.{IsAnswer, WritesDue, WritesFront, HasRead, status_of, unflushed}
use Rattle.pol_cli.specs.declared.ended.Ended.{Ended}
use Rattle.pol_cli.specs.declared.ended.Ended.TheVariants as ended

-- the item stands at the place of the list
abbrev pub StandsAt : List Item → ℕ → (Item → Type 0) → Type 0
StandsAt items place P = IsSomeAnd (slice_get items place) P

-- the class whose line stands at the place
abbrev pub class_at : ℕ → ClassName
class_at place = slice_index_or all_classes place Constant

-- a report is a head line, the line of each class, an item of each instance, each at its place, and a last line
pub record IsWhole (file : FileView) (text : List ℕ) : Type 0 where
  pub items : List Item
  pub text_is : text ≡ head_line ++ joined item_text items ++ last_line
  pub count : length items ≡ length all_classes + length file.instances
  pub classes : (k : ℕ) → k < length all_classes → StandsAt items k (IsClassItem file.language (class_at k))
  pub instances : (i : ℕ) → i < length file.instances
      → StandsAt items (length all_classes + i) (IsInstanceItem file.language (instance_of file i))

-- each report
abbrev pub ReportsAreWhole : Type 0
ReportsAreWhole = (file : FileView) (text : List ℕ) → IsReport file text → IsWhole file text

-- the item of a class tells its line
abbrev pub ClassLinesAreTold : Type 0
ClassLinesAreTold =
    (lang : LanguageView) (class : ClassName) (line : Line) (told : Item)
    → ClassLine class lang line
    → IsClassItem lang class told
    → told ≡ class_item class line

-- what the item says is true: its values are a solution, or there is none, and its sizes are exact
abbrev pub IsTrueOf : LanguageView → InstanceView → Item → Type 0
IsTrueOf lang inst (item.Yes name class values) = IsSolution lang inst values
IsTrueOf lang inst (item.YesSizes name values sizes) = IsSolution lang inst values × AreSizes lang inst sizes
IsTrueOf lang inst (item.NoLog name class log) = HasNoSolution lang inst
IsTrueOf lang inst (item.NoSum name combination) = HasNoSolution lang inst
IsTrueOf lang inst (item.NoSizes name sizes) = HasNoSolution lang inst × AreSizes lang inst sizes
IsTrueOf lang inst told = ⊤

-- the item of an instance says what is true
abbrev pub ItemsAreTrue : Type 0
ItemsAreTrue =
    (lang : LanguageView) (inst : InstanceView) (told : Item)
    → IsInstanceItem lang inst told
    → IsTrueOf lang inst told

-- the item is a Yes of the class with the values, of the class `maltsev` with the sizes of the run as well
abbrev pub IsYes : LanguageView → InstanceView → ClassName → List ℕ → Item → Type 0
IsYes lang inst Maltsev values told =
    (sizes : List ℕ) × AreSizes lang inst sizes × (told ≡ item.YesSizes inst.name values sizes)
IsYes lang inst class values told = told ≡ item.Yes inst.name class values

-- an instance that has a solution gets one, by whichever class is chosen
abbrev pub SolvableAreSolved : Type 0
SolvableAreSolved =
    (lang : LanguageView) (inst : InstanceView) (class : ClassName) (told : Item) (some : List ℕ)
    → Chooses lang (Some class)
    → IsSolution lang inst some
    → IsInstanceItem lang inst told
    → (values : List ℕ) × IsSolution lang inst values × IsYes lang inst class values told

-- an instance that has none gets, where the chosen class has logs, a No with one, of which each step but the last is
-- referred to
abbrev pub LogsRefute : Type 0
LogsRefute =
    (lang : LanguageView) (inst : InstanceView) (class : ClassName) (most : ℕ) (told : Item)
    → Chooses lang (Some class)
    → most_pairs class ≡ Some most
    → HasNoSolution lang inst
    → IsInstanceItem lang inst told
    → (log : List StepView) × IsCertificate most lang inst log × AreReferredTo log
    × (told ≡ item.NoLog inst.name class log)

-- and of the class `affine` a No with a combination
abbrev pub CombinationsRefute : Type 0
CombinationsRefute =
    (lang : LanguageView) (inst : InstanceView) (told : Item)
    → Chooses lang (Some Affine)
    → HasNoSolution lang inst
    → IsInstanceItem lang inst told
    → (combination : CombinationView) × IsSumCertificate lang inst combination
    × (told ≡ item.NoSum inst.name combination)

-- and of the class `maltsev` a No with the sizes of the run
abbrev pub SizesAreTold : Type 0
SizesAreTold =
    (lang : LanguageView) (inst : InstanceView) (told : Item)
    → Chooses lang (Some Maltsev)
    → HasNoSolution lang inst
    → IsInstanceItem lang inst told
    → (sizes : List ℕ) × AreSizes lang inst sizes × (told ≡ item.NoSizes inst.name sizes)

-- an instance is undecided exactly where no line of a class holds a table
abbrev pub UndecidedIsUnchosen : Type 0
UndecidedIsUnchosen =
    (lang : LanguageView) (inst : InstanceView) (told : Item)
    → IsInstanceItem lang inst told
    → (told ≡ item.Undecided inst.name) ↔ Chooses lang None

-- each item of a class of a file's language can be printed
abbrev pub ClassItemsArePrintable : Type 0
ClassItemsArePrintable =
    (lang : LanguageView) (class : ClassName) (told : Item)
    → IsFileLanguage lang
    → IsClassItem lang class told
    → IsPrintable told

-- and so can each item of one of its instances
abbrev pub InstanceItemsArePrintable : Type 0
InstanceItemsArePrintable =
    (lang : LanguageView) (inst : InstanceView) (told : Item)
    → IsFileLanguage lang
    → IsFileInstance lang inst
    → IsInstanceItem lang inst told
    → IsPrintable told

-- a begun report is a head line and some first items, each right at its place
pub record IsBegunWhole (file : FileView) (text : List ℕ) : Type 0 where
  pub items : List Item
  pub text_is : text ≡ head_line ++ joined item_text items
  pub few : length items ≤ length all_classes + length file.instances
  pub classes : (k : ℕ) → k < length all_classes → k < length items
      → StandsAt items k (IsClassItem file.language (class_at k))
  pub instances : (i : ℕ) → length all_classes + i < length items
      → StandsAt items (length all_classes + i) (IsInstanceItem file.language (instance_of file i))

-- each begun report
abbrev pub BegunReportsAreWhole : Type 0
BegunReportsAreWhole = (file : FileView) (text : List ℕ) → IsBegunReport file text → IsBegunWhole file text

-- the words and the bytes decide how a run ends, and what it writes unless that is a report
abbrev pub DueIsDecided : Type 0
DueIsDecided =
    (words : List (List ℕ)) (bytes one other : List ℕ) (ending last : Ended)
    → IsDue words bytes one ending
    → IsDue words bytes other last
    → (ending ≡ last) × ((AsksReport words → ¬ (ending ≡ ended.Done)) → one ≡ other)

-- a report of the file was appended, and nothing else
pub record Reports (file : FileView) (old new : List ℕ) (ending : Ended) : Type 0 where
  pub text : List ℕ
  pub report : IsReport file text
  pub appended : new ≡ old ++ text
  pub done : ending ≡ ended.Done

-- where source and sink tell what they hold, a file alone is answered by a report of it
abbrev pub FilesAreReported : Type 0
FilesAreReported =
    (bytes old new : List ℕ) (ending : Ended) (found : Parsed)
    → WritesDue report_words (Some bytes) (Some old) (Some new) ending
    → IsAlone bytes found
    → Reports found.file old new ending

-- and a text that is no file by its refusal's line alone
abbrev pub OthersAreRefused : Type 0
OthersAreRefused =
    (words : List (List ℕ)) (bytes old new : List ℕ) (ending : Ended) (refusal : Refusal)
    → AskInput words
    → WritesDue words (Some bytes) (Some old) (Some new) ending
    → length bytes ≤ most_bytes
    → parse bytes ≡ Err refusal
    → (new ≡ old ++ refusal_line refusal) × (ending ≡ ended.Refused refusal)

-- a summary of the file that the number makes was appended, and nothing else
pub record Summarizes (number : ℕ) (old new : List ℕ) (ending : Ended) : Type 0 where
  pub text : List ℕ
  pub summary : IsSummary number text
  pub appended : new ≡ old ++ text
  pub done : ending ≡ ended.Done

-- where the sink tells what it holds, a number is answered by the summary of the file that it makes
abbrev pub FilesAreSummarized : Type 0
FilesAreSummarized =
    (words : List (List ℕ)) (left : Option (List ℕ)) (old new : List ℕ) (ending : Ended) (number : ℕ)
    → AsksGen words number
    → WritesDue words left (Some old) (Some new) ending
    → Summarizes number old new ending

-- which is one text
abbrev pub SummaryIsOne : Type 0
SummaryIsOne = (number : ℕ) (one other : List ℕ) → IsSummary number one → IsSummary number other
    → one ≡ other

-- and counts each instance once
abbrev pub SummariesAddUp : Type 0
SummariesAddUp =
    (number : ℕ) (text : List ℕ)
    → (summary : IsSummary number text)
    → summary.tally.yes + summary.tally.no + summary.tally.undecided ≡ length (made_file number).instances

-- the verdicts on the items were appended, and nothing else
pub record Checks (file : FileView) (items : List Item) (old new : List ℕ) (ending : Ended) : Type 0 where
  pub text : List ℕ
  pub verdicts : IsChecked file items text ending
  pub appended : new ≡ old ++ text

-- where `check` reads a file and a report behind it, the report's items are answered by their verdicts
abbrev pub ReportsAreChecked : Type 0
ReportsAreChecked =
    (bytes old new : List ℕ) (ending : Ended) (found : Parsed) (items : List Item)
    → WritesDue check_words (Some bytes) (Some old) (Some new) ending
    → Begin bytes found
    → items_behind bytes found ≡ Ok items
    → Checks found.file items old new ending

-- and what stands behind the file and is no report by its refusal's line alone
abbrev pub OtherReportsAreRefused : Type 0
OtherReportsAreRefused =
    (bytes old new : List ℕ) (ending : Ended) (found : Parsed) (refusal : Refusal)
    → WritesDue check_words (Some bytes) (Some old) (Some new) ending
    → Begin bytes found
    → items_behind bytes found ≡ Err refusal
    → (new ≡ old ++ refusal_line refusal) × (ending ≡ ended.Refused refusal)

-- the run ends as rejected exactly where an item of the file's report is rejected
abbrev pub RejectedIsTold : Type 0
RejectedIsTold =
    (file : FileView) (items : List Item) (text : List ℕ) (ending : Ended)
    → IsFile file
    → IsChecked file items text ending
    → (ending ≡ ended.Rejected) ↔ Any (λ told. (cause : Cause) × IsVerdict file told (Rejected cause)) items

-- the text is the beginning of the other
abbrev pub Begins : List ℕ → List ℕ → Type 0
Begins front text = (rest : List ℕ) × (text ≡ front ++ rest)

-- what was appended where the words ask for nothing is the beginning of the usage line
abbrev pub FrontsOfUsage : Type 0
FrontsOfUsage =
    (words : List (List ℕ)) (left : Option (List ℕ)) (old new : List ℕ)
    → ¬ AreKnown words
    → WritesFront words left (Some old) (Some new)
    → (front : List ℕ) × (new ≡ old ++ front) × Begins front usage_line

-- a text of which a run that was cut off while it reported the file may have written the beginning
pub data CanBegin (file : FileView) (text : List ℕ) : Type 0 where
  whole : IsReport file text → CanBegin file text
  begun : IsBegunReport file text → CanBegin file text

-- what was appended where a file was to be reported is nothing, or the beginning of a report or of a begun one
abbrev pub FrontsOfReports : Type 0
FrontsOfReports =
    (bytes old new : List ℕ) (found : Parsed)
    → IsAlone bytes found
    → WritesFront report_words (Some bytes) (Some old) (Some new)
    → (new ≡ old) ⊎
    ((front text : List ℕ) × (new ≡ old ++ front) × CanBegin found.file text × Begins front text)

-- what was appended where a file was to be generated is nothing, or the beginning of its summary
abbrev pub FrontsOfSummaries : Type 0
FrontsOfSummaries =
    (words : List (List ℕ)) (left : Option (List ℕ)) (old new : List ℕ) (number : ℕ)
    → AsksGen words number
    → WritesFront words left (Some old) (Some new)
    → (new ≡ old) ⊎
    ((front text : List ℕ) × (new ≡ old ++ front) × IsSummary number text × Begins front text)

-- what was appended where the items of a report were to be judged is nothing, or the beginning of their verdicts
abbrev pub FrontsOfChecks : Type 0
FrontsOfChecks =
    (bytes old new : List ℕ) (found : Parsed) (items : List Item)
    → Begin bytes found
    → items_behind bytes found ≡ Ok items
    → WritesFront check_words (Some bytes) (Some old) (Some new)
    → (new ≡ old) ⊎ ((front text : List ℕ) × (ending : Ended) × (new ≡ old ++ front)
    × IsChecked found.file items text ending × Begins front text)

-- an input that is not too long was read to its end, and of a longer one a byte more than is accepted
pub record IsReadAsFar (bytes left : List ℕ) : Type 0 where
  pub whole : length bytes ≤ most_bytes → left ≡ []
  pub beyond : most_bytes < length bytes → length bytes ≡ length left + (most_bytes + 1)

-- so at each answer where a report or its verdicts are asked for
abbrev pub InputsAreRead : Type 0
InputsAreRead =
    (words : List (List ℕ)) (bytes left old new : List ℕ) (ending : Ended)
    → AskInput words
    → WritesDue words (Some bytes) (Some old) (Some new) ending
    → HasRead ending (Some bytes) (Some left)
    → IsReadAsFar bytes left

-- a run that was cut off has read all, or at most a byte more than is accepted
abbrev pub FaultsReadFew : Type 0
FaultsReadFew =
    (bytes left : List ℕ) (ending : Ended)
    → ¬ IsAnswer ending
    → HasRead ending (Some bytes) (Some left)
    → (left ≡ []) ⊎ (length bytes ≤ length left + (most_bytes + 1))

-- and a run whose reading failed has read no byte more than is accepted
abbrev pub ReadFaultsReadFewer : Type 0
ReadFaultsReadFewer =
    (bytes left : List ℕ)
    → HasRead ended.ReadFault (Some bytes) (Some left)
    → length bytes ≤ length left + most_bytes

-- a run was not cut off exactly where its status is at most 3
abbrev pub StatusTells : Type 0
StatusTells = (ending : Ended) → IsAnswer ending ↔ (status_of ending ≤ 3)

-- the status 0 is that of a report, of verdicts of which none is rejected, or of a summary
abbrev pub ZeroIsDone : Type 0
ZeroIsDone = (ending : Ended) → status_of ending ≡ 0 → ending ≡ ended.Done

-- where the output was not flushed the status says that the run was cut off
abbrev pub UnflushedIsCutOff : Type 0
UnflushedIsCutOff = (ending : Ended) → ¬ IsAnswer (unflushed ending)

-- ---- a file with its own report behind it

-- the text ends with an LF
abbrev pub EndsWithLF : List ℕ → Type 0
EndsWithLF bytes = (front : List ℕ) × (bytes ≡ front ++ 10 ∷ [])

-- the verdict on an item of the file's own report: what has something to check is accepted
abbrev pub own_verdict : Item → Verdict
own_verdict (item.ClassTable class cells) = Accepted
own_verdict (item.Yes name class values) = Accepted
own_verdict (item.YesSizes name values sizes) = Accepted
own_verdict (item.NoLog name class log) = Accepted
own_verdict (item.NoSum name combination) = Accepted
own_verdict told = Unchecked

-- the report is that of items of which none is rejected, and those that have something to check are accepted
pub record Passes (report text : List ℕ) (ending : Ended) : Type 0 where
  pub items : List Item
  pub report_is : report ≡ report_text items
  pub text_is : text ≡ joined (λ told. verdict_line told (own_verdict told)) items ++ last_line
  pub done : ending ≡ ended.Done

-- what `check` writes for a file that ends with an LF, and its own report behind it
abbrev pub OwnReportsPass : Type 0
OwnReportsPass =
    (bytes report text : List ℕ) (ending : Ended) (found : Parsed)
    → IsAlone bytes found
    → EndsWithLF bytes
    → IsReport found.file report
    → length (bytes ++ report) ≤ most_bytes
    → IsDue check_words (bytes ++ report) text ending
    → Passes report text ending
