-- What a run has to write and how it ends, for the words of the command line and the bytes of the input.
use Rattle.std.specs.Prelude.{◌≡◌, ℕ, ◌<◌, ◌≤◌, ◌⊎◌, List, [], ◌∷◌}
use Rattle.std.specs.Prelude.{◌++◌, length, drop, Some, None, Result, Ok, Err, codes}
use Rattle.pol_text.specs.Lines.{number_of}
use Rattle.pol_text.specs.declared.refusal.Refusal.{Refusal}
use Rattle.pol_text.specs.declared.word.Word.TheVariants.{AfterEnd, TooLong}
use Rattle.pol_text.specs.Refusals.{refusal_line}
use Rattle.pol_lang.specs.Limits.{most_bytes}
use Rattle.pol_lang.specs.Files.{Parsed}
use Rattle.pol_lang.specs.Grammar.{parse, extra}
use Rattle.pol_report.specs.declared.item.Item.{Item}
use Rattle.pol_report.specs.Grammar.{items_of}
use Rattle.pol_cli.specs.Reports.{IsReport, IsBegunReport}
use Rattle.pol_cli.specs.Checks.{IsChecked}
use Rattle.pol_cli.specs.Summaries.{IsSummary}
use Rattle.pol_cli.specs.declared.words.InputTask.{InputTask}
use Rattle.pol_cli.specs.declared.words.InputTask.TheVariants as input
use Rattle.pol_cli.specs.declared.words.Task.{Task}
use Rattle.pol_cli.specs.declared.words.Task.TheVariants as task
use Rattle.pol_cli.specs.declared.ended.Ended.{Ended}
use Rattle.pol_cli.specs.declared.ended.Ended.TheVariants as ended

-- what is written where the words ask for nothing
abbrev pub usage_line : List ℕ
usage_line = codes "usage: polyanna report | polyanna check | polyanna gen N\n"

-- the words that ask for a report
abbrev pub report_words : List (List ℕ)
report_words = codes "report" ∷ []

-- the words that ask for the verdicts on a report
abbrev pub check_words : List (List ℕ)
check_words = codes "check" ∷ []

-- the words that ask for what is made of the input
abbrev pub input_words : InputTask → List (List ℕ)
input_words input.Report = report_words
input_words input.Check = check_words

-- the words ask for a report
abbrev pub AsksReport : List (List ℕ) → Type 0
AsksReport words = words ≡ report_words

-- the words ask for the verdicts on the report that stands behind a file
abbrev pub AsksCheck : List (List ℕ) → Type 0
AsksCheck words = words ≡ check_words

-- the words ask for something that reads the input
abbrev pub AskInput : List (List ℕ) → Type 0
AskInput words = AsksReport words ⊎ AsksCheck words

-- the words ask for the summary of the file that the number makes
abbrev pub AsksGen : List (List ℕ) → ℕ → Type 0
AsksGen words number = (token : List ℕ) × (words ≡ codes "gen" ∷ token ∷ [])
    × (number_of token ≡ Some number)

-- the words ask for the task
abbrev pub Asks : List (List ℕ) → Task → Type 0
Asks words (task.Input what) = words ≡ input_words what
Asks words (task.Gen number) = AsksGen words number

-- the words ask for something
abbrev pub AreKnown : List (List ℕ) → Type 0
AreKnown words = AskInput words ⊎ ((number : ℕ) × AsksGen words number)

-- the text and the ending are those of the refusal
pub record IsRefused (refusal : Refusal) (text : List ℕ) (ending : Ended) : Type 0 where
  pub text_is : text ≡ refusal_line refusal
  pub ending_is : ending ≡ ended.Refused refusal

-- the bytes are few enough and begin with the file
pub record Begin (bytes : List ℕ) (found : Parsed) : Type 0 where
  pub few : length bytes ≤ most_bytes
  pub file_is : parse bytes ≡ Ok found

-- the file alone, with no significant line behind it
pub record IsAlone (bytes : List ℕ) (found : Parsed) : Type 0 where
  pub begins : Begin bytes found
  pub nothing_more : extra bytes found.place found.line ≡ None

-- the items of the report behind the file, or its first refusal
abbrev pub items_behind : List ℕ → Parsed → Result (List Item) Refusal
items_behind bytes found = items_of (drop found.place bytes) found.line

-- the text has to be written, and the run ends so
pub data IsDue (words : List (List ℕ)) (bytes text : List ℕ) (ending : Ended) : Type 0 where
  usage : ¬ AreKnown words
      → text ≡ usage_line
      → ending ≡ ended.Usage
      → IsDue words bytes text ending
  generated : (number : ℕ) → AsksGen words number
      → IsSummary number text
      → ending ≡ ended.Done
      → IsDue words bytes text ending
  too_long : AskInput words → most_bytes < length bytes
      → IsRefused (record { line = 0; word = TooLong }) text ending
      → IsDue words bytes text ending
  refused : AskInput words → length bytes ≤ most_bytes → (refusal : Refusal) → parse bytes ≡ Err refusal
      → IsRefused refusal text ending
      → IsDue words bytes text ending
  more : AsksReport words → (found : Parsed) → Begin bytes found
      → (line : ℕ) → extra bytes found.place found.line ≡ Some line
      → IsRefused (record { line = line; word = AfterEnd }) text ending
      → IsDue words bytes text ending
  reported : AsksReport words → (found : Parsed) → IsAlone bytes found
      → IsReport found.file text
      → ending ≡ ended.Done
      → IsDue words bytes text ending
  unreadable : AsksCheck words → (found : Parsed) → Begin bytes found
      → (refusal : Refusal) → items_behind bytes found ≡ Err refusal
      → IsRefused refusal text ending
      → IsDue words bytes text ending
  checked : AsksCheck words → (found : Parsed) → Begin bytes found
      → (items : List Item) → items_behind bytes found ≡ Ok items
      → IsChecked found.file items text ending
      → IsDue words bytes text ending

-- what may stand written when a run is cut off: nothing, the beginning of a text that is due, or that of a begun report
pub data IsFront (words : List (List ℕ)) (bytes front : List ℕ) : Type 0 where
  nothing : front ≡ [] → IsFront words bytes front
  due : (text rest : List ℕ) (ending : Ended) → IsDue words bytes text ending
      → text ≡ front ++ rest
      → IsFront words bytes front
  begun : AsksReport words → (found : Parsed) → IsAlone bytes found
      → (text rest : List ℕ) → IsBegunReport found.file text
      → text ≡ front ++ rest
      → IsFront words bytes front
