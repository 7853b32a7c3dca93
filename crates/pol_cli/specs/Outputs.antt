-- What a run has to write for an input: a text, or the report of a file.
use Rattle.std.specs.Prelude.{◌≡◌, ℕ, List, Option, ⊤}
use Rattle.std.specs.Io.KnownBytes.{IsAtEnd}
use Rattle.pol_lang.specs.Files.{FileView, Parsed}
use Rattle.pol_cli.specs.Due.{IsDue, IsAlone, AsksReport}
use Rattle.pol_cli.specs.Runs.{Told, IsAnswer, NotTooLong, HasRead, Writes, Reports}
use Rattle.pol_cli.specs.declared.ended.Ended.{Ended}
use Rattle.pol_cli.specs.declared.top.Output.{Output}
use Rattle.pol_cli.specs.declared.top.Output.TheVariants.{Text, Report}

-- a text is due with its ending, which is an answer
pub record IsDueText (words : List (List ℕ)) (bytes text : List ℕ) (ending : Ended) : Type 0 where
  pub due : IsDue words bytes text ending
  pub answer : IsAnswer ending

-- the words ask for the report of the file, which the bytes are
pub record IsDueReport (words : List (List ℕ)) (bytes : List ℕ) (file : FileView) : Type 0 where
  pub asks : AsksReport words
  pub found : Parsed
  pub alone : IsAlone bytes found
  pub file_is : file ≡ found.file

-- the output is due for the words and the bytes of the input
abbrev pub IsOutput : List (List ℕ) → List ℕ → Output → Type 0
IsOutput words bytes (Text text ending) = IsDueText words bytes text ending
IsOutput words bytes (Report file) = IsDueReport words bytes file

-- and for what was left of the input
pub record IsOutputFor (words : List (List ℕ)) (left : Option (List ℕ)) (output : Output) : Type 0 where
  pub bytes : List ℕ
  pub told : Told left bytes
  pub is : IsOutput words bytes output

-- the output is a text that has the property with its ending
abbrev pub IsTextOf : (List ℕ → Ended → Type 0) → Output → Type 0
IsTextOf P (Text text ending) = P text ending
IsTextOf P (Report file) = ⊥

-- the output is no refusal of a text that is too long
abbrev pub OutputNotTooLong : Output → Type 0
OutputNotTooLong (Text text ending) = NotTooLong ending
OutputNotTooLong (Report file) = ⊤

-- how much of the input was taken, at each output
abbrev pub OutputHasRead : Output → Option (List ℕ) → Option (List ℕ) → Type 0
OutputHasRead (Text text ending) old new = HasRead ending old new
OutputHasRead (Report file) old new = IsAtEnd new

-- the run that writes the output ends as it should, or is cut off behind a front
abbrev pub Delivers : Output → Ended → (old new : Option (List ℕ)) → (before after : ℕ) → Type 0
Delivers (Text text ending) result old new before after = Writes ending result text old new before after
Delivers (Report file) result old new before after = Reports file result old new before after
