-- What a run takes of its input and writes to its output. Contents that are not told are any bytes.
use Rattle.std.specs.Prelude.{◌≡◌, ◌≢◌, ℕ, ◌+◌, ◌⊎◌, List, map}
use Rattle.std.specs.Prelude.{Option, Some, None, String, string_bytes, Result, Ok, Err, ⊤}
use Rattle.std.specs.Io.KnownBytes.{Appends, IsAtEnd}
use Rattle.std.specs.declared.io.ErrorKind.{ErrorKind}
use Rattle.std.specs.declared.io.ErrorKind.TheVariants as kind
use Rattle.pol_outside.specs.Contents.{Takes, TakesAtMost, AppendsFront}
use Rattle.pol_outside.specs.Faults.{Rose}
use Rattle.pol_text.specs.declared.refusal.Refusal.{Refusal}
use Rattle.pol_text.specs.declared.word.Word.TheVariants.{TooLong}
use Rattle.pol_lang.specs.Limits.{most_bytes}
use Rattle.pol_lang.specs.Files.{FileView}
use Rattle.pol_cli.specs.declared.ended.Ended.{Ended}
use Rattle.pol_cli.specs.declared.ended.Ended.TheVariants as ended
use Rattle.pol_cli.specs.Reports.{AppendsReport, AppendsReportFront}
use Rattle.pol_cli.specs.Due.{IsDue, IsFront}

-- the bytes of each word
abbrev pub texts_of : {A : Type 0} → List (String A) → List (List ℕ)
texts_of words = map (λ word. string_bytes word) words

-- the bytes are those that are told
abbrev pub Told : Option (List ℕ) → List ℕ → Type 0
Told None bytes = ⊤
Told (Some left) bytes = bytes ≡ left

-- the run was not cut off
abbrev pub IsAnswer : Ended → Type 0
IsAnswer ended.Done = ⊤
IsAnswer ended.Rejected = ⊤
IsAnswer ended.Usage = ⊤
IsAnswer (ended.Refused refusal) = ⊤
IsAnswer ended.ReadFault = ⊥
IsAnswer ended.WriteFault = ⊥
IsAnswer ended.NoMemory = ⊥

-- the text is due with the ending, for what was left of the input
pub record IsDueFor (words : List (List ℕ)) (left : Option (List ℕ)) (text : List ℕ)
    (ending : Ended) : Type 0 where
  pub bytes : List ℕ
  pub told : Told left bytes
  pub due : IsDue words bytes text ending

-- a text was appended that is due with the ending, for what was left of the input
pub record WritesDue (words : List (List ℕ)) (left old new : Option (List ℕ)) (ending : Ended) : Type 0 where
  pub text : List ℕ
  pub is_due : IsDueFor words left text ending
  pub appended : Appends old new text

-- a front was appended, for what was left of the input
pub record WritesFront (words : List (List ℕ)) (left old new : Option (List ℕ)) : Type 0 where
  pub bytes : List ℕ
  pub front : List ℕ
  pub told : Told left bytes
  pub is_front : IsFront words bytes front
  pub appended : Appends old new front

-- how much of the input is taken where it is refused: one byte more than is accepted, or all
pub record HasReadRefused (refusal : Refusal) (old new : Option (List ℕ)) : Type 0 where
  pub beyond : refusal.word ≡ TooLong → Takes old new (most_bytes + 1)
  pub whole : refusal.word ≢ TooLong → IsAtEnd new

-- the ending is no refusal of a text that is too long
abbrev pub NotTooLong : Ended → Type 0
NotTooLong ended.Done = ⊤
NotTooLong ended.Rejected = ⊤
NotTooLong ended.Usage = ⊤
NotTooLong (ended.Refused refusal) = refusal.word ≢ TooLong
NotTooLong ended.ReadFault = ⊤
NotTooLong ended.WriteFault = ⊤
NotTooLong ended.NoMemory = ⊤

-- how much of the input was taken, at each way to end
abbrev pub HasRead : Ended → Option (List ℕ) → Option (List ℕ) → Type 0
HasRead ended.Done old new = IsAtEnd new
HasRead ended.Rejected old new = IsAtEnd new
HasRead ended.Usage old new = ⊤
HasRead (ended.Refused refusal) old new = HasReadRefused refusal old new
HasRead ended.ReadFault old new = TakesAtMost old new most_bytes
HasRead ended.WriteFault old new = IsAtEnd new ⊎ Takes old new (most_bytes + 1)
HasRead ended.NoMemory old new = TakesAtMost old new (most_bytes + 1)

-- the exit status
abbrev pub status_of : Ended → ℕ
status_of ended.Done = 0
status_of ended.Rejected = 1
status_of ended.Usage = 2
status_of (ended.Refused refusal) = 3
status_of ended.ReadFault = 4
status_of ended.WriteFault = 5
status_of ended.NoMemory = 6

-- the run ends as it should where the whole text was appended, and else with a fault behind a front
pub data Writes
    (wanted result : Ended) (text : List ℕ) (old new : Option (List ℕ)) (before after : ℕ) : Type 0 where
  whole : result ≡ wanted → Appends old new text → after ≡ before
      → Writes wanted result text old new before after
  cut_off : result ≡ ended.WriteFault → AppendsFront old new text → Rose before after
      → Writes wanted result text old new before after

-- the run ends as it should where the whole report was appended, and else with what cut it off behind a front
pub data Reports (file : FileView) (result : Ended) (old new : Option (List ℕ)) (before after : ℕ) : Type 0 where
  whole : result ≡ ended.Done → AppendsReport file old new → after ≡ before
      → Reports file result old new before after
  cut_off : result ≡ ended.WriteFault → AppendsReportFront file old new → Rose before after
      → Reports file result old new before after
  out_of_memory : result ≡ ended.NoMemory → AppendsReportFront file old new → after ≡ before
      → Reports file result old new before after

-- how a run ends whose output was not flushed: a text that it wrote is not written
abbrev pub unflushed : Ended → Ended
unflushed ended.Done = ended.WriteFault
unflushed ended.Rejected = ended.WriteFault
unflushed ended.Usage = ended.WriteFault
unflushed (ended.Refused refusal) = ended.WriteFault
unflushed ended.ReadFault = ended.ReadFault
unflushed ended.WriteFault = ended.WriteFault
unflushed ended.NoMemory = ended.NoMemory

-- the exit status behind the flush
abbrev pub status_after : {A E : Type 0} → Ended → Result A E → ℕ
status_after ending (Ok _) = status_of ending
status_after ending (Err _) = status_of (unflushed ending)

-- the ending for want of memory for the words, and none for words that are no text
abbrev pub ending_without_words : ErrorKind → Option Ended
ending_without_words kind.OutOfMemory = Some ended.NoMemory
ending_without_words _ = None
