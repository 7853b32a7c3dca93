-- The words in which a reader of lines speaks.
use Rattle.std.specs.Prelude.{◌≡◌, ◌==◌, Bool, Result, Err, if◌then◌else◌}
use Rattle.std.specs.Prelude.{ℕ, Option, Some, None, List, length, Ok, ⊤}
use Rattle.pol_base.specs.Lists.{is_same}
use Rattle.pol_text.specs.Lines.{LineView, token_at}
use Rattle.pol_text.specs.declared.word.Word.{Word}
use Rattle.pol_text.specs.declared.word.Word.TheVariants.{BadLine}
use Rattle.pol_text.specs.declared.refusal.Refusal.{Refusal}
use Rattle.pol_text.specs.declared.refusal.LineFail.{LineFail}
use Rattle.pol_text.specs.declared.refusal.LineFail.TheVariants as line_fail
use Rattle.pol_text.specs.declared.refusal.ReadFail.{ReadFail}
use Rattle.pol_text.specs.declared.refusal.ReadFail.TheVariants as read_fail

-- what comes next where the test passes, and else the word
abbrev pub unless : {A : Type 0} → Bool → Word → Result A Word → Result A Word
unless passes word next = if passes then next else Err word

-- the number, and where there is none the word
abbrev pub after_number : {A : Type 0} → Option ℕ → Word → (ℕ → Result A Word) → Result A Word
after_number None word next = Err word
after_number (Some n) word next = next n

-- what comes next with the values, and else the word
abbrev pub after_values : {A : Type 0} → Result (List ℕ) Word → (List ℕ → Result A Word) → Result A Word
after_values (Err word) next = Err word
after_values (Ok values) next = next values

-- what comes next where the line is accepted, and else the refusal of the line
abbrev pub after_line : {A B : Type 0} → LineView → Result A Word → (A → Result B Refusal) → Result B Refusal
after_line line (Err word) next = Err (record { line = line.number; word = word })
after_line line (Ok read) next = next read

-- the line begins with the keyword
abbrev pub begins_with : List ℕ → List (List ℕ) → Bool
begins_with keyword tokens = is_same (token_at tokens 0) keyword

-- `end` alone
abbrev pub end_line : List (List ℕ) → Result ℕ Word
end_line tokens = unless (length tokens == 1) BadLine (Ok 1)

-- ---- calls that read

-- the call answers what the text is read as, unless memory ran out
abbrev pub Reads : {X Y : Type 0} → (X → Y) → Result X ReadFail → Result Y Refusal → Type 0
Reads view (Ok x) read = read ≡ Ok (view x)
Reads view (Err (read_fail.Refused refusal)) read = read ≡ Err refusal
Reads view (Err read_fail.NoMemory) read = ⊤

-- the call gives what the tokens are read as, unless memory ran out
abbrev pub Gives : {X : Type 0} → Result X LineFail → Result X Word → Type 0
Gives (Ok x) read = read ≡ Ok x
Gives (Err (line_fail.Refused word)) read = read ≡ Err word
Gives (Err line_fail.NoMemory) read = ⊤

-- the call answers what the line is read as
abbrev pub Judges : {X : Type 0} → Result X Word → Result X Word → Type 0
Judges (Ok x) read = read ≡ Ok x
Judges (Err word) read = read ≡ Err word
