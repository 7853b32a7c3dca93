-- What a call that reads a line of a file has to do with the definition of what it reads.
use Rattle.std.specs.Prelude.{◌≡◌, ⊤, Result, Ok, Err}
use Rattle.pol_text.specs.declared.refusal.LineFail.{LineFail}
use Rattle.pol_text.specs.declared.refusal.LineFail.TheVariants as line_fail
use Rattle.pol_text.specs.declared.word.Word.{Word}
use Rattle.pol_lang.specs.Files.{FileView, Parsed}
use Rattle.pol_lang.specs.declared.file.Rest.{Rest}

-- the call left what the line makes of what was there, unless memory ran out
abbrev pub Changes : {X Y : Type 0} → Result X LineFail → Y → Result Y Word → Type 0
Changes (Ok x) new read = read ≡ Ok new
Changes (Err (line_fail.Refused word)) new read = read ≡ Err word
Changes (Err line_fail.NoMemory) new read = ⊤

-- what the call that reads a file answers: the file, and where it ends
abbrev pub parsed_of : FileView × Rest → Parsed
parsed_of read = record { file = read.0; place = read.1.place; line = read.1.line }
