-- What follows for a file that was read.
use Rattle.std.proofs.Common.{ℕ, ◌+◌, ◌≤◌, List, length, Result, Ok, Err, subst}
use Rattle.std.specs.Prelude.{IfOk}
use Rattle.pol_text.specs.declared.refusal.ReadFail.{ReadFail}
use Rattle.pol_text.specs.Lines.{significant_lines}
use Rattle.pol_lang.specs.Files.{FileView, Parsed}
use Rattle.pol_lang.specs.Grammar.{parse}
use Rattle.pol_lang.specs.Spelling.{IsSpelled}
use Rattle.pol_lang.proofs.GrammarLemmas.{parse-within}
use Rattle.pol_lang.proofs.SpellingLemmas.{parse-spelled}
use Rattle.pol_lang.proofs.SpelledTexts.{spelled-parses}
use Rattle.pol_lang.specs.declared.file.Rest.{Rest}
use Rattle.pol_lang.specs.Reading.{parsed_of}
use Rattle.pol_text.specs.Reading.{Reads}

pub read_spelled : (bytes : List ℕ) (result : Result (FileView × Rest) ReadFail) → Reads parsed_of result (parse bytes) → IfOk result (λ read. IsSpelled (significant_lines 1 bytes) (parsed_of read))
read_spelled bytes (Ok read) reads = parse-spelled bytes (parsed_of read) reads
read_spelled bytes (Err fail) reads = tt

pub read_accepted : (bytes : List ℕ) (result : Result (FileView × Rest) ReadFail) → Reads parsed_of result (parse bytes) → (found : Parsed) → IsSpelled (significant_lines 1 bytes) found → Reads parsed_of result (Ok found)
read_accepted bytes result reads found said = subst (Reads parsed_of result) (spelled-parses bytes found said) reads

pub read_place : (bytes : List ℕ) (result : Result (FileView × Rest) ReadFail) → Reads parsed_of result (parse bytes) → IfOk result (λ read. read.1.place ≤ length bytes)
read_place bytes (Ok read) reads = (parse-within bytes (parsed_of read) reads).place
read_place bytes (Err fail) reads = tt

pub read_line : (bytes : List ℕ) (result : Result (FileView × Rest) ReadFail) → Reads parsed_of result (parse bytes) → IfOk result (λ read. read.1.line ≤ length bytes + 1)
read_line bytes (Ok read) reads = (parse-within bytes (parsed_of read) reads).line
read_line bytes (Err fail) reads = tt
