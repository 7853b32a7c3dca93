-- What canonical texts have to do with the files that they say.
use Rattle.std.specs.Prelude.{◌≡◌, ◌+◌, ◌<◌, ◌^◌, length, Ok}
use Rattle.pol_text.specs.Lines.{lines_of}
use Rattle.pol_lang.specs.Files.{FileView, IsFile}
use Rattle.pol_lang.specs.Grammar.{parse}
use Rattle.pol_lang.specs.Texts.{file_text}

-- the canonical text of a file is read again as the file, which ends where the text does
abbrev pub CanonicalIsReadAgain : Type 0
CanonicalIsReadAgain = (file : FileView) → IsFile file →
    parse (file_text file)
    ≡ Ok (record { file = file; place = length (file_text file); line = length (lines_of (file_text file)) + 1 })

-- the canonical text of a file is short enough to be read
abbrev pub CanonicalIsShort : Type 0
CanonicalIsShort = (file : FileView) → IsFile file → length (file_text file) < 2 ^ 28
