-- The values of tokens, read behind a front.
use Rattle.std.proofs.Common.{◌≡◌, ℕ, List, ◌++◌, length, Result, Ok, Err}
use Rattle.pol_text.specs.declared.word.Word.{Word}
use Rattle.pol_base.specs.Tuples.{IsTuple}
use Rattle.pol_lang.specs.Grammar.{values_of}
use Rattle.pol_lang.proofs.AcceptedLines.{values_of-write}

abbrev pub with_front : List ℕ → Result (List ℕ) Word → Result (List ℕ) Word
with_front front (Ok values) = Ok (front ++ values)
with_front front (Err word) = Err word

-- the values that tokens write are a tuple
pub values_of-tuple : (d : ℕ) (tokens : List (List ℕ)) (values : List ℕ) → values_of d tokens ≡ Ok values → IsTuple d (length tokens) values
values_of-tuple d tokens values read =
    let written = values_of-write d tokens values read in
    record { long = written.long; below = written.below }
