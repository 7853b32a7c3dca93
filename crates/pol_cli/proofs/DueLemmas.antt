-- Which texts and endings are due for an input.
use Rattle.std.proofs.Common.{◌≡◌, ◌≢◌, ℕ, ◌+◌, ◌<◌, ◌≤◌, List, length, Bool, true, false, cond, Option, Some, None, Result, Ok, IfOk, refl, sym, ap, ◌∙◌, subst, length-append, append-nil, ◌++◌, ◌-◌, take, drop, arith}
use Rattle.std.proofs.lemmas.List.{length-drop, take_all}
use Rattle.std.proofs.lemmas.Result.{IfOk-weaker}
use Rattle.std.specs.Io.KnownBytes.{Consumes, IsAtEnd}
use Rattle.pol_outside.specs.Contents.{Takes}
use Rattle.pol_text.specs.declared.word.Word.{Word}
use Rattle.pol_text.specs.declared.refusal.Refusal.{Refusal}
use Rattle.pol_text.specs.declared.word.Word.TheVariants.{AfterEnd, TooLong}
use Rattle.pol_text.specs.Refusals.{refusal_line}
use Rattle.pol_lang.specs.Limits.{most_bytes}
use Rattle.pol_report.specs.declared.item.Item.{Item}
use Rattle.pol_lang.specs.Files.{FileView, Parsed}
use Rattle.pol_lang.specs.Grammar.{parse, extra}
use Rattle.pol_cli.specs.Checks.{has_rejected, IsChecked}
use Rattle.pol_cli.specs.Due.{IsDue, Begin, AskInput, report_words, check_words, items_behind}
use Rattle.pol_cli.specs.Due.IsDue.{too_long, more, checked}
use Rattle.pol_cli.specs.declared.ended.Ended.{Ended}
use Rattle.pol_cli.specs.declared.ended.Ended.TheVariants as ended
use Rattle.pol_cli.specs.Runs.{Told, IsAnswer, NotTooLong, HasRead, IsDueFor}

-- a significant line behind the file is refused
pub due-more : (bytes : List ℕ) (found : Parsed) (refusal : Refusal) → length bytes ≤ most_bytes → parse bytes ≡ Ok found → extra bytes found.place found.line ≡ Some refusal.line → refusal.word ≡ AfterEnd → IsDue report_words bytes (refusal_line refusal) (ended.Refused refusal)
due-more bytes found refusal few parsed behind word =
    more refl found (record { few = few; file_is = parsed }) refusal.line behind (record {
      text_is = ap (λ w. refusal_line (record { line = refusal.line; word = w })) word;
      ending_is = ap (λ w. ended.Refused (record { line = refusal.line; word = w })) word;
    })

-- all bytes that are told, of which so many were taken
record ToldAtLeast (left : Option (List ℕ)) (count : ℕ) : Type 0 where
  bytes : List ℕ
  told : Told left bytes
  enough : count ≤ length bytes

told_taken : (old new : Option (List ℕ)) (taken : List ℕ) → Consumes old new taken → ToldAtLeast old (length taken)
told_taken None new taken consumed = record { bytes = taken; told = tt; enough = omega arith }
told_taken (Some left) None taken consumed = absurd consumed
told_taken (Some left) (Some rest) taken consumed = record { bytes = left; told = refl; enough = omega (arith, ap length consumed, length-append taken rest) }

-- an input of which more bytes were taken than are accepted is too long
pub due-too_long : (words : List (List ℕ)) (old new : Option (List ℕ)) (refusal : Refusal) → AskInput words → refusal ≡ record { line = 0; word = TooLong } → Takes old new (most_bytes + 1) → IsDueFor words old (refusal_line refusal) (ended.Refused refusal)
due-too_long words old new refusal asks is (taken, consumed, long) =
    let input = told_taken old new taken consumed in
    let beyond : most_bytes < length input.bytes = omega (arith, input.enough) in
    record {
      bytes = input.bytes;
      told = input.told;
      due = too_long asks beyond (record { text_is = ap (λ r. refusal_line r) is; ending_is = ap (λ r. ended.Refused r) is });
    }

-- a call that makes a text with an ending, where those are due
pub due-made : {E : Type 0} (result : Result (List ℕ × Ended) E) (words : List (List ℕ)) (bytes text : List ℕ) (ending : Ended) → IfOk result (λ made. made ≡ (text, ending)) → IsDue words bytes text ending → IfOk result (λ made. IsDue words bytes made.0 made.1)
due-made result words bytes text ending made due =
    IfOk-weaker result (λ pair. pair ≡ (text, ending)) (λ pair. IsDue words bytes pair.0 pair.1) (λ pair same. subst (λ some. IsDue words bytes some.0 some.1) (sym same) due) made

-- and where the ending is none of an input that is too long
pub word-made : {E : Type 0} (result : Result (List ℕ × Ended) E) (text : List ℕ) (ending : Ended) → IfOk result (λ made. made ≡ (text, ending)) → NotTooLong ending → IfOk result (λ made. NotTooLong made.1)
word-made result text ending made other =
    IfOk-weaker result (λ pair. pair ≡ (text, ending)) (λ pair. NotTooLong pair.1) (λ pair same. subst (λ some. NotTooLong some.1) (sym same) other) made

-- all that was taken up to the end is what is told
pub told_all : (old new : Option (List ℕ)) (taken : List ℕ) → Consumes old new taken → IsAtEnd new → Told old taken
told_all None new taken consumed at_end = tt
told_all (Some left) None taken consumed at_end = absurd consumed
told_all (Some left) (Some rest) taken consumed at_end = sym (consumed ∙ (ap (λ behind. taken ++ behind) at_end ∙ append-nil taken))

-- an input that was read to its end, and is not too long
pub read_all : (ending : Ended) (old new : Option (List ℕ)) → IsAnswer ending → NotTooLong ending → IsAtEnd new → HasRead ending old new
read_all ended.Done old new answer other at_end = at_end
read_all ended.Rejected old new answer other at_end = at_end
read_all ended.Usage old new answer other at_end = tt
read_all (ended.Refused refusal) old new answer other at_end = record { beyond = λ same. absurd (other same); whole = λ _. at_end }
read_all ended.ReadFault old new answer other at_end = absurd answer
read_all ended.WriteFault old new answer other at_end = absurd answer
read_all ended.NoMemory old new answer other at_end = absurd answer

-- all that stands behind the place of a file is what the bytes are without what stands before
pub behind_place : (bytes : List ℕ) (place : ℕ) → take (length bytes - place) (drop place bytes) ≡ drop place bytes
behind_place bytes place = take_all (length bytes - place) (drop place bytes) (omega (arith, length-drop place bytes))

-- so is a call that makes the verdicts on the items of the report behind a file
pub due-verdicts : {E : Type 0} (result : Result (List ℕ × Ended) E) (bytes : List ℕ) (found : Parsed) (items : List Item) → Begin bytes found → items_behind bytes found ≡ Ok items → IfOk result (λ made. IsChecked found.file items made.0 made.1) → IfOk result (λ made. IsDue check_words bytes made.0 made.1)
due-verdicts result bytes found items begins read made =
    IfOk-weaker result (λ pair. IsChecked found.file items pair.0 pair.1) (λ pair. IsDue check_words bytes pair.0 pair.1) (λ pair is. checked refl found begins items read is) made

-- verdicts are an answer
verdicts_answer : (b : Bool) → IsAnswer (cond b ended.Rejected ended.Done)
verdicts_answer true = tt
verdicts_answer false = tt

verdicts_other : (b : Bool) → NotTooLong (cond b ended.Rejected ended.Done)
verdicts_other true = tt
verdicts_other false = tt

pub checked_answer : (file : FileView) (items : List Item) (text : List ℕ) (ending : Ended) → IsChecked file items text ending → IsAnswer ending
checked_answer file items text ending is = subst IsAnswer (sym is.ending_is) (verdicts_answer (has_rejected is.verdicts))

pub checked_other : (file : FileView) (items : List Item) (text : List ℕ) (ending : Ended) → IsChecked file items text ending → NotTooLong ending
checked_other file items text ending is = subst NotTooLong (sym is.ending_is) (verdicts_other (has_rejected is.verdicts))

pub other-than-too_long : (word : Word) → word ≡ AfterEnd → word ≢ TooLong
other-than-too_long word is same = cc
