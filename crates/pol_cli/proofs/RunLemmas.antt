-- What stands written when a run ends, and what that has to do with the text that was to be written.
use Rattle.std.proofs.Common.{◌≡◌, ℕ, List, [], Option, Some, None, refl, sym, ◌∙◌, subst}
use Rattle.std.proofs.KnownBytes.{Appends-nil}
use Rattle.pol_outside.specs.Faults.{Rose}
use Rattle.pol_cli.specs.Summaries.{IsSummary}
use Rattle.pol_cli.specs.Due.{AsksGen, AreKnown, usage_line}
use Rattle.pol_cli.specs.Due.IsDue.{usage, generated}
use Rattle.pol_cli.specs.Due.IsFront.{nothing, due}
use Rattle.pol_cli.specs.declared.ended.Ended.{Ended}
use Rattle.pol_cli.specs.declared.ended.Ended.TheVariants as ended
use Rattle.pol_cli.specs.Runs.{Told, IsAnswer, IsDueFor, WritesDue, WritesFront, Writes}
use Rattle.pol_cli.specs.Runs.Writes.{whole, cut_off}

-- some bytes, which are those that are told
told_bytes : Option (List ℕ) → List ℕ
told_bytes None = []
told_bytes (Some left) = left

told_bytes-told : (left : Option (List ℕ)) → Told left (told_bytes left)
unfolding told_bytes
told_bytes-told None = tt
told_bytes-told (Some left) = refl

-- what is due for the words of a task is due at the words that ask for it
pub due-asked : (words asked : List (List ℕ)) (left : Option (List ℕ)) (made shown : List ℕ) (ending : Ended) → words ≡ asked → shown ≡ made → IsDueFor asked left made ending → IsDueFor words left shown ending
due-asked words asked left made shown ending asks same is =
    subst (λ some. IsDueFor some left shown ending) (sym asks) (subst (λ text. IsDueFor asked left text ending) (sym same) is)

-- for unknown words the usage line is due, whatever the input
pub due-usage : (words : List (List ℕ)) (left : Option (List ℕ)) → ¬ AreKnown words → IsDueFor words left usage_line ended.Usage
due-usage words left unknown = record { bytes = told_bytes left; told = told_bytes-told left; due = usage unknown refl refl }

-- for words that ask for a generated file its summary is due, whatever the input
pub due-summary : (words : List (List ℕ)) (left : Option (List ℕ)) (number : ℕ) (made shown : List ℕ) → AsksGen words number → shown ≡ made → IsSummary number made → IsDueFor words left shown ended.Done
due-summary words left number made shown asks same is = record {
  bytes = told_bytes left;
  told = told_bytes-told left;
  due = generated number asks (subst (IsSummary number) (sym same) is) refl;
}

-- a sink to which nothing was written holds a front
pub WritesFront-nothing : (words : List (List ℕ)) (left held : Option (List ℕ)) → WritesFront words left held held
WritesFront-nothing words left held = record {
  bytes = told_bytes left;
  front = [];
  told = told_bytes-told left;
  is_front = nothing refl;
  appended = Appends-nil held;
}

-- a run whose text was written whole has written what is due
pub writes-due : (words : List (List ℕ)) (left old new : Option (List ℕ)) (text : List ℕ) (wanted result : Ended) (before after : ℕ) → IsDueFor words left text wanted → Writes wanted result text old new before after → IsAnswer result → WritesDue words left old new result
writes-due words left old new text wanted result before after is (whole same appended calm) answer =
    subst (WritesDue words left old new) (sym same) (record { text = text; is_due = is; appended = appended })
writes-due words left old new text wanted result before after is (cut_off same front rose) answer =
    absurd (subst IsAnswer same answer)

-- a run that was cut off has written a front
pub writes-front : (words : List (List ℕ)) (left old new : Option (List ℕ)) (text : List ℕ) (wanted result : Ended) (before after : ℕ) → IsDueFor words left text wanted → IsAnswer wanted → Writes wanted result text old new before after → result ≡ ended.WriteFault → WritesFront words left old new
writes-front words left old new text wanted result before after is answer (whole same appended calm) fault =
    absurd (subst IsAnswer (sym same ∙ fault) answer)
writes-front words left old new text wanted result before after is answer (cut_off same (front, rest, split, appended) rose) fault = record {
  bytes = is.bytes;
  front = front;
  told = is.told;
  is_front = due text rest wanted is.due split;
  appended = appended;
}

-- the sink failed where the run was cut off
pub writes-rose : (wanted result : Ended) (text : List ℕ) (old new : Option (List ℕ)) (before after : ℕ) → IsAnswer wanted → Writes wanted result text old new before after → result ≡ ended.WriteFault → Rose before after
writes-rose wanted result text old new before after answer (whole same appended calm) fault = absurd (subst IsAnswer (sym same ∙ fault) answer)
writes-rose wanted result text old new before after answer (cut_off same front rose) fault = rose

-- and nowhere else
pub writes-calm : (wanted result : Ended) (text : List ℕ) (old new : Option (List ℕ)) (before after : ℕ) → Writes wanted result text old new before after → ¬ (result ≡ ended.WriteFault) → after ≡ before
writes-calm wanted result text old new before after (whole same appended calm) other = calm
writes-calm wanted result text old new before after (cut_off same front rose) other = absurd (other same)
