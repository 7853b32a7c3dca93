-- Outputs that are due, and what stands written where a run that delivers one ends.
use Rattle.std.proofs.Common.{◌≡◌, ℕ, ◌+◌, ◌≤◌, List, Result, Ok, IfOk, inl, inr, refl, sym, ◌∙◌, subst, arith}
use Rattle.std.specs.Prelude.{Option, ◌⊎◌}
use Rattle.std.specs.Io.KnownBytes.{IsAtEnd}
use Rattle.std.proofs.lemmas.Result.{IfOk-weaker}
use Rattle.pol_outside.specs.Contents.{Takes, TakesAtMost, AppendsFront}
use Rattle.pol_outside.specs.Faults.{Rose}
use Rattle.pol_report.specs.declared.item.Item.{Item}
use Rattle.pol_lang.specs.Limits.{most_bytes}
use Rattle.pol_lang.specs.Files.{FileView, Parsed}
use Rattle.pol_cli.specs.Checks.{IsChecked}
use Rattle.pol_cli.specs.Reports.{IsReport, IsBegunReport}
use Rattle.pol_cli.specs.Due.{IsDue, Begin, check_words, items_behind}
use Rattle.pol_cli.specs.Due.IsDue.{reported, checked}
use Rattle.pol_cli.specs.Due.IsFront.{due, begun}
use Rattle.pol_cli.specs.Runs.{IsAnswer, IsDueFor, NotTooLong, HasRead, Writes, WritesDue, WritesFront}
use Rattle.pol_cli.specs.Runs.Reports.{whole, cut_off, out_of_memory}
use Rattle.pol_cli.specs.Outputs.{IsOutput, IsOutputFor, IsTextOf, OutputNotTooLong, OutputHasRead, Delivers}
use Rattle.pol_cli.specs.declared.ended.Ended.{Ended}
use Rattle.pol_cli.specs.declared.ended.Ended.TheVariants as ended
use Rattle.pol_cli.specs.declared.top.Output.{Output}
use Rattle.pol_cli.specs.declared.top.Output.TheVariants.{Text, Report}
use Rattle.pol_cli.proofs.DueLemmas.{read_all, checked_answer, checked_other}
use Rattle.pol_cli.proofs.RunLemmas.{writes-due, writes-front, writes-rose, writes-calm}

-- a call that makes a text with an ending, where those are due
pub output-made : {E : Type 0} (result : Result Output E) (words : List (List ℕ)) (bytes text : List ℕ) (ending : Ended) → IfOk result (λ output. output ≡ Text text ending) → IsDue words bytes text ending → IsAnswer ending → IfOk result (IsOutput words bytes)
output-made result words bytes text ending made is answer =
    IfOk-weaker result (λ output. output ≡ Text text ending) (IsOutput words bytes) (λ output same. subst (IsOutput words bytes) (sym same) (record { due = is; answer = answer })) made

-- and where the ending is none of an input that is too long
pub output-word : {E : Type 0} (result : Result Output E) (text : List ℕ) (ending : Ended) → IfOk result (λ output. output ≡ Text text ending) → NotTooLong ending → IfOk result OutputNotTooLong
output-word result text ending made other =
    IfOk-weaker result (λ output. output ≡ Text text ending) OutputNotTooLong (λ output same. subst OutputNotTooLong (sym same) other) made

module _ (bytes : List ℕ) (found : Parsed) (items : List Item) (begins : Begin bytes found) (read : items_behind bytes found ≡ Ok items) where
  verdicts_due : (output : Output) → IsTextOf (IsChecked found.file items) output → IsOutput check_words bytes output
  verdicts_due (Text text ending) is = record { due = checked refl found begins items read is; answer = checked_answer found.file items text ending is }
  verdicts_due (Report file) is = absurd is

  verdicts_other : (output : Output) → IsTextOf (IsChecked found.file items) output → OutputNotTooLong output
  verdicts_other (Text text ending) is = checked_other found.file items text ending is
  verdicts_other (Report file) is = absurd is

  -- the verdicts on the items of the report behind a file
  pub output-verdicts : {E : Type 0} (result : Result Output E) → IfOk result (IsTextOf (IsChecked found.file items)) → IfOk result (IsOutput check_words bytes)
  output-verdicts result made = IfOk-weaker result (IsTextOf (IsChecked found.file items)) (IsOutput check_words bytes) verdicts_due made

  pub output-verdicts-word : {E : Type 0} (result : Result Output E) → IfOk result (IsTextOf (IsChecked found.file items)) → IfOk result OutputNotTooLong
  output-verdicts-word result made = IfOk-weaker result (IsTextOf (IsChecked found.file items)) OutputNotTooLong verdicts_other made

-- an input that was read to its end, and is not too long
pub output-read : (words : List (List ℕ)) (bytes : List ℕ) (output : Output) (old new : Option (List ℕ)) → IsOutput words bytes output → OutputNotTooLong output → IsAtEnd new → OutputHasRead output old new
output-read words bytes (Text text ending) old new is other at_end = read_all ending old new is.answer other at_end
output-read words bytes (Report file) old new is other at_end = at_end

-- the output that is due for the words of a task is due at the words that ask for it
pub output-asked : (words asked : List (List ℕ)) (left : Option (List ℕ)) (output : Output) → words ≡ asked → IsOutputFor asked left output → IsOutputFor words left output
output-asked words asked left output asks is = subst (λ some. IsOutputFor some left output) (sym asks) is

-- a text that is too long to be read is refused
pub output-refused : (words : List (List ℕ)) (left : Option (List ℕ)) (output : Output) (text : List ℕ) (ending : Ended) → output ≡ Text text ending → IsDueFor words left text ending → IsAnswer ending → IsOutputFor words left output
output-refused words left output text ending same is answer =
    subst (IsOutputFor words left) (sym same) (record { bytes = is.bytes; told = is.told; is = record { due = is.due; answer = answer } })

-- what was taken up to the limit, or one byte beyond it
pub taken_within : (old new : Option (List ℕ)) (n m : ℕ) → n ≤ m → TakesAtMost old new n → TakesAtMost old new m
taken_within old new n m within (bytes, consumed, few) = (bytes, consumed, omega (arith, within, few))

pub taken_exactly : (old new : Option (List ℕ)) (n : ℕ) → Takes old new n → TakesAtMost old new n
taken_exactly old new n (bytes, consumed, many) = (bytes, consumed, omega (arith, many))

-- ---- a run that delivers an output

report_front : (words : List (List ℕ)) (left old new : Option (List ℕ)) (file : FileView) (text : List ℕ) → IsOutputFor words left (Report file) → IsBegunReport file text ⊎ IsReport file text → AppendsFront old new text → WritesFront words left old new
report_front words left old new file text is (inl first) (some, rest, split, appended) = record {
  bytes = is.bytes;
  front = some;
  told = is.told;
  is_front = begun is.is.asks is.is.found is.is.alone text rest (subst (λ f. IsBegunReport f text) is.is.file_is first) split;
  appended = appended;
}
report_front words left old new file text is (inr report) (some, rest, split, appended) = record {
  bytes = is.bytes;
  front = some;
  told = is.told;
  is_front = due text rest ended.Done (reported is.is.asks is.is.found is.is.alone (subst (λ f. IsReport f text) is.is.file_is report) refl) split;
  appended = appended;
}

-- what is due was written
pub deliver-due : (words : List (List ℕ)) (left old new : Option (List ℕ)) (output : Output) (result : Ended) (before after : ℕ) → IsOutputFor words left output → Delivers output result old new before after → IsAnswer result → WritesDue words left old new result
deliver-due words left old new (Text text wanted) result before after is delivers answer =
    writes-due words left old new text wanted result before after (record { bytes = is.bytes; told = is.told; due = is.is.due }) delivers answer
deliver-due words left old new (Report file) result before after is (whole same report calm) answer =
    subst (WritesDue words left old new) (sym same) (record {
      text = report.text;
      is_due = record { bytes = is.bytes; told = is.told; due = reported is.is.asks is.is.found is.is.alone (subst (λ f. IsReport f report.text) is.is.file_is report.is_report) refl };
      appended = report.appended;
    })
deliver-due words left old new (Report file) result before after is (cut_off same front rose) answer = absurd (subst IsAnswer same answer)
deliver-due words left old new (Report file) result before after is (out_of_memory same front calm) answer = absurd (subst IsAnswer same answer)

-- a run that was cut off has written a front
pub deliver-fault : (words : List (List ℕ)) (left old new : Option (List ℕ)) (output : Output) (result : Ended) (before after : ℕ) → IsOutputFor words left output → Delivers output result old new before after → result ≡ ended.WriteFault → WritesFront words left old new
deliver-fault words left old new (Text text wanted) result before after is delivers fault =
    writes-front words left old new text wanted result before after (record { bytes = is.bytes; told = is.told; due = is.is.due }) is.is.answer delivers fault
deliver-fault words left old new (Report file) result before after is (whole same report calm) fault = cc (same, fault)
deliver-fault words left old new (Report file) result before after is (cut_off same front rose) fault = report_front words left old new file front.text is front.is front.appended
deliver-fault words left old new (Report file) result before after is (out_of_memory same front calm) fault = cc (same, fault)

pub deliver-memory : (words : List (List ℕ)) (left old new : Option (List ℕ)) (output : Output) (result : Ended) (before after : ℕ) → IsOutputFor words left output → Delivers output result old new before after → result ≡ ended.NoMemory → WritesFront words left old new
deliver-memory words left old new (Text text wanted) result before after is (Writes.whole same appended calm) memory = absurd (subst IsAnswer (sym same ∙ memory) is.is.answer)
deliver-memory words left old new (Text text wanted) result before after is (Writes.cut_off same front rose) memory = cc (same, memory)
deliver-memory words left old new (Report file) result before after is (whole same report calm) memory = cc (same, memory)
deliver-memory words left old new (Report file) result before after is (cut_off same front rose) memory = cc (same, memory)
deliver-memory words left old new (Report file) result before after is (out_of_memory same front calm) memory = report_front words left old new file front.text is front.is front.appended

-- memory ran out behind the end of the input
pub deliver-memory-late : (words : List (List ℕ)) (left now old new : Option (List ℕ)) (output : Output) (result : Ended) (before after : ℕ) → IsOutputFor words left output → OutputHasRead output left now → Delivers output result old new before after → result ≡ ended.NoMemory → IsAtEnd now
deliver-memory-late words left now old new (Text text wanted) result before after is read (Writes.whole same appended calm) memory = absurd (subst IsAnswer (sym same ∙ memory) is.is.answer)
deliver-memory-late words left now old new (Text text wanted) result before after is read (Writes.cut_off same front rose) memory = cc (same, memory)
deliver-memory-late words left now old new (Report file) result before after is read delivers memory = read

-- how much of the input was taken
pub deliver-read : (words : List (List ℕ)) (left now old new : Option (List ℕ)) (output : Output) (result : Ended) (before after : ℕ) → IsOutputFor words left output → OutputHasRead output left now → (IsAtEnd now ⊎ Takes left now (most_bytes + 1)) → TakesAtMost left now (most_bytes + 1) → Delivers output result old new before after → HasRead result left now
deliver-read words left now old new (Text text wanted) result before after is read taken most (Writes.whole same appended calm) = subst (λ some. HasRead some left now) (sym same) read
deliver-read words left now old new (Text text wanted) result before after is read taken most (Writes.cut_off same front rose) = subst (λ some. HasRead some left now) (sym same) taken
deliver-read words left now old new (Report file) result before after is read taken most (whole same report calm) = subst (λ some. HasRead some left now) (sym same) read
deliver-read words left now old new (Report file) result before after is read taken most (cut_off same front rose) = subst (λ some. HasRead some left now) (sym same) taken
deliver-read words left now old new (Report file) result before after is read taken most (out_of_memory same front calm) = subst (λ some. HasRead some left now) (sym same) most

-- the sink failed where the run was cut off by it, and nowhere else
pub deliver-rose : (words : List (List ℕ)) (left old new : Option (List ℕ)) (output : Output) (result : Ended) (before after : ℕ) → IsOutputFor words left output → Delivers output result old new before after → result ≡ ended.WriteFault → Rose before after
deliver-rose words left old new (Text text wanted) result before after is delivers fault = writes-rose wanted result text old new before after is.is.answer delivers fault
deliver-rose words left old new (Report file) result before after is (whole same report calm) fault = cc (same, fault)
deliver-rose words left old new (Report file) result before after is (cut_off same front rose) fault = rose
deliver-rose words left old new (Report file) result before after is (out_of_memory same front calm) fault = cc (same, fault)

pub deliver-calm : (output : Output) (result : Ended) (old new : Option (List ℕ)) (before after : ℕ) → Delivers output result old new before after → ¬ (result ≡ ended.WriteFault) → after ≡ before
deliver-calm (Text text wanted) result old new before after delivers other = writes-calm wanted result text old new before after delivers other
deliver-calm (Report file) result old new before after (whole same report calm) other = calm
deliver-calm (Report file) result old new before after (cut_off same front rose) other = absurd (other same)
deliver-calm (Report file) result old new before after (out_of_memory same front calm) other = calm

-- no run that delivers ends with a fault of reading
pub deliver-no-read-fault : (words : List (List ℕ)) (left old new : Option (List ℕ)) (output : Output) (result : Ended) (before after : ℕ) → IsOutputFor words left output → Delivers output result old new before after → ¬ (result ≡ ended.ReadFault)
deliver-no-read-fault words left old new (Text text wanted) result before after is (Writes.whole same appended calm) = λ read. absurd (subst IsAnswer (sym same ∙ read) is.is.answer)
deliver-no-read-fault words left old new (Text text wanted) result before after is (Writes.cut_off same front rose) = λ read. cc (same, read)
deliver-no-read-fault words left old new (Report file) result before after is (whole same report calm) = λ read. cc (same, read)
deliver-no-read-fault words left old new (Report file) result before after is (cut_off same front rose) = λ read. cc (same, read)
deliver-no-read-fault words left old new (Report file) result before after is (out_of_memory same front calm) = λ read. cc (same, read)

-- where the sink did not fail, the run answers, or memory ran out
pub deliver-complete : (words : List (List ℕ)) (left old new : Option (List ℕ)) (output : Output) (result : Ended) (before after : ℕ) → IsOutputFor words left output → Delivers output result old new before after → ¬ Rose before after → IsAnswer result ⊎ (result ≡ ended.NoMemory)
deliver-complete words left old new (Text text wanted) result before after is (Writes.whole same appended calm) still = inl (subst IsAnswer (sym same) is.is.answer)
deliver-complete words left old new (Text text wanted) result before after is (Writes.cut_off same front rose) still = absurd (still rose)
deliver-complete words left old new (Report file) result before after is (whole same report calm) still = inl (subst IsAnswer (sym same) tt)
deliver-complete words left old new (Report file) result before after is (cut_off same front rose) still = absurd (still rose)
deliver-complete words left old new (Report file) result before after is (out_of_memory same front calm) still = inr same
