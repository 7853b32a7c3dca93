-- What a reader of a run may rely on: for words and bytes one kind of text is due.
use Rattle.std.proofs.Common.{◌≡◌, ◌≢◌, ℕ, Bool, true, false, cond, ◌<◌, ◌≤◌, ◌⊎◌, inl, inr, List, [], ◌++◌, length, slice_index_or, Option, Some, Ok, Err, refl, sym, ap, ◌∙◌, subst, arith, append-nil, length-append}
use Rattle.pol_text.specs.declared.refusal.Refusal.{Refusal}
use Rattle.pol_text.specs.declared.word.Word.TheVariants.{AfterEnd, TooLong}
use Rattle.pol_text.specs.Refusals.{refusal_line}
use Rattle.pol_report.specs.declared.item.Item.{Item}
use Rattle.pol_lang.specs.Limits.{most_bytes}
use Rattle.pol_lang.specs.Files.{Parsed, IsFile}
use Rattle.pol_lang.specs.Grammar.{parse, extra}
use Rattle.pol_lang.proofs.SpellingLemmas.{parse-spelled}
use Rattle.pol_lang.proofs.RefusalWords.{parse-word}
use Rattle.pol_checker.specs.Laws.{VerdictIsOne}
use Rattle.pol_report.proofs.RefusalWords.{items_of-word}
use Rattle.pol_cli.specs.Reports.{IsReport, IsBegunReport}
use Rattle.pol_cli.specs.Checks.{has_rejected, IsChecked}
use Rattle.pol_cli.specs.Summaries.{IsSummary}
use Rattle.pol_cli.specs.Due.{IsDue, IsFront, IsRefused, Begin, IsAlone, AsksReport, AsksCheck, AskInput, AsksGen, AreKnown, report_words, check_words, items_behind, usage_line}
use Rattle.pol_cli.specs.Due.IsDue.{usage, generated, too_long, refused, more, reported, unreadable, checked}
use Rattle.pol_cli.specs.Runs.{WritesDue, WritesFront, HasRead, HasReadRefused}
use Rattle.pol_cli.specs.Laws.{Reports, Summarizes, Checks, Begins, CanBegin, IsReadAsFar}
use Rattle.pol_cli.specs.declared.ended.Ended.{Ended}
use Rattle.pol_cli.specs.declared.ended.Ended.TheVariants as ended
use Rattle.pol_cli.proofs.WordLemmas.{input_alone}
use Rattle.pol_cli.proofs.DueLemmas.{other-than-too_long}
use Rattle.pol_cli.proofs.CheckLaws.{checked_once}
use Rattle.pol_cli.proofs.SummaryLaws.{summary_once}

-- no words ask for both
one_task : (words : List (List ℕ)) → AsksReport words → AsksCheck words → ⊥
one_task words report check =
    let same : report_words ≡ check_words = sym report ∙ check in
    let long : 6 ≡ 5 = ap (λ some. length (slice_index_or some 0 [])) same in
    absurd (omega (arith, long))

-- for unknown words the usage line alone is due
due_usage : (words : List (List ℕ)) (bytes text : List ℕ) (ending : Ended) → ¬ AreKnown words → IsDue words bytes text ending → (text ≡ usage_line) × (ending ≡ ended.Usage)
due_usage words bytes text ending unknown (usage unknown' is' same') = (is', same')
due_usage words bytes text ending unknown (generated number' asks' summary' done') = absurd (unknown (inr (number', asks')))
due_usage words bytes text ending unknown (too_long asks' long' is') = absurd (unknown (inl asks'))
due_usage words bytes text ending unknown (refused asks' few' refusal' read' is') = absurd (unknown (inl asks'))
due_usage words bytes text ending unknown (more asks' found' begins' line' behind' is') = absurd (unknown (inl (inl asks')))
due_usage words bytes text ending unknown (reported asks' found' alone' report' done') = absurd (unknown (inl (inl asks')))
due_usage words bytes text ending unknown (unreadable asks' found' begins' refusal' read' is') = absurd (unknown (inl (inr asks')))
due_usage words bytes text ending unknown (checked asks' found' begins' items' read' is') = absurd (unknown (inl (inr asks')))

-- an input that is too long is refused
due_too_long : (words : List (List ℕ)) (bytes text : List ℕ) (ending : Ended) → AskInput words → most_bytes < length bytes → IsDue words bytes text ending → IsRefused (record { line = 0; word = TooLong }) text ending
due_too_long words bytes text ending asks long (usage unknown' is' same') = absurd (unknown' (inl asks))
due_too_long words bytes text ending asks long (generated number' asks_gen' summary' done') = absurd (input_alone words number' asks asks_gen')
due_too_long words bytes text ending asks long (too_long asks' long' is') = is'
due_too_long words bytes text ending asks long (refused asks' few' refusal' read' is') = absurd (omega (arith, long, few'))
due_too_long words bytes text ending asks long (more asks' found' begins' line' behind' is') = absurd (omega (arith, long, begins'.few))
due_too_long words bytes text ending asks long (reported asks' found' alone' report' done') = absurd (omega (arith, long, alone'.begins.few))
due_too_long words bytes text ending asks long (unreadable asks' found' begins' refusal' read' is') = absurd (omega (arith, long, begins'.few))
due_too_long words bytes text ending asks long (checked asks' found' begins' items' read' is') = absurd (omega (arith, long, begins'.few))

-- a text that is no file is answered by its refusal's line alone
due_refusal : (words : List (List ℕ)) (bytes text : List ℕ) (ending : Ended) (refusal : Refusal) → AskInput words → length bytes ≤ most_bytes → parse bytes ≡ Err refusal → IsDue words bytes text ending → IsRefused refusal text ending
due_refusal words bytes text ending refusal asks few read (usage unknown' is' same') = absurd (unknown' (inl asks))
due_refusal words bytes text ending refusal asks few read (generated number' asks_gen' summary' done') = absurd (input_alone words number' asks asks_gen')
due_refusal words bytes text ending refusal asks few read (too_long asks' long' is') = absurd (omega (arith, long', few))
due_refusal words bytes text ending refusal asks few read (refused asks' few' refusal' read' is') =
    let same : refusal' ≡ refusal = cc (read, read') in
    subst (λ r. IsRefused r text ending) same is'
due_refusal words bytes text ending refusal asks few read (more asks' found' begins' line' behind' is') = absurd (cc (read, begins'.file_is))
due_refusal words bytes text ending refusal asks few read (reported asks' found' alone' report' done') = absurd (cc (read, alone'.begins.file_is))
due_refusal words bytes text ending refusal asks few read (unreadable asks' found' begins' refusal' read' is') = absurd (cc (read, begins'.file_is))
due_refusal words bytes text ending refusal asks few read (checked asks' found' begins' items' read' is') = absurd (cc (read, begins'.file_is))

-- under `report` a significant line behind a file is refused
due_more : (words : List (List ℕ)) (bytes text : List ℕ) (ending : Ended) (found : Parsed) (line : ℕ) → AsksReport words → Begin bytes found → extra bytes found.place found.line ≡ Some line → IsDue words bytes text ending → IsRefused (record { line = line; word = AfterEnd }) text ending
due_more words bytes text ending found line asks begins behind (usage unknown' is' same') = absurd (unknown' (inl (inl asks)))
due_more words bytes text ending found line asks begins behind (generated number' asks_gen' summary' done') = absurd (input_alone words number' (inl asks) asks_gen')
due_more words bytes text ending found line asks begins behind (too_long asks' long' is') = absurd (omega (arith, long', begins.few))
due_more words bytes text ending found line asks begins behind (refused asks' few' refusal' read' is') = absurd (cc (read', begins.file_is))
due_more words bytes text ending found line asks begins behind (more asks' found' begins' line' behind' is') =
    let same : found' ≡ found = cc (begins'.file_is, begins.file_is) in
    let lines : line' ≡ line = cc (same, behind, behind') in
    subst (λ n. IsRefused (record { line = n; word = AfterEnd }) text ending) lines is'
due_more words bytes text ending found line asks begins behind (reported asks' found' alone' report' done') =
    let same : found' ≡ found = cc (alone'.begins.file_is, begins.file_is) in
    absurd (cc (same, behind, alone'.nothing_more))
due_more words bytes text ending found line asks begins behind (unreadable asks' found' begins' refusal' read' is') = absurd (one_task words asks asks')
due_more words bytes text ending found line asks begins behind (checked asks' found' begins' items' read' is') = absurd (one_task words asks asks')

-- a file alone is answered by a report of it
due_report : (words : List (List ℕ)) (bytes text : List ℕ) (ending : Ended) (found : Parsed) → AsksReport words → IsAlone bytes found → IsDue words bytes text ending → IsReport found.file text × (ending ≡ ended.Done)
due_report words bytes text ending found asks alone (usage unknown' is' same') = absurd (unknown' (inl (inl asks)))
due_report words bytes text ending found asks alone (generated number' asks_gen' summary' done') = absurd (input_alone words number' (inl asks) asks_gen')
due_report words bytes text ending found asks alone (too_long asks' long' is') = absurd (omega (arith, long', alone.begins.few))
due_report words bytes text ending found asks alone (refused asks' few' refusal' read' is') = absurd (cc (read', alone.begins.file_is))
due_report words bytes text ending found asks alone (more asks' found' begins' line' behind' is') =
    let same : found' ≡ found = cc (begins'.file_is, alone.begins.file_is) in
    absurd (cc (same, behind', alone.nothing_more))
due_report words bytes text ending found asks alone (reported asks' found' alone' report' done') =
    let same : found' ≡ found = cc (alone'.begins.file_is, alone.begins.file_is) in
    (subst (λ some. IsReport some.file text) same report', done')
due_report words bytes text ending found asks alone (unreadable asks' found' begins' refusal' read' is') = absurd (one_task words asks asks')
due_report words bytes text ending found asks alone (checked asks' found' begins' items' read' is') = absurd (one_task words asks asks')

-- under `check` what stands behind a file and is no report is answered by its refusal's line alone
due_unreadable : (words : List (List ℕ)) (bytes text : List ℕ) (ending : Ended) (found : Parsed) (refusal : Refusal) → AsksCheck words → Begin bytes found → items_behind bytes found ≡ Err refusal → IsDue words bytes text ending → IsRefused refusal text ending
due_unreadable words bytes text ending found refusal asks begins read (usage unknown' is' same') = absurd (unknown' (inl (inr asks)))
due_unreadable words bytes text ending found refusal asks begins read (generated number' asks_gen' summary' done') = absurd (input_alone words number' (inr asks) asks_gen')
due_unreadable words bytes text ending found refusal asks begins read (too_long asks' long' is') = absurd (omega (arith, long', begins.few))
due_unreadable words bytes text ending found refusal asks begins read (refused asks' few' refusal' read' is') = absurd (cc (read', begins.file_is))
due_unreadable words bytes text ending found refusal asks begins read (more asks' found' begins' line' behind' is') = absurd (one_task words asks' asks)
due_unreadable words bytes text ending found refusal asks begins read (reported asks' found' alone' report' done') = absurd (one_task words asks' asks)
due_unreadable words bytes text ending found refusal asks begins read (unreadable asks' found' begins' refusal' read' is') =
    let same : found' ≡ found = cc (begins'.file_is, begins.file_is) in
    let refusals : refusal' ≡ refusal = cc (same, read, read') in
    subst (λ r. IsRefused r text ending) refusals is'
due_unreadable words bytes text ending found refusal asks begins read (checked asks' found' begins' items' read' is') =
    let same : found' ≡ found = cc (begins'.file_is, begins.file_is) in
    absurd (cc (same, read, read'))

-- and a report by the verdicts on its items
pub due_checked : (words : List (List ℕ)) (bytes text : List ℕ) (ending : Ended) (found : Parsed) (items : List Item) → AsksCheck words → Begin bytes found → items_behind bytes found ≡ Ok items → IsDue words bytes text ending → IsChecked found.file items text ending
due_checked words bytes text ending found items asks begins read (usage unknown' is' same') = absurd (unknown' (inl (inr asks)))
due_checked words bytes text ending found items asks begins read (generated number' asks_gen' summary' done') = absurd (input_alone words number' (inr asks) asks_gen')
due_checked words bytes text ending found items asks begins read (too_long asks' long' is') = absurd (omega (arith, long', begins.few))
due_checked words bytes text ending found items asks begins read (refused asks' few' refusal' read' is') = absurd (cc (read', begins.file_is))
due_checked words bytes text ending found items asks begins read (more asks' found' begins' line' behind' is') = absurd (one_task words asks' asks)
due_checked words bytes text ending found items asks begins read (reported asks' found' alone' report' done') = absurd (one_task words asks' asks)
due_checked words bytes text ending found items asks begins read (unreadable asks' found' begins' refusal' read' is') =
    let same : found' ≡ found = cc (begins'.file_is, begins.file_is) in
    absurd (cc (same, read, read'))
due_checked words bytes text ending found items asks begins read (checked asks' found' begins' items' read' is') =
    let same : found' ≡ found = cc (begins'.file_is, begins.file_is) in
    let all : items' ≡ items = cc (same, read, read') in
    subst (λ some. IsChecked some.file items text ending) same (subst (λ some. IsChecked found'.file some text ending) all is')

-- a number that asks for a file to be generated is answered by the summary of that file
one_number : (words : List (List ℕ)) (number other : ℕ) → AsksGen words number → AsksGen words other → number ≡ other
one_number words number other one two =
    let same : one.0 ≡ two.0 = ap (λ some. slice_index_or some 1 []) (sym one.1 ∙ two.1) in
    cc (same, one.2, two.2)

pub due_summary : (words : List (List ℕ)) (bytes text : List ℕ) (ending : Ended) (number : ℕ) → AsksGen words number → IsDue words bytes text ending → IsSummary number text × (ending ≡ ended.Done)
due_summary words bytes text ending number asks (usage unknown' is' same') = absurd (unknown' (inr (number, asks)))
due_summary words bytes text ending number asks (generated number' asks' summary' done') = (subst (λ n. IsSummary n text) (one_number words number' number asks' asks) summary', done')
due_summary words bytes text ending number asks (too_long asks' long' is') = absurd (input_alone words number asks' asks)
due_summary words bytes text ending number asks (refused asks' few' refusal' read' is') = absurd (input_alone words number asks' asks)
due_summary words bytes text ending number asks (more asks' found' begins' line' behind' is') = absurd (input_alone words number (inl asks') asks)
due_summary words bytes text ending number asks (reported asks' found' alone' report' done') = absurd (input_alone words number (inl asks') asks)
due_summary words bytes text ending number asks (unreadable asks' found' begins' refusal' read' is') = absurd (input_alone words number (inr asks') asks)
due_summary words bytes text ending number asks (checked asks' found' begins' items' read' is') = absurd (input_alone words number (inr asks') asks)

-- ---- what is decided

-- a refusal has one text and one ending
refused_once : (refusal : Refusal) (one other : List ℕ) (ending last : Ended) → IsRefused refusal one ending → IsRefused refusal other last → (ending ≡ last) × (one ≡ other)
refused_once refusal one other ending last is also = (is.ending_is ∙ sym also.ending_is, is.text_is ∙ sym also.text_is)

-- an equality that holds holds under a condition too
given : {A B C : Type 0} → A × B → A × (C → B)
given (a, b) = (a, λ _. b)

-- the words and the bytes decide how a run ends, and what it writes unless that is a report
pub due_decided : VerdictIsOne → (words : List (List ℕ)) (bytes one other : List ℕ) (ending last : Ended) → IsDue words bytes one ending → IsDue words bytes other last → (ending ≡ last) × ((AsksReport words → ¬ (ending ≡ ended.Done)) → one ≡ other)
due_decided once words bytes one other ending last (usage unknown is same) due =
    let also = due_usage words bytes other last unknown due in
    (same ∙ sym also.1, λ _. is ∙ sym also.0)
due_decided once words bytes one other ending last (generated number asks summary done) due =
    let also = due_summary words bytes other last number asks due in
    (done ∙ sym also.1, λ _. summary_once number one other summary also.0)
due_decided once words bytes one other ending last (too_long asks long is) due =
    given (refused_once _ one other ending last is (due_too_long words bytes other last asks long due))
due_decided once words bytes one other ending last (refused asks few refusal read is) due =
    given (refused_once refusal one other ending last is (due_refusal words bytes other last refusal asks few read due))
due_decided once words bytes one other ending last (more asks found begins line behind is) due =
    given (refused_once _ one other ending last is (due_more words bytes other last found line asks begins behind due))
due_decided once words bytes one other ending last (reported asks found alone report done) due =
    (done ∙ sym (due_report words bytes other last found asks alone due).1, λ unless. absurd (unless asks done))
due_decided once words bytes one other ending last (unreadable asks found begins refusal read is) due =
    given (refused_once refusal one other ending last is (due_unreadable words bytes other last found refusal asks begins read due))
due_decided once words bytes one other ending last (checked asks found begins items read is) due =
    let file : IsFile found.file = (parse-spelled bytes found begins.file_is).is_file in
    given (checked_once once found.file file items one other ending last is (due_checked words bytes other last found items asks begins read due))

-- ---- what is appended

-- what is due for what is told is due for it
told_due : (words : List (List ℕ)) (bytes old new : List ℕ) (ending : Ended) → (writes : WritesDue words (Some bytes) (Some old) (Some new) ending) → IsDue words bytes writes.text ending
told_due words bytes old new ending writes = subst (λ some. IsDue words some writes.text ending) writes.is_due.told writes.is_due.due

pub files_reported : (bytes old new : List ℕ) (ending : Ended) (found : Parsed) → WritesDue report_words (Some bytes) (Some old) (Some new) ending → IsAlone bytes found → Reports found.file old new ending
files_reported bytes old new ending found writes alone =
    let report = due_report report_words bytes writes.text ending found refl alone (told_due report_words bytes old new ending writes) in
    record { text = writes.text; report = report.0; appended = writes.appended; done = report.1 }

refusal_appended : (words : List (List ℕ)) (bytes old new : List ℕ) (ending : Ended) (refusal : Refusal) → (writes : WritesDue words (Some bytes) (Some old) (Some new) ending) → IsRefused refusal writes.text ending → (new ≡ old ++ refusal_line refusal) × (ending ≡ ended.Refused refusal)
refusal_appended words bytes old new ending refusal writes is = (subst (λ text. new ≡ old ++ text) is.text_is writes.appended, is.ending_is)

pub others_refused : (words : List (List ℕ)) (bytes old new : List ℕ) (ending : Ended) (refusal : Refusal) → AskInput words → WritesDue words (Some bytes) (Some old) (Some new) ending → length bytes ≤ most_bytes → parse bytes ≡ Err refusal → (new ≡ old ++ refusal_line refusal) × (ending ≡ ended.Refused refusal)
others_refused words bytes old new ending refusal asks writes few read =
    refusal_appended words bytes old new ending refusal writes (due_refusal words bytes writes.text ending refusal asks few read (told_due words bytes old new ending writes))

pub files_summarized : (words : List (List ℕ)) (left : Option (List ℕ)) (old new : List ℕ) (ending : Ended) (number : ℕ) → AsksGen words number → WritesDue words left (Some old) (Some new) ending → Summarizes number old new ending
files_summarized words left old new ending number asks writes =
    let summary = due_summary words writes.is_due.bytes writes.text ending number asks writes.is_due.due in
    record { text = writes.text; summary = summary.0; appended = writes.appended; done = summary.1 }

pub reports_checked : (bytes old new : List ℕ) (ending : Ended) (found : Parsed) (items : List Item) → WritesDue check_words (Some bytes) (Some old) (Some new) ending → Begin bytes found → items_behind bytes found ≡ Ok items → Checks found.file items old new ending
reports_checked bytes old new ending found items writes begins read = record {
  text = writes.text;
  verdicts = due_checked check_words bytes writes.text ending found items refl begins read (told_due check_words bytes old new ending writes);
  appended = writes.appended;
}

pub other_reports_refused : (bytes old new : List ℕ) (ending : Ended) (found : Parsed) (refusal : Refusal) → WritesDue check_words (Some bytes) (Some old) (Some new) ending → Begin bytes found → items_behind bytes found ≡ Err refusal → (new ≡ old ++ refusal_line refusal) × (ending ≡ ended.Refused refusal)
other_reports_refused bytes old new ending found refusal writes begins read =
    refusal_appended check_words bytes old new ending refusal writes (due_unreadable check_words bytes writes.text ending found refusal refl begins read (told_due check_words bytes old new ending writes))

-- ---- what stands written when a run is cut off

-- for unknown words the beginning of the usage line
front_of_usage : (words : List (List ℕ)) (bytes front : List ℕ) → ¬ AreKnown words → IsFront words bytes front → Begins front usage_line
front_of_usage words bytes front unknown (IsFront.nothing is) = (usage_line, ap (λ some. some ++ usage_line) (sym is))
front_of_usage words bytes front unknown (IsFront.due text rest ending due split) = (rest, sym (due_usage words bytes text ending unknown due).0 ∙ split)
front_of_usage words bytes front unknown (IsFront.begun asks found alone text rest report split) = absurd (unknown (inl (inl asks)))

pub fronts_of_usage : (words : List (List ℕ)) (left : Option (List ℕ)) (old new : List ℕ) → ¬ AreKnown words → WritesFront words left (Some old) (Some new) → (front : List ℕ) × (new ≡ old ++ front) × Begins front usage_line
fronts_of_usage words left old new unknown writes = (writes.front, writes.appended, front_of_usage words writes.bytes writes.front unknown writes.is_front)

-- where a file is to be reported the beginning of a report, whole or begun
front_of_report : (bytes old new front : List ℕ) (found : Parsed) → IsAlone bytes found → new ≡ old ++ front → IsFront report_words bytes front → (new ≡ old) ⊎ ((front text : List ℕ) × (new ≡ old ++ front) × CanBegin found.file text × Begins front text)
front_of_report bytes old new front found alone appended (IsFront.nothing is) = inl (appended ∙ (ap (λ some. old ++ some) is ∙ append-nil old))
front_of_report bytes old new front found alone appended (IsFront.due text rest ending due split) = inr (front, text, appended, CanBegin.whole (due_report report_words bytes text ending found refl alone due).0, (rest, split))
front_of_report bytes old new front found alone appended (IsFront.begun asks other alone' text rest report split) =
    let same : other ≡ found = cc (alone'.begins.file_is, alone.begins.file_is) in
    inr (front, text, appended, CanBegin.begun (subst (λ some. IsBegunReport some.file text) same report), (rest, split))

pub fronts_of_reports : (bytes old new : List ℕ) (found : Parsed) → IsAlone bytes found → WritesFront report_words (Some bytes) (Some old) (Some new) → (new ≡ old) ⊎ ((front text : List ℕ) × (new ≡ old ++ front) × CanBegin found.file text × Begins front text)
fronts_of_reports bytes old new found alone writes =
    front_of_report bytes old new writes.front found alone writes.appended (subst (λ some. IsFront report_words some writes.front) writes.told writes.is_front)

-- and where the items of a report are to be judged the beginning of their verdicts
front_of_check : (bytes old new front : List ℕ) (found : Parsed) (items : List Item) → Begin bytes found → items_behind bytes found ≡ Ok items → new ≡ old ++ front → IsFront check_words bytes front → (new ≡ old) ⊎ ((front text : List ℕ) × (ending : Ended) × (new ≡ old ++ front) × IsChecked found.file items text ending × Begins front text)
front_of_check bytes old new front found items begins read appended (IsFront.nothing is) = inl (appended ∙ (ap (λ some. old ++ some) is ∙ append-nil old))
front_of_check bytes old new front found items begins read appended (IsFront.due text rest ending due split) =
    inr (front, text, ending, appended, due_checked check_words bytes text ending found items refl begins read due, (rest, split))
front_of_check bytes old new front found items begins read appended (IsFront.begun asks other alone text rest report split) = absurd (one_task check_words asks refl)

pub fronts_of_checks : (bytes old new : List ℕ) (found : Parsed) (items : List Item) → Begin bytes found → items_behind bytes found ≡ Ok items → WritesFront check_words (Some bytes) (Some old) (Some new) → (new ≡ old) ⊎ ((front text : List ℕ) × (ending : Ended) × (new ≡ old ++ front) × IsChecked found.file items text ending × Begins front text)
fronts_of_checks bytes old new found items begins read writes =
    front_of_check bytes old new writes.front found items begins read writes.appended (subst (λ some. IsFront check_words some writes.front) writes.told writes.is_front)

-- and where a file is to be generated the beginning of its summary
front_of_summary : (words : List (List ℕ)) (bytes old new front : List ℕ) (number : ℕ) → AsksGen words number → new ≡ old ++ front → IsFront words bytes front → (new ≡ old) ⊎ ((front text : List ℕ) × (new ≡ old ++ front) × IsSummary number text × Begins front text)
front_of_summary words bytes old new front number asks appended (IsFront.nothing is) = inl (appended ∙ (ap (λ some. old ++ some) is ∙ append-nil old))
front_of_summary words bytes old new front number asks appended (IsFront.due text rest ending due split) =
    inr (front, text, appended, (due_summary words bytes text ending number asks due).0, (rest, split))
front_of_summary words bytes old new front number asks appended (IsFront.begun asks' found alone text rest report split) = absurd (input_alone words number (inl asks') asks)

pub fronts_of_summaries : (words : List (List ℕ)) (left : Option (List ℕ)) (old new : List ℕ) (number : ℕ) → AsksGen words number → WritesFront words left (Some old) (Some new) → (new ≡ old) ⊎ ((front text : List ℕ) × (new ≡ old ++ front) × IsSummary number text × Begins front text)
fronts_of_summaries words left old new number asks writes =
    front_of_summary words writes.bytes old new writes.front number asks writes.appended writes.is_front

-- ---- how far an input was read

-- an input that is not too long was read to its end
read_whole : (bytes left : List ℕ) → length bytes ≤ most_bytes → left ≡ [] → IsReadAsFar bytes left
read_whole bytes left few whole = record { whole = λ _. whole; beyond = λ long. absurd (omega (arith, long, few)) }

read_refused : (bytes left text : List ℕ) (ending : Ended) (refusal : Refusal) → length bytes ≤ most_bytes → refusal.word ≢ TooLong → IsRefused refusal text ending → HasRead ending (Some bytes) (Some left) → IsReadAsFar bytes left
read_refused bytes left text ending refusal few other is read =
    let refused : HasReadRefused refusal (Some bytes) (Some left) = subst (λ some. HasRead some (Some bytes) (Some left)) is.ending_is read in
    read_whole bytes left few (refused.whole other)

read_checked : (b : Bool) (bytes left : List ℕ) → HasRead (cond b ended.Rejected ended.Done) (Some bytes) (Some left) → left ≡ []
read_checked true bytes left read = read
read_checked false bytes left read = read

due_read : (words : List (List ℕ)) (bytes left text : List ℕ) (ending : Ended) → AskInput words → IsDue words bytes text ending → HasRead ending (Some bytes) (Some left) → IsReadAsFar bytes left
due_read words bytes left text ending asks (usage unknown is same) read = absurd (unknown (inl asks))
due_read words bytes left text ending asks (generated number asks_gen summary done) read = absurd (input_alone words number asks asks_gen)
due_read words bytes left text ending asks (too_long _ long is) read =
    let refused : HasReadRefused (record { line = 0; word = TooLong }) (Some bytes) (Some left) = subst (λ some. HasRead some (Some bytes) (Some left)) is.ending_is read in
    let taken = refused.beyond refl in
    record {
      whole = λ few. absurd (omega (arith, long, few));
      beyond = λ _. omega (arith, ap length taken.1, length-append taken.0 left, taken.2);
    }
due_read words bytes left text ending asks (refused _ few refusal none is) read = read_refused bytes left text ending refusal few (parse-word bytes refusal none) is read
due_read words bytes left text ending asks (more _ found begins line behind is) read = read_refused bytes left text ending _ begins.few (other-than-too_long AfterEnd refl) is read
due_read words bytes left text ending asks (reported _ found alone report done) read =
    read_whole bytes left alone.begins.few (subst (λ some. HasRead some (Some bytes) (Some left)) done read)
due_read words bytes left text ending asks (unreadable _ found begins refusal none is) read =
    read_refused bytes left text ending refusal begins.few (items_of-word _ found.line refusal none) is read
due_read words bytes left text ending asks (checked _ found begins items some is) read =
    read_whole bytes left begins.few (read_checked (has_rejected is.verdicts) bytes left (subst (λ some. HasRead some (Some bytes) (Some left)) is.ending_is read))

pub inputs_read : (words : List (List ℕ)) (bytes left old new : List ℕ) (ending : Ended) → AskInput words → WritesDue words (Some bytes) (Some old) (Some new) ending → HasRead ending (Some bytes) (Some left) → IsReadAsFar bytes left
inputs_read words bytes left old new ending asks writes read =
    due_read words bytes left writes.text ending asks (told_due words bytes old new ending writes) read
