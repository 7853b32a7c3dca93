use Rattle.std.proofs.Common.{◌≡◌, Err, refl}
use Rattle.pol_text.specs.Refusals.{refusal_line}
use Rattle.pol_lang.specs.Reading.{parsed_of}
use Rattle.pol_report.proofs.RefusalWords.{items_of-word}
use Rattle.pol_cli.specs.Due.{check_words, items_behind}
use Rattle.pol_cli.specs.Due.IsDue.{unreadable}
use Rattle.pol_cli.specs.declared.ended.Ended.TheVariants as ended
use Rattle.pol_cli.proofs.DueLemmas.{behind_place}
use Rattle.pol_cli.proofs.OutputLemmas.{output-made, output-word, output-verdicts, output-verdicts-word}
use Rattle.pol_cli.proofs.top.check.Goals as goal

-- a report
pub returns-in-Ok-clause-due : goal.returns-in-Ok-clause-due
returns-in-Ok-clause-due c =
    output-verdicts c.args.bytes.now (parsed_of (c.args.file.now, c.args.rest)) c.in-Ok.items c.requires.begins (rw (behind_place c.args.bytes.now c.args.rest.place) at c.in-Ok.ensures.reads) c.verdicts.result c.verdicts.ensures.made

pub returns-in-Ok-clause-word : goal.returns-in-Ok-clause-word
returns-in-Ok-clause-word c =
    output-verdicts-word c.args.bytes.now (parsed_of (c.args.file.now, c.args.rest)) c.in-Ok.items c.requires.begins (rw (behind_place c.args.bytes.now c.args.rest.place) at c.in-Ok.ensures.reads) c.verdicts.result c.verdicts.ensures.made

-- no report
pub returns-in-Err-Refused-clause-due : goal.returns-in-Err-Refused-clause-due
returns-in-Err-Refused-clause-due c =
    let found = parsed_of (c.args.file.now, c.args.rest) in
    let refusal = c.in-Err-Refused.refusal in
    let read : items_behind c.args.bytes.now found ≡ Err refusal = rw (c.in-Err-Refused.field-0-is, behind_place c.args.bytes.now c.args.rest.place) at c.in-Err-Refused.ensures.reads in
    let due = unreadable refl found c.requires.begins refusal read (record { text_is = refl; ending_is = refl }) in
    output-made c.refused.result check_words c.args.bytes.now (refusal_line refusal) (ended.Refused refusal) c.refused.ensures.refused due tt

pub returns-in-Err-Refused-clause-word : goal.returns-in-Err-Refused-clause-word
returns-in-Err-Refused-clause-word c =
    let found = parsed_of (c.args.file.now, c.args.rest) in
    let refusal = c.in-Err-Refused.refusal in
    let read : items_behind c.args.bytes.now found ≡ Err refusal = rw (c.in-Err-Refused.field-0-is, behind_place c.args.bytes.now c.args.rest.place) at c.in-Err-Refused.ensures.reads in
    output-word c.refused.result (refusal_line refusal) (ended.Refused refusal) c.refused.ensures.refused (items_of-word _ _ refusal read)
