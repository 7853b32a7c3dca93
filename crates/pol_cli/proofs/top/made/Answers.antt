use Rattle.std.proofs.Common.{refl}
use Rattle.pol_text.specs.Refusals.{refusal_line}
use Rattle.pol_lang.proofs.RefusalWords.{parse-word}
use Rattle.pol_cli.specs.Due.{input_words}
use Rattle.pol_cli.specs.Due.IsDue.{refused}
use Rattle.pol_cli.specs.declared.ended.Ended.TheVariants as ended
use Rattle.pol_cli.proofs.WordLemmas.{asks_input}
use Rattle.pol_cli.proofs.OutputLemmas.{output-made, output-word}
use Rattle.pol_cli.proofs.top.made.Goals as goal

-- no file
pub returns-in-Err-Refused-clause-due : goal.returns-in-Err-Refused-clause-due
returns-in-Err-Refused-clause-due c =
    let parsed = rw c.in-Err-Refused.field-0-is at c.in-Err-Refused.ensures.reads in
    let refusal = c.in-Err-Refused.refusal in
    let due = refused (asks_input c.args.task) c.requires.few refusal parsed (record { text_is = refl; ending_is = refl }) in
    output-made c.refused.result (input_words c.args.task) c.args.bytes.now (refusal_line refusal) (ended.Refused refusal) (rw c.in-Err-Refused.field-0-is at c.refused.ensures.refused) due tt

pub returns-in-Err-Refused-clause-word : goal.returns-in-Err-Refused-clause-word
returns-in-Err-Refused-clause-word c =
    let parsed = rw c.in-Err-Refused.field-0-is at c.in-Err-Refused.ensures.reads in
    let refusal = c.in-Err-Refused.refusal in
    output-word c.refused.result (refusal_line refusal) (ended.Refused refusal) (rw c.in-Err-Refused.field-0-is at c.refused.ensures.refused) (parse-word c.args.bytes.now refusal parsed)
