use Rattle.std.proofs.Common.{refl}
use Rattle.pol_text.specs.Refusals.{refusal_line}
use Rattle.pol_lang.specs.Reading.{parsed_of}
use Rattle.pol_cli.specs.Due.{report_words}
use Rattle.pol_cli.specs.declared.ended.Ended.TheVariants as ended
use Rattle.pol_cli.proofs.DueLemmas.{due-more, other-than-too_long}
use Rattle.pol_cli.proofs.OutputLemmas.{output-made, output-word}
use Rattle.pol_cli.proofs.top.alone.Goals as goal

-- a file alone
pub returns-in-Ok-clause-due : goal.returns-in-Ok-clause-due
returns-in-Ok-clause-due c = record {
  asks = refl;
  found = parsed_of (c.args.file, c.args.rest);
  alone = record { begins = c.requires.begins; nothing_more = c.in-Ok.ensures.nothing };
  file_is = refl;
}

-- a file and a line behind it
pub returns-in-Err-clause-due : goal.returns-in-Err-clause-due
returns-in-Err-clause-due c =
    let refusal = c.in-Err.refusal in
    let begins = c.requires.begins in
    let due = due-more c.args.bytes.now (parsed_of (c.args.file, c.args.rest)) refusal begins.few begins.file_is c.in-Err.ensures.more c.in-Err.ensures.word in
    output-made c.refused.result report_words c.args.bytes.now (refusal_line refusal) (ended.Refused refusal) c.refused.ensures.refused due tt

pub returns-in-Err-clause-word : goal.returns-in-Err-clause-word
returns-in-Err-clause-word c =
    let refusal = c.in-Err.refusal in
    output-word c.refused.result (refusal_line refusal) (ended.Refused refusal) c.refused.ensures.refused (other-than-too_long refusal.word c.in-Err.ensures.word)
