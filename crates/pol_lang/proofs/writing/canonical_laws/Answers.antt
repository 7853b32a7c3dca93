use Rattle.pol_lang.proofs.ReadAgain.{parse-file_text}
use Rattle.pol_lang.proofs.TextLength.{file_text-short}
use Rattle.pol_lang.proofs.writing.canonical_laws.Goals as goal

pub returns : goal.returns
returns c = record { again = parse-file_text; short = file_text-short }
