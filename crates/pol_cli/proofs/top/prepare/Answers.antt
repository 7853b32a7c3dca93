use Rattle.std.proofs.Common.{refl, rules, arith}
use Rattle.pol_cli.specs.Due.{input_words}
use Rattle.pol_cli.proofs.WordLemmas.{asks_input}
use Rattle.pol_cli.proofs.DueLemmas.{due-too_long, told_all}
use Rattle.pol_cli.proofs.OutputLemmas.{output-read, output-refused, taken_exactly}
use Rattle.pol_cli.proofs.top.prepare.Goals as goal

pub returns-in_ok-made-in-Ok-clause-due : goal.returns-in_ok-made-in-Ok-clause-due
returns-in_ok-made-in-Ok-clause-due g c =
    let told = told_all _ _ c.in-Ok.bytes c.in-Ok.ensures.bytes c.in-Ok.ensures.end in
    record { bytes = c.in-Ok.bytes; told = told; is = rw c.as_slice.ensures.items at c.in_ok-made-in-Ok.ensures.due }

pub returns-in_ok-made-in-Ok-clause-read : goal.returns-in_ok-made-in-Ok-clause-read
returns-in_ok-made-in-Ok-clause-read g c = output-read (input_words c.args.task) _ _ _ _ c.in_ok-made-in-Ok.ensures.due c.in_ok-made-in-Ok.ensures.word c.in-Ok.ensures.end

pub returns-in_ok-made-in-Ok-clause-taken_most : goal.returns-in_ok-made-in-Ok-clause-taken_most
returns-in_ok-made-in-Ok-clause-taken_most g c = (c.in-Ok.bytes, c.in-Ok.ensures.bytes, omega (arith, c.in-Ok.ensures.within))

pub returns-in_ok-refused-in-Err-TooLong-clause-due : goal.returns-in_ok-refused-in-Err-TooLong-clause-due
returns-in_ok-refused-in-Err-TooLong-clause-due g c =
    let words = input_words c.args.task in
    output-refused words (g.S.Source.left c.args.source.now) _ _ _ c.in_ok-refused-in-Err-TooLong.ensures.refused
    (due-too_long words _ (g.S.Source.left c.read_all.new.source) _ (asks_input c.args.task) refl (c.in-Err-TooLong.ensures.too_long (search rules))) tt

pub returns-in_ok-refused-in-Err-TooLong-clause-taken_most : goal.returns-in_ok-refused-in-Err-TooLong-clause-taken_most
returns-in_ok-refused-in-Err-TooLong-clause-taken_most g c = taken_exactly _ _ _ (c.in-Err-TooLong.ensures.too_long (search rules))
