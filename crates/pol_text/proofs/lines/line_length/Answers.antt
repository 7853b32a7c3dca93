use Rattle.std.proofs.Common.{length, arith, add-one}
use Rattle.std.proofs.lemmas.Bool.{false_from_ne_true}
use Rattle.std.proofs.lemmas.List.{take_all, drop_all}
use Rattle.pol_text.proofs.LineLemmas.{lines_of-first, lines_of-whole}
use Rattle.pol_text.proofs.lines.line_length.Goals as goal

pub returns-in-Some-clause-first : goal.returns-in-Some-clause-first
returns-in-Some-clause-first c = λ some.
    let found = c.in-Some.ensures in
    rw add-one (lines_of-first c.args.bytes.now c.in-Some.place found.0.high (λ k below. false_from_ne_true _ (found.0.before k (omega arith) below)) found.1)

pub returns-in-None-clause-first : goal.returns-in-None-clause-first
returns-in-None-clause-first c = λ some.
    let bytes = c.args.bytes.now in
    let none = c.in-None.ensures in
    rw (take_all (length bytes) bytes (omega arith), drop_all (length bytes) bytes (omega arith)) (lines_of-whole bytes some (λ k below. false_from_ne_true _ (none k (omega arith) below)))
