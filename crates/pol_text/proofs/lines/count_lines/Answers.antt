use Rattle.std.proofs.Common.{◌≡◌, ◌≢◌, ◌-◌, ◌∙◌, suc, sym, length, get_or, arith}
use Rattle.pol_text.proofs.LineLemmas.{length-lines_of-ended, length-lines_of-open}
use Rattle.pol_text.proofs.lines.count_lines.Goals as goal

pub returns-then-last-eq-LF : goal.returns-then-last-eq-LF
returns-then-last-eq-LF c =
    let held = c.in-Some.ensures.item.3 in
    let long : length c.args.bytes.now ≡ suc (length c.args.bytes.now - 1) = omega (arith, held.0) in
    let last = sym (held.1 0) ∙ c.if-last-eq-LF.true in
    record { lines = c.line_ends-ended.ensures.ends ∙ sym (length-lines_of-ended c.args.bytes.now (length c.args.bytes.now - 1) long last) }

pub returns-else-last-eq-LF : goal.returns-else-last-eq-LF
returns-else-last-eq-LF c =
    let held = c.in-Some.ensures.item.3 in
    let long : length c.args.bytes.now ≡ suc (length c.args.bytes.now - 1) = omega (arith, held.0) in
    let last : get_or c.args.bytes.now (length c.args.bytes.now - 1) 0 ≢ 10 = λ e. c.if-last-eq-LF.false (held.1 0 ∙ e) in
    let lines = length-lines_of-open c.args.bytes.now (length c.args.bytes.now - 1) long last in
    record { lines = omega (arith, lines, c.line_ends-ended.ensures.ends) }
