use Rattle.std.proofs.Common.{◌≡◌, ◌<◌, refl, sym, ap, length, drop, get_or, arith, rules}
use Rattle.std.specs.List.{position_or_len}
use Rattle.pol_text.specs.Lines.{is_significant}
use Rattle.pol_text.proofs.LineLemmas.{is_solid, tokens_of-none, is_significant-behind}
use Rattle.pol_text.proofs.lines.begins_significant.Goals as goal

pub returns-in-Some : goal.returns-in-Some
returns-in-Some c =
    let behind : c.split_at.result.1.now ≡ drop (position_or_len is_solid c.args.text.now) c.args.text.now = rw (c.split_at.ensures.back, c.blank_length.ensures.length) refl in
    let some : 0 < length c.split_at.result.1.now = search (rules, arith) in
    let first : get_or c.split_at.result.1.now 0 0 ≡ c.in-Some.byte.now = search rules in
    record { significant = sym (rw first at (is_significant-behind c.args.text.now c.split_at.result.1.now behind some)) }

pub returns-in-None : goal.returns-in-None
returns-in-None c =
    let behind : c.split_at.result.1.now ≡ drop (position_or_len is_solid c.args.text.now) c.args.text.now = rw (c.split_at.ensures.back, c.blank_length.ensures.length) refl in
    let none : length c.split_at.result.1.now ≡ 0 = search (rules, arith) in
    record { significant = sym (ap is_significant (tokens_of-none c.args.text.now c.split_at.result.1.now behind none)) }
