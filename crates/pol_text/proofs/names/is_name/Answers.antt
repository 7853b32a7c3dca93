use Rattle.std.proofs.Common.{◌≡◌, ◌≤◌, ◌-◌, true, sym, length, take, drop, get_or, arith, rules}
use borrow.Author.Tests.{tests}
use Rattle.std.proofs.lemmas.Iterator.{YieldsList-from_slice}
use Rattle.std.proofs.lemmas.Iterator.Search.{all_from_yields_List}
use Rattle.std.proofs.lemmas.List.{take_rest}
use Rattle.pol_text.specs.Lines.{is_letter, is_name_byte}
use Rattle.pol_text.proofs.LineLemmas.{is_name-bytes}
use Rattle.pol_text.proofs.names.is_name.Goals as goal

pub returns : goal.returns
returns c =
    let rest = take_rest c.args.token.now 1 in
    let letter : is_letter (get_or c.args.token.now 0 0) ≡ true = sym c.if-not-is_ascii_alphabetic.ensures.value in
    let few : length (take (length c.args.token.now - 1) (drop 1 c.args.token.now)) ≤ 31 = omega arith in
    let bytes = is_name-bytes c.args.token.now _ c.in-len1-up.len_at_least rest letter few in
    record { name = rw bytes (all_from_yields_List is_name_byte _ _ _ c.all.ensures.ran (YieldsList-from_slice _ c.iter.ensures.rest) (λ x b q k. search (rules, tests))) }
