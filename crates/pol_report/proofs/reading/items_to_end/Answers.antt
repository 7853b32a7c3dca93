use Rattle.std.proofs.Common.{◌≡◌, ◌+◌, ◌-◌, ◌∷◌, ◌++◌, [], append-nil, ltb, length, length-append, codes, true, false, Ok, Err, ap, sym, ◌∙◌, arith, rules}
use Rattle.std.proofs.lemmas.Result.{err_from_is_err_and}
use Rattle.pol_text.specs.Reading.{after_line, begins_with, end_line}
use Rattle.pol_report.specs.Limits.{most_items, most_steps}
use Rattle.pol_report.specs.Reports.{steps_of}
use Rattle.pol_report.specs.Openings.{opening_from}
use Rattle.pol_report.specs.Grammar.{items_from, nothing_behind, item_from}
use Rattle.pol_report.specs.Reading.{all_behind, itself}
use Rattle.pol_report.proofs.CountLemmas.{all_behind-nothing}
use Rattle.pol_report.proofs.ItemLoops.{items-next, items-room, items-refused, items-broken, items-end, item-shorter, reads_from_end, reads_from_lines}
use Rattle.pol_report.proofs.reading.items_to_end.Goals as goal

pub loop-line-init : goal.loop-line-init
loop-line-init c =
    rw c.new-items.ensures.empty
    (record { can = tt; ends = tt; few = omega arith; left = omega arith; same = all_behind-nothing (items_from (c.args.text.now) 64 10037608 c.args.lines) })

pub returns-in-Err-Refused : goal.returns-in-Err-Refused
returns-in-Err-Refused c =
    let last = c.args.text.now in
    let items = c.loop-line.items in
    let left = c.loop-line.left in
    let l = c.in-Some.line in
    let ls = c.next.new.self in
    let first : c.loop-line.lines ≡ l ∷ ls = search rules in
    let other : begins_with (codes "end") l.tokens ≡ false = sym c.if-begins_with.ensures.begins in
    let refuses : opening_from (ltb (length items) most_items) left l.tokens ≡ Err c.in-Err-Refused.word = rw (c.len.ensures.counted, c.in-Err-Refused.field-0-is) at c.in-Err-Refused.ensures.opening in
    let all : items_from last most_items most_steps c.args.lines ≡ all_behind items (items_from last (most_items - length items) left (l ∷ ls)) = sym c.loop-line.invariant.same ∙ ap (λ lines. all_behind items (items_from last (most_items - length items) left lines)) first in
    record { reads = rw (c.refused.ensures.refused, c.number.ensures.number, c.in-Err-Refused.word-is) (all ∙ items-refused last left items l ls c.in-Err-Refused.word other refuses) }

pub returns-in_err-nothing_behind : goal.returns-in_err-nothing_behind
returns-in_err-nothing_behind c =
    let p = err_from_is_err_and c.from_residual.result c.from_residual.ensures.1 in
    let fail = c.in_err-nothing_behind.field-0.0 in
    let failed : c.from_residual.result ≡ Err fail = p.1 ∙ ap (λ e. Err e) p.2 in
    let last = c.args.text.now in
    let items = c.loop-line.items in
    let left = c.loop-line.left in
    let l = c.in-Some.line in
    let ls = c.next.new.self in
    let first : c.loop-line.lines ≡ l ∷ ls = search rules in
    let ends : begins_with (codes "end") l.tokens ≡ true = sym c.if-begins_with.ensures.begins in
    let all : items_from last most_items most_steps c.args.lines ≡ all_behind items (items_from last (most_items - length items) left (l ∷ ls)) = sym c.loop-line.invariant.same ∙ ap (λ lines. all_behind items (items_from last (most_items - length items) left lines)) first in
    let end = after_line l (end_line l.tokens) (λ _. nothing_behind ls) in
    rw failed
    (record { reads = reads_from_end itself fail end (items_from last most_items most_steps c.args.lines) c.in_err-nothing_behind.ensures.nothing (λ refusal e. all ∙ (items-end last (most_items - length items) left items l ls ends ∙ ap (all_behind items) e)) })

pub returns-then-begins_with : goal.returns-then-begins_with
returns-then-begins_with c =
    let last = c.args.text.now in
    let items = c.loop-line.items in
    let left = c.loop-line.left in
    let l = c.in-Some.line in
    let ls = c.next.new.self in
    let first : c.loop-line.lines ≡ l ∷ ls = search rules in
    let ends : begins_with (codes "end") l.tokens ≡ true = sym c.if-begins_with.ensures.begins in
    let all : items_from last most_items most_steps c.args.lines ≡ all_behind items (items_from last (most_items - length items) left (l ∷ ls)) = sym c.loop-line.invariant.same ∙ ap (λ lines. all_behind items (items_from last (most_items - length items) left lines)) first in
    record { reads = all ∙ (items-end last (most_items - length items) left items l ls ends ∙ (ap (all_behind items) c.in_ok-nothing_behind.ensures.nothing ∙ ap (λ xs. Ok xs) (append-nil items))) }

pub returns-in_err-item : goal.returns-in_err-item
returns-in_err-item c =
    let p = err_from_is_err_and c.from_residual-in_err-item.result c.from_residual-in_err-item.ensures.1 in
    let fail = c.in_err-item.field-0.0 in
    let failed : c.from_residual-in_err-item.result ≡ Err fail = p.1 ∙ ap (λ e. Err e) p.2 in
    let last = c.args.text.now in
    let items = c.loop-line.items in
    let left = c.loop-line.left in
    let l = c.in-Some.line in
    let ls = c.next.new.self in
    let opening = c.in-Ok.opening in
    let first : c.loop-line.lines ≡ l ∷ ls = search rules in
    let other : begins_with (codes "end") l.tokens ≡ false = sym c.if-begins_with.ensures.begins in
    let opens : opening_from (ltb (length items) most_items) left l.tokens ≡ Ok opening = rw c.len.ensures.counted at c.in-Ok.ensures.opening in
    let all : items_from last most_items most_steps c.args.lines ≡ all_behind items (items_from last (most_items - length items) left (l ∷ ls)) = sym c.loop-line.invariant.same ∙ ap (λ lines. all_behind items (items_from last (most_items - length items) left lines)) first in
    rw failed
    (record { reads = reads_from_lines itself itself fail c.take_item.new.lines (item_from last opening ls) (items_from last most_items most_steps c.args.lines) c.in_err-item.ensures.item (λ refusal e. all ∙ items-broken last left items l ls opening refusal other opens e) })

pub push-requires : goal.push-requires
push-requires c =
    let items = c.loop-line.items in
    let left = c.loop-line.left in
    let l = c.in-Some.line in
    let opens : opening_from (ltb (length items) most_items) left l.tokens ≡ Ok c.in-Ok.opening = rw c.len.ensures.counted at c.in-Ok.ensures.opening in
    record { room = items-room left items l.tokens c.in-Ok.opening opens }

pub loop-line-smaller : goal.loop-line-smaller
loop-line-smaller c =
    let last = c.args.text.now in
    let l = c.in-Some.line in
    let ls = c.next.new.self in
    let first : c.loop-line.lines ≡ l ∷ ls = search rules in
    let shorter = item-shorter last c.in-Ok.opening ls c.take_item.new.lines c.in_ok-item.item c.in_ok-item.ensures.item in
    omega (arith, ap length first, shorter)

pub loop-line-preserved : goal.loop-line-preserved
loop-line-preserved c =
    let last = c.args.text.now in
    let items = c.loop-line.items in
    let left = c.loop-line.left in
    let l = c.in-Some.line in
    let ls = c.next.new.self in
    let opening = c.in-Ok.opening in
    let item = c.in_ok-item.item in
    let first : c.loop-line.lines ≡ l ∷ ls = search rules in
    let other : begins_with (codes "end") l.tokens ≡ false = sym c.if-begins_with.ensures.begins in
    let opens : opening_from (ltb (length items) most_items) left l.tokens ≡ Ok opening = rw c.len.ensures.counted at c.in-Ok.ensures.opening in
    let all : items_from last most_items most_steps c.args.lines ≡ all_behind items (items_from last (most_items - length items) left (l ∷ ls)) = sym c.loop-line.invariant.same ∙ ap (λ lines. all_behind items (items_from last (most_items - length items) left lines)) first in
    let longer : length (items ++ item ∷ []) ≡ length items + 1 = length-append items (item ∷ []) in
    let fewer : c.saturating_sub-left.result ≡ left - steps_of item = c.saturating_sub-left.ensures ∙ ap (λ n. left - n) c.steps_of.ensures.steps in
    let room = items-room left items l.tokens opening opens in
    let most = c.loop-line.invariant.left in
    rw (c.in_ok-push.ensures.ok, longer, fewer)
    (record {
      can = tt;
      ends = tt;
      few = omega arith;
      left = omega arith;
      same = sym (items-next last left items l ls c.take_item.new.lines opening item other opens c.in_ok-item.ensures.item) ∙ sym all;
    })
