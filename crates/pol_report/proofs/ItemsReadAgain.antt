-- What is printed of items is read again as the items.
use Rattle.std.proofs.Common.{◌≡◌, ℕ, zero, suc, ◌+◌, ◌-◌, ◌^◌, ◌<◌, ◌≤◌, true, false, List, [], ◌∷◌, ◌++◌, length, map, flat_map, sum_by, All, Result, Ok, refl, ap, sym, ◌∙◌, subst, arith, codes, append_assoc, append-nil}
use Rattle.std.proofs.lemmas.List.Elements.{All-head, All-tail, All-cons, recursion_from_All}
use Rattle.std.proofs.lemmas.List.Sums.{sum_by-cons}
use Rattle.pol_text.specs.Lines.{LineView, lines_of, significant_among}
use Rattle.pol_text.specs.Reading.{begins_with, Reads}
use Rattle.pol_text.specs.Texts.{line_front}
use Rattle.pol_text.specs.declared.refusal.ReadFail.{ReadFail}
use Rattle.pol_text.specs.declared.word.Word.{Word}
use Rattle.pol_text.proofs.PrintedLines.{IsPrintedLine, printed_lines, views_of, significant_among-printed}
use Rattle.pol_report.specs.declared.item.Item.{Item}
use Rattle.pol_report.specs.declared.item.Item.TheVariants as item
use Rattle.pol_report.specs.declared.opening.Opening.{Opening}
use Rattle.pol_report.specs.Limits.{most_items, most_steps}
use Rattle.pol_report.specs.Printable.{IsPrintableStep, IsPrintablePart, ArePrintableSizes, IsPrintable}
use Rattle.pol_report.specs.Reports.{steps_of, report_text, ArePrintableItems}
use Rattle.pol_report.specs.Certificates.{step_from, part_from, sizes_from}
use Rattle.pol_report.specs.Openings.{opening_from}
use Rattle.pol_report.specs.Grammar.{line_from, lines_from, item_from, items_from, report_header, report_from, items_of}
use Rattle.pol_report.specs.Reading.{itself}
use Rattle.pol_report.proofs.ItemLines.{step_tokens, part_tokens, sizes_tokens, first_tokens, further_lines, item_lines, head_tokens, end_tokens, lines_to_end, report_text-lines, lines_to_end-printed}
use Rattle.pol_report.proofs.TokensReadAgain.{step-read, part-read, sizes-read}
use Rattle.pol_report.proofs.OpeningsReadAgain.{opening_of, opening-read}

-- ---- the lines behind the first one of an item

-- printed lines are read one behind another
lines-read : {A : Type 0} (read : List (List ℕ) → Result A Word) (spell : A → List (List ℕ)) (Fits : A → Type 0) → ((x : A) → Fits x → read (spell x) ≡ Ok x) → (last number place : ℕ) (xs : List A) (ls : List LineView) → All Fits xs → lines_from last read (length xs) (views_of number place (map spell xs) ++ ls) ≡ Ok (xs, ls)
lines-read read spell Fits again last number place [] ls each = refl
lines-read read spell Fits again last number place (x ∷ xs) ls each =
    rw (again x (All-head Fits x xs each), lines-read read spell Fits again last (number + 1) (place + length (line_front (spell x) ++ 10 ∷ [])) xs ls (All-tail Fits x xs each)) refl

sizes_line-read : (last number place : ℕ) (sizes : List ℕ) (ls : List LineView) → ArePrintableSizes sizes → line_from last sizes_from (views_of number place (sizes_tokens sizes ∷ []) ++ ls) ≡ Ok (sizes, ls)
sizes_line-read last number place sizes ls are = rw (sizes-read sizes are) refl

-- what the first line opens is read as the item
item-read : (it : Item) (last number place : ℕ) (ls : List LineView) → IsPrintable it → item_from last (opening_of it) (views_of number place (further_lines it) ++ ls) ≡ Ok (it, ls)
item-read (item.ClassTable class cells) last number place ls is = refl
item-read (item.ClassNone class) last number place ls is = refl
item-read item.ClassBeyond last number place ls is = refl
item-read (item.Yes name class values) last number place ls is = refl
item-read (item.YesSizes name values sizes) last number place ls is = rw (sizes_line-read last number place sizes ls is.sized) refl
item-read (item.NoLog name class log) last number place ls is = rw (lines-read step_from step_tokens IsPrintableStep step-read last number place log ls is.steps.each) refl
item-read (item.NoSum name sum) last number place ls is = rw (lines-read part_from part_tokens IsPrintablePart part-read last number place sum.parts ls is.combination.parts.each) refl
item-read (item.NoSizes name sizes) last number place ls is = rw (sizes_line-read last number place sizes ls is.sized) refl
item-read (item.Undecided name) last number place ls is = refl

-- ---- items

-- lines behind others, as they are read
record Behind (xs ys : List (List (List ℕ))) (number place : ℕ) : Type 0 where
  number_behind : ℕ
  place_behind : ℕ
  same : views_of number place (xs ++ ys) ≡ views_of number place xs ++ views_of number_behind place_behind ys

views-behind : (xs ys : List (List (List ℕ))) (number place : ℕ) → Behind xs ys number place
views-behind [] ys number place = record { number_behind = number; place_behind = place; same = refl }
views-behind (x ∷ xs) ys number place =
    let after_x = place + length (line_front x ++ 10 ∷ []) in
    let rest = views-behind xs ys (number + 1) after_x in
    record {
      number_behind = rest.number_behind;
      place_behind = rest.place_behind;
      same = ap (λ ls. record { number = number; tokens = x; after = after_x } ∷ ls) rest.same;
    }

no_end : (it : Item) → begins_with (codes "end") (first_tokens it) ≡ false
no_end (item.ClassTable class cells) = refl
no_end (item.ClassNone class) = refl
no_end item.ClassBeyond = refl
no_end (item.Yes name class values) = refl
no_end (item.YesSizes name values sizes) = refl
no_end (item.NoLog name class log) = refl
no_end (item.NoSum name sum) = refl
no_end (item.NoSizes name sizes) = refl
no_end (item.Undecided name) = refl

-- one item in front of others
one-more : (last room left : ℕ) (l : LineView) (opening : Opening) (it : Item) (ls behind : List LineView) (items : List Item) → begins_with (codes "end") l.tokens ≡ false → opening_from true left l.tokens ≡ Ok opening → item_from last opening ls ≡ Ok (it, behind) → items_from last room (left - steps_of it) behind ≡ Ok items → items_from last (suc room) left (l ∷ ls) ≡ Ok (it ∷ items)
one-more last room left l opening it ls behind items other opens completes rest = rw (other, opens, completes, rest) refl

-- printed items are read one behind another, up to the last line
items-read : (last room left number place : ℕ) (items : List Item) → All IsPrintable items → length items ≤ room → left < 10 ^ 9 → sum_by steps_of items ≤ left → items_from last room left (views_of number place (lines_to_end items)) ≡ Ok items
items-read last zero left number place [] each few small few_steps = refl
items-read last (suc room) left number place [] each few small few_steps = refl
items-read last zero left number place (it ∷ items) each few small few_steps = absurd (omega arith)
items-read last (suc room) left number place (it ∷ items) each few small few_steps =
    let is = All-head IsPrintable it items each in
    let after_first = place + length (line_front (first_tokens it) ++ 10 ∷ []) in
    let l : LineView = record { number = number; tokens = first_tokens it; after = after_first } in
    let apart = append_assoc (further_lines it) (flat_map item_lines items) (end_tokens ∷ []) in
    let views = views-behind (further_lines it) (lines_to_end items) (number + 1) after_first in
    let later = views_of views.number_behind views.place_behind (lines_to_end items) in
    let rest = items-read last room (left - steps_of it) views.number_behind views.place_behind items (All-tail IsPrintable it items each) (omega arith) (omega arith) (omega (arith, sum_by-cons steps_of it items)) in
    rw (apart, views.same)
    (one-more last room left l (opening_of it) it (views_of (number + 1) after_first (further_lines it) ++ later) later items (no_end it) (opening-read it left is small (omega (arith, sum_by-cons steps_of it items))) (item-read it last (number + 1) after_first later is) rest)

-- ---- reports

header-read : report_header head_tokens ≡ Ok 1
unfolding report_header
header-read = refl

report-read : (last : ℕ) (l : LineView) (ls : List LineView) (items : List Item) → l.tokens ≡ head_tokens → items_from last most_items most_steps ls ≡ Ok items → report_from last (l ∷ ls) ≡ Ok items
report-read last l ls items head rest = rw (head, header-read, rest) refl

-- the lines of a report of printable items are read as these items, wherever they stand
pub report_from-printed : (last number place : ℕ) (items : List Item) → ArePrintableItems items → report_from last (significant_among number place (lines_of (report_text items))) ≡ Ok items
report_from-printed last number place items are =
    let lines = lines_to_end items in
    let all = head_tokens ∷ lines in
    let printed = recursion_from_All IsPrintedLine all (All-cons IsPrintedLine head_tokens lines (record { printed = refl; significant = refl }) (lines_to_end-printed items are.each)) in
    let after_head = place + length (line_front head_tokens ++ 10 ∷ []) in
    let views = ap (λ bytes. significant_among number place (lines_of bytes)) (report_text-lines items ∙ sym (append-nil (printed_lines all))) ∙ (significant_among-printed number place all [] printed ∙ append-nil (views_of number place all)) in
    let rest = items-read last most_items most_steps (number + 1) after_head items are.each are.few (omega arith) are.few_steps in
    ap (report_from last) views ∙ report-read last (record { number = number; tokens = head_tokens; after = after_head }) (views_of (number + 1) after_head lines) items refl rest

-- the report of printable items is read again as these items
pub items_of-printed : (items : List Item) (line : ℕ) → ArePrintableItems items → items_of (report_text items) line ≡ Ok items
unfolding items_of
items_of-printed items line are = report_from-printed (line + length (lines_of (report_text items))) line 0 items are

-- and so a call that reads it answers them
pub reads-printed : (result : Result (List Item) ReadFail) (bytes : List ℕ) (line : ℕ) → Reads itself result (items_of bytes line) → (items : List Item) → ArePrintableItems items → bytes ≡ report_text items → Reads itself result (Ok items)
reads-printed result bytes line reads items are same = subst (Reads itself result) (ap (λ text. items_of text line) same ∙ items_of-printed items line are) reads
