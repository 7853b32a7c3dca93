-- The grammar of reports: which texts are accepted, as which items, and the first refusal of every other text.
use Rattle.std.specs.Prelude.{ℕ, zero, suc, ◌+◌, ◌-◌, ◌==◌, true, false}
use Rattle.std.specs.Prelude.{if◌then◌else◌, List, [], ◌∷◌, length, Result, Ok, Err, codes}
use Rattle.pol_text.specs.Lines.{LineView, lines_of, significant_lines, token_at, number_of}
use Rattle.pol_text.specs.Reading.{unless, after_number, after_line, begins_with, end_line}
use Rattle.pol_text.specs.declared.refusal.Refusal.{Refusal}
use Rattle.pol_text.specs.declared.word.Word.{Word}
use Rattle.pol_text.specs.declared.word.Word.TheVariants.{NoHeader, BadVersion, Ended, AfterEnd}
use Rattle.pol_report.specs.declared.item.Item.{Item}
use Rattle.pol_report.specs.declared.item.Item.TheVariants as item
use Rattle.pol_report.specs.declared.opening.Opening.{Opening}
use Rattle.pol_report.specs.declared.opening.Opening.TheVariants.{Whole, Steps, Parts, SizesOfYes, SizesOfNo}
use Rattle.pol_report.specs.Limits.{most_items, most_steps}
use Rattle.pol_report.specs.Reports.{steps_of}
use Rattle.pol_report.specs.Tokens.{after, counted}
use Rattle.pol_report.specs.Certificates.{step_from, part_from, sizes_from}
use Rattle.pol_report.specs.Openings.{opening_from}

-- ---- lines; `last` is the number of the line that would come next behind all of them

-- the next line as it is judged
abbrev pub line_from : {A : Type 0} → ℕ → (List (List ℕ) → Result A Word) → List LineView
    → Result (A × List LineView) Refusal
line_from last judge [] = Err (record { line = last; word = Ended })
line_from last judge (l ∷ ls) =
    after_line l (judge l.tokens) (λ x.
    Ok (x, ls))

-- so many lines
abbrev pub lines_from : {A : Type 0} → ℕ → (List (List ℕ) → Result A Word) → ℕ → List LineView
    → Result (List A × List LineView) Refusal
lines_from last judge n ls = counted (line_from last judge) n ls

-- ---- items

-- the item with the lines behind its first one
abbrev pub item_from : ℕ → Opening → List LineView → Result (Item × List LineView) Refusal
item_from last (Whole item) ls = Ok (item, ls)
item_from last (Steps name class count) ls =
    after (lines_from last step_from count ls) (λ log.
    Ok (item.NoLog name class log.0, log.1))
item_from last (Parts name labels count) ls =
    after (lines_from last part_from count ls) (λ parts.
    Ok (item.NoSum name (record { labels = labels; parts = parts.0 }), parts.1))
item_from last (SizesOfYes name values) ls =
    after (line_from last sizes_from ls) (λ sizes.
    Ok (item.YesSizes name values sizes.0, sizes.1))
item_from last (SizesOfNo name) ls =
    after (line_from last sizes_from ls) (λ sizes.
    Ok (item.NoSizes name sizes.0, sizes.1))

-- behind the line `end` no line is significant
abbrev pub nothing_behind : List LineView → Result (List Item) Refusal
nothing_behind [] = Ok []
nothing_behind (l ∷ ls) = Err (record { line = l.number; word = AfterEnd })

-- the line `end`, or else what comes next
abbrev pub unless_end : LineView → List LineView → Result (List Item) Refusal → Result (List Item) Refusal
unless_end l ls next =
    if begins_with (codes "end") l.tokens
    then after_line l (end_line l.tokens) (λ _. nothing_behind ls)
    else next

-- the items up to the line `end`, where so many items and so many steps may still be read
abbrev pub items_from : ℕ → ℕ → ℕ → List LineView → Result (List Item) Refusal
items_from last room left [] = Err (record { line = last; word = Ended })
items_from last zero left (l ∷ ls) =
    unless_end l ls
    (after_line l (opening_from false left l.tokens) (λ _. Ok []))
items_from last (suc room) left (l ∷ ls) =
    unless_end l ls
    (after_line l (opening_from true left l.tokens) (λ opening.
    after (item_from last opening ls) (λ item.
    after (items_from last room (left - steps_of item.0) item.1) (λ items.
    Ok (item.0 ∷ items)))))

-- ---- texts

-- `polyanna-report 1`, which gives the version
unfoldable pub report_header : List (List ℕ) → Result ℕ Word
report_header tokens =
    unless (begins_with (codes "polyanna-report") tokens) NoHeader
    (unless (length tokens == 2) BadVersion
    (after_number (number_of (token_at tokens 1)) BadVersion (λ version.
    unless (version == 1) BadVersion
    (Ok version))))

-- all significant lines
abbrev pub report_from : ℕ → List LineView → Result (List Item) Refusal
report_from last [] = Err (record { line = last; word = NoHeader })
report_from last (l ∷ ls) =
    after_line l (report_header l.tokens) (λ _.
    items_from last most_items most_steps ls)

-- the items of the text whose first line has the number, or its first refusal; a text that ends
-- early is refused behind its last line
unfoldable pub items_of : List ℕ → ℕ → Result (List Item) Refusal
items_of bytes line = report_from (line + length (lines_of bytes)) (significant_lines line bytes)
