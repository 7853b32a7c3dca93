-- Reports: items, and the text of them.
use Rattle.std.specs.Prelude.{ℕ, ◌≤◌, List, ◌++◌, length, sum_by, All}
use Rattle.pol_text.specs.Texts.{joined}
use Rattle.pol_report.specs.declared.item.Item.{Item}
use Rattle.pol_report.specs.declared.item.Item.TheVariants as item
use Rattle.pol_report.specs.Limits.{most_items, most_steps}
use Rattle.pol_report.specs.Texts.{head_line, last_line, item_text}
use Rattle.pol_report.specs.Printable.{IsPrintable}

-- the steps of the item's log
abbrev pub steps_of : Item → ℕ
steps_of (item.NoLog name class log) = length log
steps_of item = 0

-- the report of the items
abbrev pub report_text : List Item → List ℕ
report_text items = head_line ++ joined item_text items ++ last_line

-- items of which a report may be
pub record ArePrintableItems (items : List Item) : Type 0 where
  pub each : All IsPrintable items
  pub few : length items ≤ most_items
  pub few_steps : sum_by steps_of items ≤ most_steps
