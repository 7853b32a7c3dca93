-- What the verdicts on the items of a report are, and what a run writes of them.
use Rattle.std.specs.Prelude.{◌≡◌, ℕ, Bool, true, false, if◌then◌else◌, List, ◌++◌, zip}
use Rattle.std.specs.List.{AllZip, list_any}
use Rattle.pol_text.specs.Texts.{joined}
use Rattle.pol_report.specs.declared.item.Item.{Item}
use Rattle.pol_report.specs.Texts.{last_line}
use Rattle.pol_lang.specs.Files.{FileView}
use Rattle.pol_checker.specs.declared.verdict.Verdict.{Verdict}
use Rattle.pol_checker.specs.declared.verdict.Verdict.TheVariants.{Rejected}
use Rattle.pol_checker.specs.Verdicts.{IsVerdict}
use Rattle.pol_checker.specs.VerdictTexts.{verdict_line}
use Rattle.pol_cli.specs.declared.ended.Ended.{Ended}
use Rattle.pol_cli.specs.declared.ended.Ended.TheVariants as ended

-- the verdict is that the item is rejected
abbrev pub is_rejected : Verdict → Bool
is_rejected (Rejected cause) = true
is_rejected verdict = false

-- one of the verdicts is
abbrev pub has_rejected : List Verdict → Bool
has_rejected verdicts = list_any is_rejected verdicts

-- how a run ends that writes the verdicts
abbrev pub verdicts_ending : List Verdict → Ended
verdicts_ending verdicts = if has_rejected verdicts then ended.Rejected else ended.Done

-- the line of each verdict on its item
abbrev pub verdict_lines : List Item → List Verdict → List ℕ
verdict_lines items verdicts = joined (λ judged. verdict_line judged.0 judged.1) (zip items verdicts)

-- the verdict on each of the items in their order
abbrev pub AreVerdicts : FileView → List Item → List Verdict → Type 0
AreVerdicts file items verdicts = AllZip (IsVerdict file) items verdicts

-- the text is the lines of the verdicts, and whether one of them is rejected is told
pub record AreJudged (file : FileView) (items : List Item) (text : List ℕ) (rejected : Bool) : Type 0 where
  pub verdicts : List Verdict
  pub right : AreVerdicts file items verdicts
  pub text_is : text ≡ verdict_lines items verdicts
  pub rejected_is : rejected ≡ has_rejected verdicts

-- new is old and the line of the verdict on the item behind it, and whether that is rejected is told
pub record AppendsVerdict (file : FileView) (item : Item) (old new : List ℕ) (rejected : Bool) : Type 0 where
  pub verdict : Verdict
  pub right : IsVerdict file item verdict
  pub appended : new ≡ old ++ verdict_line item verdict
  pub rejected_is : rejected ≡ is_rejected verdict

-- the text is the lines of the verdicts and the last line behind them, and the run ends as the verdicts say
pub record IsChecked (file : FileView) (items : List Item) (text : List ℕ) (ending : Ended) : Type 0 where
  pub verdicts : List Verdict
  pub right : AreVerdicts file items verdicts
  pub text_is : text ≡ verdict_lines items verdicts ++ last_line
  pub ending_is : ending ≡ verdicts_ending verdicts
