-- What a reader of a summary may rely on.
use Rattle.std.proofs.Common.{◌≡◌, ℕ, ◌+◌, List, length, Option, sym, ap, ◌∙◌, subst}
use Rattle.pol_base.specs.declared.class_name.ClassName.{ClassName}
use Rattle.pol_optable.specs.ClassLines.{Serves, all_classes}
use Rattle.pol_optable.specs.Choices.{HasTable, FirstFound, AreLines, line_in}
use Rattle.pol_optable.specs.declared.classes.Classes.{Classes}
use Rattle.pol_optable.proofs.LineLemmas.{one_choice, serving, not_serving}
use Rattle.pol_optable.proofs.ChoiceLemmas.{first_is_chosen}
use Rattle.pol_lang.specs.Files.{FileView}
use Rattle.pol_gen.specs.Files.{made_file}
use Rattle.pol_cli.specs.Summaries.{Counts, IsTally, IsSummaryOf, IsSummary, summary_text}
use Rattle.pol_cli.specs.Tallies.{IsTallyByFirst}
use Rattle.pol_cli.specs.declared.summary.Tally.{Tally}
use Rattle.pol_cli.proofs.CountLemmas.{counts_same, counts_once}
use Rattle.pol_cli.proofs.TallyLemmas.{tally_once, tally_all}

-- what was found of the file that the number makes makes its summary
pub summary_made :
    (file : FileView) (number : ℕ) (classes : Classes) (first : Option ClassName) (count : ℕ) (tally : Tally) (text : List ℕ)
    → file ≡ made_file number
    → AreLines file.language classes
    → FirstFound classes first
    → Counts (HasTable classes) all_classes count
    → IsTallyByFirst file.language classes file.instances tally
    → text ≡ summary_text number first count tally
    → IsSummary number text
summary_made file number classes first count tally text made lines found counted tallied is =
    let lang = file.language in
    let serve = λ (class : ClassName). serving class lang (line_in classes class) (lines class) in
    let serve_not = λ (class : ClassName). not_serving class lang (line_in classes class) (lines class) in
    subst (λ some. IsSummaryOf some number text) made (record {
      chosen = first;
      chooses = first_is_chosen lang classes lines first found;
      classes = count;
      serving = counts_same (HasTable classes) (Serves lang) all_classes count serve serve_not counted;
      tally = tally;
      tallied = tallied first found;
      text_is = is;
    })

-- a file has one summary
summary_of_once : (file : FileView) (number : ℕ) (one other : List ℕ) → IsSummaryOf file number one → IsSummaryOf file number other → one ≡ other
summary_of_once file number one other is also =
    let chosen = one_choice file.language is.chosen also.chosen is.chooses also.chooses in
    let classes = counts_once (Serves file.language) all_classes is.classes also.classes is.serving also.serving in
    let tallied = subst (λ some. IsTally file.language some file.instances is.tally) chosen is.tallied in
    let tally = tally_once file.language also.chosen file.instances is.tally also.tally tallied also.tallied in
    is.text_is
    ∙ (ap (λ some. summary_text number some is.classes is.tally) chosen
    ∙ (ap (λ n. summary_text number also.chosen n is.tally) classes
    ∙ (ap (λ some. summary_text number also.chosen also.classes some) tally
    ∙ sym also.text_is)))

pub summary_once : (number : ℕ) (one other : List ℕ) → IsSummary number one → IsSummary number other → one ≡ other
summary_once number one other is also = summary_of_once (made_file number) number one other is also

-- each instance of the file is counted once
pub summary_adds_up : (number : ℕ) (text : List ℕ) → (is : IsSummary number text) → is.tally.yes + is.tally.no + is.tally.undecided ≡ length (made_file number).instances
summary_adds_up number text is = tally_all (made_file number).language is.chosen (made_file number).instances is.tally is.tallied
