use Rattle.std.proofs.Common.{◌++◌, ap, ◌∙◌, subst}
use Rattle.pol_optable.specs.Choices.{AreLines}
use Rattle.pol_gen.specs.Files.{made_file}
use Rattle.pol_cli.specs.Summaries.{summary_text}
use Rattle.pol_cli.proofs.SummaryLaws.{summary_made}
use Rattle.pol_cli.proofs.summary.summary.Goals as goal

pub returns : goal.returns
returns c =
    let file = c.in_ok-file.file in
    let classes = c.in_ok-classes.classes in
    let text = summary_text c.args.number c.first.result c.tables.result c.in_ok-tally.tally in
    record {
      summary = summary_made file c.args.number classes c.first.result c.tables.result c.in_ok-tally.tally _
          (c.in_ok-file.ensures.made ∙ ap (λ n. made_file n) c.from.ensures)
          (subst (λ lang. AreLines lang classes) c.lang.ensures.language c.in_ok-classes.ensures.lines)
          c.first.ensures.first c.tables.ensures.count c.in_ok-tally.ensures.tally
          (c.in_ok-put_summary.ensures.ok ∙ ap (λ old. old ++ text) c.new-text.ensures.empty);
    }
