use Rattle.std.proofs.Common.{◌∙◌, ap}
use Rattle.pol_optable.proofs.ChoiceLemmas.{first_is_chosen}
use Rattle.pol_cli.specs.Reports.{answer_item}
use Rattle.pol_cli.proofs.report.instance_item.Goals as goal

pub returns : goal.returns
returns c =
    let chosen = c.first.result in
    let given = c.in_ok-given.given in
    record {
      item = record {
        chosen = chosen;
        chooses = first_is_chosen c.args.lang.now c.args.classes.now c.requires.lines chosen c.first.ensures.first;
        given = given;
        owed = c.in_ok-given.ensures.answers chosen c.first.ensures.first;
        item_is = c.answer_item.ensures.item ∙ ap (λ name. answer_item name chosen given) (c.in_ok-name.ensures.ok ∙ c.name.ensures.name);
      };
    }
