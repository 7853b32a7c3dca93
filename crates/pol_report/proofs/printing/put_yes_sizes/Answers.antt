use Rattle.std.proofs.Common.{refl}
use Rattle.pol_base.specs.declared.class_name.ClassName.TheVariants.{Maltsev}
use Rattle.pol_report.specs.Texts.{yes_item, sizes_line}
use Rattle.pol_report.proofs.PrintLemmas.{cut_first, last_call}
use Rattle.pol_report.proofs.printing.put_yes_sizes.Goals as goal

pub returns-in_err-put_yes-clause-puts : goal.returns-in_err-put_yes-clause-puts
returns-in_err-put_yes-clause-puts g c =
    cut_first c.from_residual.result _ _ (yes_item c.args.name.now Maltsev c.args.values.now) (sizes_line c.args.sizes.now) _ c.from_residual.ensures.0 c.in_err-put_yes.ensures.puts refl

pub returns-clause-puts : goal.returns-clause-puts
returns-clause-puts g c =
    last_call c.put_sizes.result _ _ _ (yes_item c.args.name.now Maltsev c.args.values.now) (sizes_line c.args.sizes.now) _ c.in_ok-put_yes.ensures.puts c.put_sizes.ensures.puts refl
