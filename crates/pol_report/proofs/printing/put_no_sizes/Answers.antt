use Rattle.std.proofs.Common.{[], ◌∷◌, refl, codes}
use Rattle.pol_report.specs.Texts.{instance_line, sizes_line}
use Rattle.pol_report.proofs.PrintLemmas.{cut_first, last_call}
use Rattle.pol_report.proofs.printing.put_no_sizes.Goals as goal

pub returns-in_err-put_no_maltsev-clause-puts : goal.returns-in_err-put_no_maltsev-clause-puts
returns-in_err-put_no_maltsev-clause-puts g c =
    cut_first c.from_residual.result _ _ (instance_line c.args.name.now (codes "no" ∷ codes "maltsev" ∷ [])) (sizes_line c.args.sizes.now) _ c.from_residual.ensures.0 c.in_err-put_no_maltsev.ensures.puts refl

pub returns-clause-puts : goal.returns-clause-puts
returns-clause-puts g c =
    last_call c.put_sizes.result _ _ _ (instance_line c.args.name.now (codes "no" ∷ codes "maltsev" ∷ [])) (sizes_line c.args.sizes.now) _ c.in_ok-put_no_maltsev.ensures.puts c.put_sizes.ensures.puts refl
