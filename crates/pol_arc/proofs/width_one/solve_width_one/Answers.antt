use Rattle.pol_relation.specs.Instances.{IsSolution}
use Rattle.pol_nogood.proofs.LogSound.{valid_log_sound}
use Rattle.pol_optable.specs.SetFunctions.{value_of_set}
use Rattle.pol_arc.specs.Answers.{DomainsAreGreatest, WipedHasCertificate}
use Rattle.pol_arc.proofs.WidthOne.{width_one}
use Rattle.std.proofs.Common.{sym, ap, ◌∙◌, subst}
use Rattle.std.specs.Prelude.{map}
use Rattle.pol_arc.proofs.width_one.solve_width_one.Goals as goal

pub returns-in_ok-values_of-in-Domains-clause-yes : goal.returns-in_ok-values_of-in-Domains-clause-yes
returns-in_ok-values_of-in-Domains-clause-yes c =
    let lang = c.args.lang.now in
    let inst = c.args.inst.now in
    let g = c.args.g.now in
    let greatest = subst (DomainsAreGreatest lang inst) c.in-Domains.is c.in_ok-masks.ensures.domains in
    subst (IsSolution lang inst) (sym (c.in_ok-values_of-in-Domains.ensures.values ∙ ap (map (value_of_set g)) c.as_slice.ensures.items))
    (width_one lang inst g c.domain.ensures.language c.requires.fits c.domain-2.ensures.set_function c.requires.domain c.requires.preserves _ greatest.0.are_masks greatest.1 greatest.0.consistent)

pub returns-in-Wiped-clause-no_only_without_solution : goal.returns-in-Wiped-clause-no_only_without_solution
returns-in-Wiped-clause-no_only_without_solution c =
    let certificate = subst (WipedHasCertificate c.args.lang.now c.args.inst.now) c.in-Wiped.is c.in_ok-masks.ensures.certificate in
    valid_log_sound c.args.lang.now c.args.inst.now c.in-Wiped.log certificate.valid
