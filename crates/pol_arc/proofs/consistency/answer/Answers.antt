use Rattle.std.proofs.Common.{◌≤◌, length, arith, subst, ◌∙◌}
use Rattle.pol_arc.specs.Pruned.{IsWipedLog}
use Rattle.pol_arc.proofs.PruningLemmas.{few_pruned, wiped_certificate}
use Rattle.pol_arc.proofs.consistency.answer.Goals as goal

pub wiped_log-requires-clause-room : goal.wiped_log-requires-clause-room
wiped_log-requires-clause-room c =
    let few : length c.args.log ≤ 201 = few_pruned c.args.lang.now c.args.inst.now c.args.masks.now c.args.log c.domain-d.ensures.language.domain_is.few c.requires.few_variables c.requires.pruned in
    omega arith

pub returns-in_ok-wiped_log-in-Some-clause-certificate : goal.returns-in_ok-wiped_log-in-Some-clause-certificate
returns-in_ok-wiped_log-in-Some-clause-certificate c =
    wiped_certificate c.args.lang.now c.args.inst.now c.args.masks.now c.args.log c.in_ok-wiped_log-in-Some.field-0 c.in-Some.v c.requires.pruned (omega (arith, c.in-Some.ensures.known, c.requires.pruned.are_masks.long))
    (subst (λ d. IsWipedLog c.args.log c.in-Some.v d c.in_ok-wiped_log-in-Some.field-0) (c.size-size.ensures.size ∙ c.domain-d.ensures.domain) c.in_ok-wiped_log-in-Some.ensures.log)
