use Rattle.std.proofs.Common.{subst}
use Rattle.pol_base.specs.Masks.{AreMasks}
use Rattle.pol_indicator.specs.Ruled.{IsRuledProblem}
use Rattle.pol_indicator.proofs.ClosedLemmas.{none_wanted, least_answered}
use Rattle.pol_indicator.proofs.least.least_op.Goals as goal

pub returns-in-Some-clause-least : goal.returns-in-Some-clause-least
returns-in-Some-clause-least g c =
    let lang = c.args.lang.now in
    let identity = c.args.identity.now in
    let domain = c.domain.ensures.domain in
    let ruled = subst (λ d. IsRuledProblem d g.row.K (g.I.Identity.rule_of identity d) c.in_ok-cells.cells) domain c.in_ok-cells.ensures.ruled in
    let masks = subst (λ d. AreMasks d c.in_ok-cells.cells.masks) ruled.domain_is c.masks.ensures.problem.are_masks in
    let least = rw (c.masks.ensures.masks, c.ties.ensures.ties, c.in_ok-closed.ensures.identity, c.in-Some.is) at c.in_ok-values.ensures.least in
    let made = rw (c.domain-in-Some.ensures.domain, c.as_slice.ensures.items) at c.from_cells.ensures.made in
    let none = rw (c.domain-in-Some.ensures.domain, c.as_slice.ensures.items) at c.from_cells.ensures.none in
    least_answered lang c.domain.ensures.language.domain_is g.row.K c.requires.few_arguments c.requires.few_cells (g.I.Identity.satisfies identity) (g.I.Identity.rule_of identity lang.domain) c.in_ok-cells.cells
    (λ cells is holds. g.met.I.Identity.obeys identity _ is c.requires.suited holds) ruled masks c.in-Some.values c.from_cells.result least made none

pub returns-clause-least : goal.returns-clause-least
returns-clause-least g c =
    let lang = c.args.lang.now in
    let identity = c.args.identity.now in
    let domain = c.domain.ensures.domain in
    let ruled = subst (λ d. IsRuledProblem d g.row.K (g.I.Identity.rule_of identity d) c.in_ok-cells.cells) domain c.in_ok-cells.ensures.ruled in
    let masks = subst (λ d. AreMasks d c.in_ok-cells.cells.masks) ruled.domain_is c.masks.ensures.problem.are_masks in
    let none = rw (c.masks.ensures.masks, c.ties.ensures.ties, c.in_ok-closed.ensures.identity, c.in-None.is) at c.in_ok-values.ensures.least in
    none_wanted lang c.domain.ensures.language.domain_is g.row.K c.requires.few_arguments c.requires.few_cells (g.I.Identity.satisfies identity) (g.I.Identity.rule_of identity lang.domain) c.in_ok-cells.cells
    (λ cells is holds. g.met.I.Identity.obeys identity _ is c.requires.suited holds) ruled masks none
