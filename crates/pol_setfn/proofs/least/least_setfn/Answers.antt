use Rattle.std.proofs.Common.{subst}
use Rattle.pol_setfn.specs.OpenCells.{AreOpen}
use Rattle.pol_setfn.proofs.OpenLemmas.{open_within, open_tied}
use Rattle.pol_setfn.proofs.ClosedLemmas.{none_sought, least_answered}
use Rattle.pol_setfn.proofs.least.least_setfn.Goals as goal

pub returns-in-Some-clause-least : goal.returns-in-Some-clause-least
returns-in-Some-clause-least c =
    let lang = c.args.lang.now in
    let p = c.in_ok-cells.cells in
    let open_cells = subst (λ d. AreOpen d c.args.idempotent p) c.domain.ensures.domain c.in_ok-cells.ensures.cells in
    let least = rw (c.masks.ensures.masks, c.ties.ensures.ties, c.in_ok-closed.ensures.idempotent, c.in-Some.is) at c.in_ok-values.ensures.least in
    let made = rw (c.domain-in-Some.ensures.domain, c.as_slice.ensures.items) at c.from_cells.ensures.made in
    let none = rw (c.domain-in-Some.ensures.domain, c.as_slice.ensures.items) at c.from_cells.ensures.none in
    least_answered lang c.args.idempotent p.masks p.ties (open_within lang.domain c.args.idempotent p open_cells) (open_tied lang.domain c.args.idempotent p open_cells) c.in-Some.values c.from_cells.result least made none

pub returns-clause-least : goal.returns-clause-least
returns-clause-least c =
    let lang = c.args.lang.now in
    let p = c.in_ok-cells.cells in
    let open_cells = subst (λ d. AreOpen d c.args.idempotent p) c.domain.ensures.domain c.in_ok-cells.ensures.cells in
    let none = rw (c.masks.ensures.masks, c.ties.ensures.ties, c.in_ok-closed.ensures.idempotent, c.in-None.is) at c.in_ok-values.ensures.least in
    none_sought lang c.args.idempotent p.masks p.ties (open_within lang.domain c.args.idempotent p open_cells) (open_tied lang.domain c.args.idempotent p open_cells) none
