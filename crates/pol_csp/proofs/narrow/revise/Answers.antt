use Rattle.std.proofs.Common.{List, ℕ, get_or}
use Rattle.std.specs.Prelude.{Contains}
use Rattle.pol_relation.specs.Instances.{read_at}
use Rattle.pol_csp.specs.Narrowing.{HasBit}
use Rattle.pol_csp.proofs.Narrowing.{narrows_step, rejects_step}
use Rattle.pol_csp.proofs.Revising.{supported}
use Rattle.pol_csp.proofs.narrow.revise.Goals as goal

pub returns-then-not-meet-clause-wiped : goal.returns-then-not-meet-clause-wiped
returns-then-not-meet-clause-wiped c =
    let scope = c.args.scope.now in
    let rows = c.args.r.now.rows in
    let Reads : List ℕ → Type 0 = λ xs. Contains rows (read_at xs scope) in
    rejects_step Reads (HasBit (get_or scope c.loop-place.place 0)
    (get_or c.supports-found.result c.loop-place.place 0)) c.args.masks.now c.loop-place.masks
    c.loop-place.invariant
    (λ xs w k. supported rows c.args.masks.now c.loop-place.masks scope c.supports-found.result xs Reads
    c.loop-place.invariant c.requires.cells c.supports-found.ensures.supports w k c.loop-place.place
    c.loop-place-test.true)
    c.if-not-meet.ensures.wiped

pub loop-place-preserved : goal.loop-place-preserved
loop-place-preserved c =
    let scope = c.args.scope.now in
    let rows = c.args.r.now.rows in
    let Reads : List ℕ → Type 0 = λ xs. Contains rows (read_at xs scope) in
    narrows_step Reads (HasBit (get_or scope c.loop-place.place 0)
    (get_or c.supports-found.result c.loop-place.place 0)) c.args.masks.now c.loop-place.masks c.meet.new.masks
    c.loop-place.invariant
    (λ xs w k. supported rows c.args.masks.now c.loop-place.masks scope c.supports-found.result xs Reads
    c.loop-place.invariant c.requires.cells c.supports-found.ensures.supports w k c.loop-place.place
    c.loop-place-test.true)
    c.if-not-meet.ensures.narrows
