use Rattle.std.proofs.Common.{◌≡◌, ◌∙◌, ◌<◌, sym, ap, subst, arith, length, take}
use Rattle.pol_relation.specs.Instances.{read_at}
use Rattle.pol_csp.proofs.SharedMasks.{IsSharing, firsts_inside, sharing_first, read_for, sharing_more, sharing_none}
use Rattle.pol_csp.proofs.SharedMasks.{sharing_all}
use Rattle.pol_csp.proofs.variables.shared_masks.Goals as goal

pub spread-firsts-requires-clause-known : goal.spread-firsts-requires-clause-known
spread-firsts-requires-clause-known c =
    let variables = c.args.variables.now in
    let of_cells = variables.of_cells.items in
    rw c.as_slice.ensures.value
    (firsts_inside variables.firsts.items of_cells c.args.masks.now c.requires.variables c.requires.cells)

pub loop-cell-init : goal.loop-cell-init
loop-cell-init c =
    let variables = c.args.variables.now in
    let masks = c.args.masks.now in
    let len : c.len.result ≡ length c.as_slice.result.now = c.len.ensures ∙ sym c.as_slice.ensures.len in
    let taken : c.in_ok-shared.shared.items ≡ read_at masks c.as_slice.result.now =
    c.in_ok-shared.ensures.items ∙ ap (λ n. take n c.spread-firsts.result) len ∙ c.spread-firsts.ensures.read in
    let read : c.in_ok-shared.shared.items ≡ read_at masks variables.firsts.items =
    taken ∙ ap (λ firsts. read_at masks firsts) c.as_slice.ensures.value in
    rw read (sharing_first variables.firsts.items variables.of_cells.items masks c.requires.variables c.requires.cells)

-- a variable is left without a value
pub returns-then-left-eq0 : goal.returns-then-left-eq0
returns-then-left-eq0 c =
    let firsts = c.args.variables.now.firsts.items in
    let variables = c.args.variables.now.of_cells.items in
    let masks = c.args.masks.now in
    let cell = c.loop-cell.cell in
    let shared = c.loop-cell.shared.items in
    let inside : cell < length variables = omega (arith, c.loop-cell-test.true, c.requires.cells) in
    let read = read_for firsts variables masks c.requires.variables c.requires.cells
    cell c.index.result.now c.index-in-loop-cell.result.now shared inside c.loop-cell.invariant
    c.index.ensures c.index-in-loop-cell.ensures in
    record {
      shared = sharing_none firsts variables masks c.requires.variables c.requires.cells cell shared inside
          c.loop-cell.invariant (rw read.mask at c.if-left-eq0.true);
    }

pub loop-cell-preserved : goal.loop-cell-preserved
loop-cell-preserved c =
    let firsts = c.args.variables.now.firsts.items in
    let variables = c.args.variables.now.of_cells.items in
    let masks = c.args.masks.now in
    let cell = c.loop-cell.cell in
    let shared = c.loop-cell.shared.items in
    let inside : cell < length variables = omega (arith, c.loop-cell-test.true, c.requires.cells) in
    let read = read_for firsts variables masks c.requires.variables c.requires.cells
    cell c.index.result.now c.index-in-loop-cell.result.now shared inside c.loop-cell.invariant
    c.index.ensures c.index-in-loop-cell.ensures in
    rw (read.mask, read.variable)
    (sharing_more firsts variables masks c.requires.variables c.requires.cells cell shared inside
    c.loop-cell.invariant (rw read.mask at c.if-left-eq0.false))

pub returns : goal.returns
returns c =
    let firsts = c.args.variables.now.firsts.items in
    let variables = c.args.variables.now.of_cells.items in
    let masks = c.args.masks.now in
    let done : c.loop-cell.cell ≡ length masks = omega (arith, c.loop-cell-test.false, c.loop-cell.auto.cell-end) in
    record {
      shared = sharing_all firsts variables masks c.requires.variables c.requires.cells c.loop-cell.shared.items
          (subst (λ n. IsSharing firsts variables masks n c.loop-cell.shared.items) done c.loop-cell.invariant);
    }
