use Rattle.std.proofs.Common.{◌≡◌, get_or, length, subst, arith}
use Rattle.std.proofs.lemmas.List.{get_or_read}
use Rattle.pol_csp.specs.Variables.{IsNumbered}
use Rattle.pol_csp.proofs.VariableLemmas.{numbered_tied, numbered_free}
use Rattle.pol_csp.proofs.variables.variables_of.Goals as goal
use Rattle.pol_csp.proofs.variables.variables_of.Goals.{then-tie-cell+in_ok-push}
use Rattle.pol_csp.proofs.variables.variables_of.Goals.{else-tie-cell+in_ok-push-2+in_ok-push-3}

pub loop-cell-preserved : goal.loop-cell-preserved
loop-cell-preserved c =
    let ties = c.args.ties.now in
    let cell = c.loop-cell.cell in
    let firsts = c.loop-cell.firsts.items in
    let variables = c.loop-cell.of_cells.items in
    elim c.if-tie-cell.branch [
      | then-tie-cell+in_ok-push w ↦
          let shared : w.index-shared.result.now ≡ get_or variables (get_or ties cell 0) 0 =
          get_or_read variables (get_or ties cell 0) w.index-shared.result.now
          (omega (arith, w.if-tie-cell.true, c.loop-cell.invariant.long)) w.index-shared.ensures 0 in
          rw (w.of_cells-is, w.firsts-is, w.in_ok-push.ensures.items, shared)
          (numbered_tied ties cell firsts variables c.requires.ties c.loop-cell.invariant c.loop-cell-test.true
          w.if-tie-cell.true)
      | else-tie-cell+in_ok-push-2+in_ok-push-3 w ↦
          let fresh : w.len-fresh.result ≡ length firsts =
          omega (arith, w.len-fresh.ensures, c.loop-cell.firsts.ok) in
          rw (w.of_cells-is, w.firsts-is, w.in_ok-push-2.ensures.items, w.in_ok-push-3.ensures.items, fresh)
          (numbered_free ties cell firsts variables c.requires.ties c.loop-cell.invariant c.loop-cell-test.true
          w.if-tie-cell.false)
    ]

pub returns : goal.returns
returns c =
    let ties = c.args.ties.now in
    let done : c.loop-cell.cell ≡ length ties = omega (arith, c.loop-cell-test.false, c.loop-cell.auto.cell-end) in
    record {
      numbered = subst (λ n. IsNumbered ties n c.loop-cell.firsts.items c.loop-cell.of_cells.items) done
          c.loop-cell.invariant;
    }
