use Rattle.std.proofs.Common.{◌≡◌, ◌^◌, arith, ◌∙◌, []}
use Rattle.std.proofs.lemmas.List.{length-replicate}
use Rattle.pol_base.proofs.CellLemmas.{power_some}
use Rattle.pol_indicator.proofs.RuleLemmas.{ruled_none}
use Rattle.pol_indicator.proofs.rules.ruled_cells.Goals as goal

pub new-requires-clause-some : goal.new-requires-clause-some
new-requires-clause-some g c =
    let count : c.unwrap-count.result ≡ c.args.d ^ g.row.K = rw c.unwrap-count.ensures at c.cells.ensures.power in
    omega (arith, count, power_some c.args.d g.row.K c.size-size.ensures.within.some)

pub loop-cell-init : goal.loop-cell-init
loop-cell-init g c =
    let count : c.unwrap-count.result ≡ c.args.d ^ g.row.K = rw c.unwrap-count.ensures at c.cells.ensures.power in
    rw c.in_ok-problem.ensures.ok (record {
      domain = λ i. c.args.d;
      cells = length-replicate c.unwrap-count.result _ ∙ count;
      ruled = ruled_none c.args.d c.unwrap-count.result (g.I.Identity.rule_of c.args.identity.now c.args.d);
      none = λ i. [];
    })
