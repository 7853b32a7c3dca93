use Rattle.std.proofs.Common.{◌≤◌, refl, ◌+◌, length, set, ap, ◌∙◌, arith}
use Rattle.std.proofs.lemmas.List.{take_rest, length-replicate}
use Rattle.pol_modp.specs.Rows.{equation_at, no_equation}
use Rattle.pol_modp.proofs.Solution.{clash}
use Rattle.pol_modp.proofs.elimination.add_up.Goals as goal

pub returns : goal.returns
returns c =
    let p = c.args.p in
    let n = c.args.n in
    let row = c.args.row.now in
    let own_is = take_rest row (n + 1) in
    let few : c.args.i ≤ length c.args.equations.now = omega (arith, c.requires.known) in
    let long = c.spread.auto.out ∙ (ap length c.requires.nothing ∙ length-replicate (length c.args.equations.now) 0) in
    record {
      clash = clash p n c.args.equations.now c.requires.equations c.requires.positive c.args.i c.args.basis.now row few (equation_at c.args.equations.now c.args.i) (c.requires.equations c.args.i no_equation c.requires.known) c.requires.basis c.requires.reduced c.requires.known refl
          _ c.spread.new.out _ own_is long c.spread.ensures.below c.spread.ensures.spread (ap (set c.spread.new.out c.args.i) c.plus_times.ensures.sum) c.requires.zeros c.requires.right;
    }
