use Rattle.std.proofs.Common.{sym, ◌∙◌, arith}
use Rattle.pol_nogood.proofs.PackedPairs.{length_seen}
use Rattle.pol_nogood.proofs.nogood.Nogood.len.Goals as goal

pub returns-clause-pairs : goal.returns-clause-pairs
returns-clause-pairs c =
    let n = c.self.inside in
    c.from.ensures ∙ sym (length_seen n.variables n.values n.len c.args.self.now c.self.view_is (omega (arith, c.self.invariant)) (omega (arith, c.self.invariant)))
