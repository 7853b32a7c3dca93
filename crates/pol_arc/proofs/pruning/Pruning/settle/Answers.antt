use Rattle.pol_nogood.proofs.Counting.{nogood_count, few_steps}
use Rattle.pol_arc.specs.Pruned.{IsPruned}
use Rattle.std.proofs.Common.{◌≤◌, length, arith}
use Rattle.pol_arc.proofs.pruning.Pruning.settle.Goals as goal

pub loop-self-smaller : goal.loop-self-smaller
loop-self-smaller c =
    let is : IsPruned c.args.lang.now c.args.inst.now c.visit_all.new.self.masks.items c.visit_all.new.self.log = c.in_ok-visit_all.ensures.prunes.pruned in
    let few : length c.visit_all.new.self.log ≤ nogood_count c.args.lang.now.domain (length c.args.inst.now.variables) 1 = few_steps c.args.lang.now c.args.inst.now 1 c.visit_all.new.self.log is.valid is.fits in
    let grown : length c.loop-self.self.log ≤ length c.visit_all.new.self.log = c.in_ok-visit_all.ensures.prunes.grown in
    omega (arith, few, grown, c.len-before.ensures.steps, c.len.ensures.steps, c.if-len-before.false)
