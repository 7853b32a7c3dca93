use Rattle.pol_arc.proofs.WaitingLemmas.{touched_skip, touched_put, touched_all, not_in_scope}
use Rattle.std.proofs.Common.{ℕ, ◌<◌, List, length, Contains, sym, ◌∙◌, subst, arith}
use Rattle.pol_arc.proofs.pruning.Pruning.touch.Goals as goal
use Rattle.pol_arc.proofs.pruning.Pruning.touch.Goals.{then-contains, else-contains}

pub loop-c-preserved : goal.loop-c-preserved
loop-c-preserved c =
    let inst = c.args.inst.now in
    let waits = c.loop-c.self.waits.items in
    let inside : c.loop-c.c < length waits = omega (arith, c.loop-c-test.true, c.constraints-c-end.ensures.constraints, c.requires.long, c.loop-c.invariant.touched.long) in
    elim c.if-contains.branch [
      | then-contains w ↦ rw w.self-is record {
        touched = touched_put inst c.args.x c.loop-c.c c.args.self.now.waits.items waits inside c.loop-c.invariant.touched;
        log = c.loop-c.invariant.log;
        masks = c.loop-c.invariant.masks;
      }
      | else-contains w ↦ rw w.self-is record {
        touched = touched_skip inst c.args.x c.loop-c.c c.args.self.now.waits.items waits
            (subst (λ (scope : List ℕ). ¬ Contains scope c.args.x) c.scope.ensures.scope (not_in_scope c.scope.result.now c.args.x (sym c.contains.ensures.value ∙ w.if-contains.false)))
            c.loop-c.invariant.touched;
        log = c.loop-c.invariant.log;
        masks = c.loop-c.invariant.masks;
      }
    ]

pub returns-clause-touched : goal.returns-clause-touched
returns-clause-touched c =
    touched_all c.args.inst.now c.args.x c.loop-c.c c.args.self.now.waits.items c.loop-c.self.waits.items
    (omega (arith, c.loop-c-test.false, c.constraints-c-end.ensures.constraints)) c.loop-c.invariant.touched
