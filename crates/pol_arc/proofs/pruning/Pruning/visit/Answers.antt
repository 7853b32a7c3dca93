use Rattle.pol_arc.specs.Pruned.{Prunes}
use Rattle.pol_arc.specs.Waiting.{IsDone, DoneAreSupported, KeepsDone}
use Rattle.pol_arc.specs.Arcs.{SupportsAll}
use Rattle.pol_arc.proofs.WaitingLemmas.{supported_visited}
use Rattle.std.proofs.Common.{Result, Ok, Err, ◌≤◌, false, length, set}
use Rattle.std.specs.Prelude.{OnOk}
use Rattle.pol_arc.proofs.pruning.Pruning.visit.Goals as goal

-- what three facts of a success make
success : {X E : Type 0} (r : Result X E) (P Q R S : Type 0) → (P → Q → R → S) → OnOk r P → OnOk r Q → OnOk r R → OnOk r S
success (Ok x) P Q R S makes p q r = makes p q r
success (Err e) P Q R S makes p q r = p

pub returns-clause-waiting : goal.returns-clause-waiting
returns-clause-waiting c =
    let lang = c.args.lang.now in
    let inst = c.args.inst.now in
    let old = c.args.self.now in
    let new = c.revise_constraint.new.self in
    success c.revise_constraint.result
    (Prunes lang inst (λ m. SupportsAll lang inst m c.args.c) old.masks.items old.log new.masks.items new.log)
    (KeepsDone lang inst old.masks.items (set old.waits.items c.args.c false) new.masks.items new.waits.items)
    (IsDone new.waits.items c.args.c → length new.log ≤ length old.log)
    (DoneAreSupported lang inst new.masks.items new.waits.items)
    (λ prunes keeps again. supported_visited lang inst old.masks.items new.masks.items old.waits.items new.waits.items c.args.c c.requires.waiting keeps (λ done. prunes.settled (again done)))
    c.revise_constraint.ensures.prunes c.revise_constraint.ensures.done c.revise_constraint.ensures.again
