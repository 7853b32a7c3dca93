use Rattle.pol_arc.specs.Arcs.{IsSupportedAt}
use Rattle.pol_arc.proofs.PruningLemmas.{prunes_both, settled_more}
use Rattle.pol_arc.proofs.WaitingLemmas.{keeps_both}
use Rattle.std.proofs.Common.{ℕ, ◌+◌, ◌<◌, ◌≤◌, length, arith}
use Rattle.pol_arc.proofs.pruning.Pruning.revise_place.Goals as goal

pub loop-a-preserved : goal.loop-a-preserved
loop-a-preserved c =
    let lang = c.args.lang.now in
    let inst = c.args.inst.now in
    let next = c.in_ok-revise.ensures in
    record {
      prunes = prunes_both lang inst (λ m. (a : ℕ) → a < c.loop-a.a → IsSupportedAt lang inst m c.args.c c.args.j a) (λ m. IsSupportedAt lang inst m c.args.c c.args.j c.loop-a.a)
          (λ m. (a : ℕ) → a < c.loop-a.a + 1 → IsSupportedAt lang inst m c.args.c c.args.j a)
          c.args.self.now.masks.items c.loop-a.self.masks.items c.revise.new.self.masks.items c.args.self.now.log c.loop-a.self.log c.revise.new.self.log
          c.loop-a.invariant.prunes next.prunes
          (λ m before last. settled_more lang inst m (λ m a. IsSupportedAt lang inst m c.args.c c.args.j a) c.loop-a.a before last);
      done = keeps_both lang inst c.args.self.now.masks.items c.loop-a.self.masks.items c.revise.new.self.masks.items c.args.self.now.waits.items c.loop-a.self.waits.items c.revise.new.self.waits.items
          c.loop-a.invariant.done next.done;
      again = λ done.
          let first : length c.loop-a.self.log ≤ length c.args.self.now.log = c.loop-a.invariant.again (next.done.before c.args.c c.requires.known done) in
          let second : length c.revise.new.self.log ≤ length c.loop-a.self.log = next.again done in
          omega arith;
    }
