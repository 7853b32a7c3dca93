use Rattle.pol_arc.specs.Arcs.{IsSupportedAt}
use Rattle.pol_arc.proofs.PruningLemmas.{prunes_both, settled_more}
use Rattle.pol_arc.proofs.WaitingLemmas.{keeps_both}
use Rattle.std.proofs.Common.{ℕ, ◌+◌, ◌<◌, ◌≤◌, length, arith}
use Rattle.pol_arc.proofs.pruning.Pruning.revise_constraint.Goals as goal

pub loop-j-preserved : goal.loop-j-preserved
loop-j-preserved c =
    let lang = c.args.lang.now in
    let inst = c.args.inst.now in
    let next = c.in_ok-revise_place.ensures in
    record {
      prunes = prunes_both lang inst (λ m. (j a : ℕ) → j < c.loop-j.j → a < lang.domain → IsSupportedAt lang inst m c.args.c j a) (λ m. (a : ℕ) → a < lang.domain → IsSupportedAt lang inst m c.args.c c.loop-j.j a)
          (λ m. (j a : ℕ) → j < c.loop-j.j + 1 → a < lang.domain → IsSupportedAt lang inst m c.args.c j a)
          c.args.self.now.masks.items c.loop-j.self.masks.items c.revise_place.new.self.masks.items c.args.self.now.log c.loop-j.self.log c.revise_place.new.self.log
          c.loop-j.invariant.prunes next.prunes
          (λ m before last j a less low. settled_more lang inst m (λ m j. (b : ℕ) → b < lang.domain → IsSupportedAt lang inst m c.args.c j b) c.loop-j.j (λ k less b low. before k b less low) last j less a low);
      done = keeps_both lang inst c.args.self.now.masks.items c.loop-j.self.masks.items c.revise_place.new.self.masks.items c.args.self.now.waits.items c.loop-j.self.waits.items c.revise_place.new.self.waits.items
          c.loop-j.invariant.done next.done;
      again = λ done.
          let first : length c.loop-j.self.log ≤ length c.args.self.now.log = c.loop-j.invariant.again (next.done.before c.args.c c.requires.known done) in
          let second : length c.revise_place.new.self.log ≤ length c.loop-j.self.log = next.again done in
          omega arith;
    }
