use Rattle.std.proofs.Common.{◌≡◌, ◌<◌, ◌++◌, ◌∷◌, [], ap, ◌∙◌, arith, length, List, ℕ}
use Rattle.std.specs.Prelude.{slice_index}
use Rattle.pol_maltsev.specs.Views.{InTable}
use Rattle.pol_maltsev.proofs.BranchLemmas.{branches_more, branches_same, branches_all}
use Rattle.pol_maltsev.proofs.ReachLemmas.{value_at_place}
use Rattle.pol_maltsev.proofs.table.Table.branches.Goals as goal
use Rattle.pol_maltsev.proofs.table.Table.branches.Goals.{in-Some+in_ok-push, in_default}

-- one value more
pub loop-v-preserved : goal.loop-v-preserved
loop-v-preserved c = elim c.match-branch-2.branch [
  | in-Some+in_ok-push w ↦
      let longer : c.match-branch-2.found.items ≡ c.loop-v.found.items ++ w.in-Some.member ∷ [] = ap (λ found. found.items) w.found-is ∙ w.in_ok-push.ensures.items in
      rw longer
      (branches_more (InTable c.args.op.now c.args.self.now) c.args.self.now.order c.args.k c.args.t.now c.loop-v.v c.loop-v.found.items w.in-Some.member low c.loop-v.invariant (rw w.in-Some.is at c.in_ok-member.ensures.moved))
  | in_default w ↦
      rw w.found-is
      (branches_same (InTable c.args.op.now c.args.self.now) c.args.self.now.order c.args.k c.args.t.now c.loop-v.v c.loop-v.found.items c.loop-v.invariant (rw w.in_default.is at c.in_ok-member.ensures.none))
]
  where
    low : c.args.k < length c.args.self.now.order
    low = omega (arith, c.requires.position, c.requires.sound.view.ordered)

-- all values
pub returns : goal.returns
returns c = record {
  reached = branches_all (InTable c.args.op.now c.args.self.now) c.args.self.now.order c.args.k c.args.t.now c.loop-v.v c.loop-v.found.items c.loop-v.invariant (λ u in_u. below u in_u);
}
  where
    below : (u : List ℕ) → InTable c.args.op.now c.args.self.now u → slice_index u (slice_index c.args.self.now.order c.args.k) < c.loop-v.v
    below u in_u =
        let small = value_at_place c.args.op.now c.args.self.now (slice_index c.args.self.now.order c.args.k) u c.requires.sound (c.requires.sound.table.order.below c.args.k c.requires.position) in_u in
        omega (arith, small, c.loop-v-test.false, c.size-v-end.ensures.size, c.domain.ensures.domain)
