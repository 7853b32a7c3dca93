use Rattle.std.proofs.Common.{◌≡◌, ◌<◌, ap, ◌∙◌, arith, ◌++◌, ◌∷◌, [], length}
use Rattle.pol_maltsev.specs.Views.{InTable}
use Rattle.pol_maltsev.proofs.ReadingLemmas.{readers_more, readers_same, readers_all}
use Rattle.pol_maltsev.proofs.table.Table.readers.Goals as goal
use Rattle.pol_maltsev.proofs.table.Table.readers.Goals.{in-Some+in_ok-push, in_default}

-- one row more
pub loop-i-preserved : goal.loop-i-preserved
loop-i-preserved c = elim c.match-branch-2.branch [
  | in-Some+in_ok-push w ↦
      let longer : c.match-branch-2.found.items ≡ c.loop-i.found.items ++ w.in-Some.member ∷ [] = ap (λ found. found.items) w.found-is ∙ w.in_ok-push.ensures.items in
      rw longer
      (readers_more (InTable c.args.op.now c.args.self.now) c.args.scope.now c.args.r.now.rows c.loop-i.i c.loop-i.found.items w.in-Some.member low c.loop-i.invariant
      (rw (w.in-Some.is, c.row.ensures.row) at c.in_ok-member.ensures.reads))
  | in_default w ↦
      rw w.found-is
      (readers_same (InTable c.args.op.now c.args.self.now) c.args.scope.now c.args.r.now.rows c.loop-i.i c.loop-i.found.items c.loop-i.invariant
      (rw (w.in_default.is, c.row.ensures.row) at c.in_ok-member.ensures.none))
]
  where
    low : c.loop-i.i < length c.args.r.now.rows
    low = omega (arith, c.loop-i-test.true, c.len-i-end.ensures.rows)

-- all rows
pub returns : goal.returns
returns c = record {
  readers = readers_all (InTable c.args.op.now c.args.self.now) c.args.scope.now c.args.r.now.rows c.loop-i.i c.loop-i.found.items
      (omega (arith, c.loop-i-test.false, c.len-i-end.ensures.rows)) c.loop-i.invariant;
}
