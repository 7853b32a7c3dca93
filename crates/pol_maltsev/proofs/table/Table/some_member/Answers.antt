use Rattle.std.proofs.Common.{◌≡◌, ◌∷◌, [], refl, ap, ◌∙◌, take}
use Rattle.pol_maltsev.specs.Compacts.{AreReached}
use Rattle.pol_maltsev.specs.Views.{InTable}
use Rattle.pol_maltsev.proofs.ListingLemmas.{row_inside}
use Rattle.pol_maltsev.proofs.ReachLemmas.{reached_none, reached_one, none_present}
use Rattle.pol_maltsev.proofs.table.Table.some_member.Goals as goal
use Rattle.pol_maltsev.proofs.table.Table.some_member.Goals.{in-Some+in_ok-from_slice+in_ok-push, in_default}

-- the row of a value at place 0, or no member where there is no value
pub returns : goal.returns
returns c = record { reached = reached }
  where
    reached : AreReached (InTable c.args.op.now c.args.self.now) (take 0 c.args.self.now.order) c.match-least_row.found.items
    reached = elim c.match-least_row.branch [
      | in-Some+in_ok-from_slice+in_ok-push w ↦
          let listed : c.match-least_row.found.items ≡ w.in_ok-from_slice.field-0 ∷ [] =
          ap (λ found. found.items) w.found-is ∙ w.in_ok-push.ensures.items ∙ rw c.new-found.ensures.items refl in
          rw (listed, w.in_ok-from_slice.ensures.ok)
          (reached_one (InTable c.args.op.now c.args.self.now) c.args.self.now.order w.in-Some.row.now (row_inside c.args.op.now c.args.self.now w.in-Some.row.now c.requires.sound w.in-Some.ensures.row))
      | in_default w ↦
          let listed : c.match-least_row.found.items ≡ [] = ap (λ found. found.items) w.found-is ∙ c.new-found.ensures.items in
          rw listed
          (reached_none (InTable c.args.op.now c.args.self.now) (take 0 c.args.self.now.order)
          (none_present c.args.op.now c.args.self.now 0 c.requires.sound c.requires.sound.view.some_places w.in_default.ensures.none))
    ]
