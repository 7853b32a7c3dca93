use Rattle.std.proofs.Common.{◌≡◌, ◌∙◌, List, ℕ, length, ◌∷◌, [], ap, refl}
use Rattle.pol_maltsev.specs.Fronts.{AreBeginners}
use Rattle.pol_maltsev.specs.Representations.{Begins}
use Rattle.pol_maltsev.specs.Restrictions.{IsReading}
use Rattle.pol_maltsev.specs.Views.{InTable}
use Rattle.pol_maltsev.proofs.WalkLemmas.{member_tuple}
use Rattle.pol_maltsev.proofs.FixingLemmas.{begins_of_reading, reading_of_begins, beginner_one, beginner_none}
use Rattle.pol_maltsev.proofs.table.Table.beginners.Goals as goal
use Rattle.pol_maltsev.proofs.table.Table.beginners.Goals.{in-Some+in_ok-push, in_default}

-- the member that was walked to, or none
pub returns : goal.returns
returns c = record {
  begin = elim c.match-branch-2.branch [
    | in-Some+in_ok-push w ↦
        let one : c.match-branch-2.found.items ≡ w.in-Some.member ∷ [] = ap (λ found. found.items) w.found-is ∙ w.in_ok-push.ensures.items ∙ rw c.new-found.ensures.items refl in
        let walked : IsReading (InTable c.args.op.now c.args.self.now) c.args.self.now.order c.args.front.now (length c.args.front.now) w.in-Some.member = rw w.in-Some.is at c.in_ok-member.ensures.reads in
        rw one (beginner_one (InTable c.args.op.now c.args.self.now) c.args.front.now w.in-Some.member
        (begins_of_reading (InTable c.args.op.now c.args.self.now) c.args.self.now.width c.args.self.now.order c.args.front.now w.in-Some.member c.requires.natural c.requires.few
        (member_tuple c.args.op.now c.args.self.now w.in-Some.member c.requires.sound walked.inside).long walked))
    | in_default w ↦
        let none : c.match-branch-2.found.items ≡ [] = ap (λ found. found.items) w.found-is ∙ c.new-found.ensures.items in
        let walked : (t : List ℕ) → ¬ IsReading (InTable c.args.op.now c.args.self.now) c.args.self.now.order c.args.front.now (length c.args.front.now) t = rw w.in_default.is at c.in_ok-member.ensures.none in
        rw none (beginner_none (InTable c.args.op.now c.args.self.now) c.args.front.now
        (λ t h. walked t (reading_of_begins (InTable c.args.op.now c.args.self.now) c.args.self.now.width c.args.self.now.order c.args.front.now t c.requires.natural c.requires.few h)))
  ];
}
