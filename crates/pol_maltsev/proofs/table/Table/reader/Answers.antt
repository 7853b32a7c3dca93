use Rattle.std.proofs.Common.{◌≡◌, ℕ, ◌∙◌, ap, length, List}
use Rattle.std.proofs.lemmas.Bool.{false≢true}
use Rattle.pol_relation.specs.Instances.{read_at}
use Rattle.pol_maltsev.specs.Restrictions.{IsReading}
use Rattle.pol_maltsev.specs.Views.{InTable}
use Rattle.pol_maltsev.proofs.WalkLemmas.{member_tuple}
use Rattle.pol_maltsev.proofs.ReadingLemmas.{word_below, length-read_at, none_reads}
use Rattle.pol_maltsev.proofs.table.Table.reader.Goals as goal

-- the word's values are those of the row
pub walk-requires-clause-below : goal.walk-requires-clause-below
walk-requires-clause-below c =
    rw (c.as_slice.ensures.value, c.in_ok-word.ensures.read)
    (word_below c.args.self.now.domain c.args.row.now c.args.first.now c.requires.row.below (rw c.requires.row.long c.requires.firsts.known))

-- the member has a value at each place
pub reads-requires-clause-places : goal.reads-requires-clause-places
reads-requires-clause-places c =
    let walked : IsReading (InTable c.args.op.now c.args.self.now) c.args.self.now.order c.as_slice.result.now (length c.as_slice.result.now) c.in-Some.member = rw c.in-Some.is at c.in_ok-member.ensures.reads in
    rw (c.as_slice-2.ensures.values, (member_tuple c.args.op.now c.args.self.now c.in-Some.member c.requires.sound walked.inside).long) c.requires.scope

-- the member that was walked to does not read the row
pub returns-clause-none : goal.returns-clause-none
returns-clause-none c =
    let word : c.as_slice.result.now ≡ read_at c.args.row.now c.args.first.now = c.as_slice.ensures.value ∙ c.in_ok-word.ensures.read in
    let long : length c.as_slice.result.now ≡ length c.args.first.now = ap (λ (w : List ℕ). length w) word ∙ length-read_at c.args.row.now c.args.first.now in
    let walked : IsReading (InTable c.args.op.now c.args.self.now) c.args.self.now.order c.as_slice.result.now (length c.as_slice.result.now) c.in-Some.member = rw c.in-Some.is at c.in_ok-member.ensures.reads in
    none_reads (InTable c.args.op.now c.args.self.now) c.args.self.now.order c.args.scope.now c.args.first.now c.args.row.now c.in-Some.member c.requires.firsts
    (rw (long, word) at walked) (λ same. false≢true (c.if-reads.ensures.reads.1 (rw c.as_slice-2.ensures.values same)))
