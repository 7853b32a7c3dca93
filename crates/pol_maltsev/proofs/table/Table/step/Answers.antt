use Rattle.std.proofs.Common.{◌≡◌, ◌∷◌, [], length}
use Rattle.std.proofs.lemmas.Result.{IfOk-weaker}
use Rattle.pol_base.specs.Tuples.{IsTuple}
use Rattle.pol_optable.specs.Operations.{image}
use Rattle.pol_maltsev.proofs.TupleLemmas.{image_tuple}
use Rattle.pol_maltsev.proofs.table.Table.step.Goals as goal

-- the image of tuples is one
pub returns-clause-tuple : goal.returns-clause-tuple
returns-clause-tuple c =
    let f = c.args.op.now in
    let n = c.args.self.now.width in
    let t = c.args.t.now in
    let made : IsTuple f.domain n (image f n (t ∷ c.row.result.now ∷ c.row-2.result.now ∷ [])) =
    image_tuple f n t c.row.result.now c.row-2.result.now c.requires.table (rw c.requires.domain at c.requires.tuple) (rw c.requires.domain at c.row.ensures.tuple) (rw c.requires.domain at c.row-2.ensures.tuple) in
    rw c.requires.domain
    (IfOk-weaker c.image.result (λ r. r ≡ image f (length t) (t ∷ c.row.result.now ∷ c.row-2.result.now ∷ [])) (IsTuple f.domain n) (λ r same. rw same (rw c.requires.tuple.long made)) c.image.ensures.image)
