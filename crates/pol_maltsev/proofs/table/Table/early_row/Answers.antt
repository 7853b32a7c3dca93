use Rattle.std.proofs.Common.{◌≡◌, ◌∷◌, [], ap, ◌∙◌}
use Rattle.pol_optable.specs.Operations.{image}
use Rattle.pol_maltsev.proofs.TupleLemmas.{image_tuple}
use Rattle.pol_maltsev.proofs.table.Table.early_row.Goals as goal

-- the image of rows is a tuple
pub step-requires-clause-tuple : goal.step-requires-clause-tuple
step-requires-clause-tuple c =
    let f = c.args.op.now in
    let n = c.args.self.now.width in
    let led : c.as_slice.result.now ≡ image f n (c.row-row.result.now ∷ c.row-2.result.now ∷ c.row-3.result.now ∷ []) =
    c.as_slice.ensures.values ∙ c.in_ok-led.ensures.image ∙ ap (λ m. image f m (c.row-row.result.now ∷ c.row-2.result.now ∷ c.row-3.result.now ∷ [])) c.row-row.ensures.tuple.long in
    rw (led, c.requires.domain) (image_tuple f n c.row-row.result.now c.row-2.result.now c.row-3.result.now c.requires.table (rw c.requires.domain at c.row-row.ensures.tuple)
    (rw c.requires.domain at c.row-2.ensures.tuple) (rw c.requires.domain at c.row-3.ensures.tuple))
