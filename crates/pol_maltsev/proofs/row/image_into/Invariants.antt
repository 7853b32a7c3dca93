use Rattle.std.proofs.Common.{◌≡◌, ℕ, ◌<◌, get_or, [], ◌∷◌}
use Rattle.pol_optable.specs.Operations.{value_at}
use Rattle.pol_maltsev.proofs.row.image_into.Given as goal

abbrev pub invariant-loop-place : goal.invariant-loop-place
invariant-loop-place l =
    (k : ℕ) → k < l.place → get_or l.out k 0 ≡ value_at l.op (get_or l.one k 0 ∷ get_or l.two k 0 ∷ get_or l.three k 0 ∷ [])
