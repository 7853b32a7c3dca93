-- Nogoods with a further pair.
use Rattle.std.specs.Prelude.{◌≡◌, ℕ, ◌<◌, nat_lt, List, [], ◌∷◌, length, All, if◌then◌else◌}
use Rattle.std.specs.List.{remove}
use Rattle.pol_nogood.specs.Nogoods.{Pair}
use Rattle.pol_nogood.specs.Logs.{StepView}
use Rattle.pol_strong.specs.Stores.{pair_of}

-- the pair before the first one of a greater variable
abbrev pub with_pair : Pair → List Pair → List Pair
with_pair p [] = p ∷ []
with_pair p (q ∷ rest) = if nat_lt p.variable q.variable then p ∷ q ∷ rest else q ∷ with_pair p rest

-- no step has this pair beside just these
abbrev pub IsFree : List StepView → List Pair → Pair → Type 0
IsFree log part p =
    All (λ s. (i : ℕ) → i < length s.nogood → remove s.nogood i ≡ part → pair_of s.nogood i ≡ p
    → ⊥) log
