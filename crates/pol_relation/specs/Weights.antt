-- The sums over a language that are limited.
use Rattle.std.specs.Prelude.{ℕ, ◌+◌, ◌^◌, List, [], ◌∷◌, length, ◌-◌}
use Rattle.pol_relation.specs.Relations.{NamedRelation}

-- the sum of |R|^k over the relations
abbrev pub weight_of : ℕ → List NamedRelation → ℕ
weight_of k [] = 0
weight_of k (named ∷ rest) = length named.relation.rows ^ k + weight_of k rest

-- the sum over the relations of the number of vectors of nonempty masks, one mask for each place
abbrev pub subset_weight_of : ℕ → List NamedRelation → ℕ
subset_weight_of d [] = 0
subset_weight_of d (named ∷ rest) = (2 ^ d - 1) ^ named.relation.arity + subset_weight_of d rest

-- the greatest sum of |R|^3, and the greatest sum of vectors of masks
abbrev pub most_weight : ℕ
most_weight = 2 ^ 21
