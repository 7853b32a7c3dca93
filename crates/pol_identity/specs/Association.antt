-- The law of association.
use Rattle.std.specs.Prelude.{◌≡◌, ◌<◌, ℕ, [], ◌∷◌}
use Rattle.pol_optable.specs.Operations.{Operation, value_at}

-- f(x, f(y, z)) = f(f(x, y), z) at three arguments
abbrev pub Associates : Operation → (x y z : ℕ) → Type 0
Associates f x y z =
    value_at f (x ∷ value_at f (y ∷ z ∷ []) ∷ []) ≡ value_at f (value_at f (x ∷ y ∷ []) ∷ z ∷ [])

-- the same at all arguments
abbrev pub IsAssociative : Operation → Type 0
IsAssociative f = (x y z : ℕ) → x < f.domain → y < f.domain → z < f.domain → Associates f x y z
