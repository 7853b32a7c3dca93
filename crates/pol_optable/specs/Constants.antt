-- Which languages a constant operation preserves, by their rows alone.
use Rattle.std.specs.Prelude.{◌≡◌, ◌⊎◌, ℕ, [], replicate, All, Contains}
use Rattle.pol_relation.specs.Relations.{LanguageView, RelationView}

-- the relation is empty or has the tuple of nothing but a
abbrev pub HoldsConstant : RelationView → ℕ → Type 0
HoldsConstant r a = (r.rows ≡ []) ⊎ Contains r.rows (replicate r.arity a)

-- each relation is empty or has the tuple of nothing but a
abbrev pub ClosedUnder : LanguageView → ℕ → Type 0
ClosedUnder lang a = All (λ named. HoldsConstant named.relation a) lang.relations
