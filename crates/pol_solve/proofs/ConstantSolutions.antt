-- Instances over a language that a constant operation preserves: the constant assignment, or an empty relation.
use Rattle.std.proofs.Common.{◌≡◌, ℕ, ◌<◌, List, [], ◌∷◌, length, get_or, replicate, All, refl, ◌≢◌, Contains, inl, inr, sym, ap, ◌∙◌, subst}
use Rattle.std.proofs.lemmas.List.{get_or-replicate, length-replicate}
use Rattle.std.proofs.lemmas.List.Elements.{All-head, All-tail, All-replicate}
use Rattle.pol_relation.specs.Instances.{read_at, ConstraintView, FitsAt, Meets, InstanceView, Fits, UsesRows, IsSolution}
use Rattle.pol_relation.specs.Relations.{LanguageView, rows_of, relation_of, no_named}
use Rattle.pol_optable.specs.Constants.{ClosedUnder}

read_constant : (n a : ℕ) (scope : List ℕ) → All (λ x. x < n) scope → read_at (replicate n a) scope ≡ replicate (length scope) a
read_constant n a [] below = refl
read_constant n a (x ∷ scope) below =
    let here : get_or (replicate n a) x 0 ≡ a = get_or-replicate n x a 0 (All-head (λ y. y < n) x scope below) in
    let rest = read_constant n a scope (All-tail (λ y. y < n) x scope below) in
    cc

-- the constant tuple is there unless the relation is empty
constant_row : (lang : LanguageView) (a : ℕ) (r : ℕ) → ClosedUnder lang a → r < length lang.relations → rows_of lang r ≢ [] → Contains (rows_of lang r) (replicate (relation_of lang r).arity a)
constant_row lang a r closed known some =
    elim (closed r no_named known) [ inl empty ↦ absurd (some empty) | inr there ↦ there ]

meets_constant : (lang : LanguageView) (n a : ℕ) (c : ConstraintView) → ClosedUnder lang a → FitsAt lang n c → rows_of lang c.relation ≢ [] → Meets lang c (replicate n a)
meets_constant lang n a c closed fits some =
    let row = constant_row lang a c.relation closed fits.known some in
    let same : replicate (relation_of lang c.relation).arity a ≡ read_at (replicate n a) c.scope = ap (λ k. replicate k a) (sym fits.long) ∙ sym (read_constant n a c.scope fits.below) in
    subst (λ t. Contains (rows_of lang c.relation) t) same row

-- the constant assignment is a solution where no constraint uses an empty relation
pub constant_solution : (lang : LanguageView) (inst : InstanceView) (a : ℕ) → Fits lang inst → a < lang.domain → ClosedUnder lang a → UsesRows lang inst → IsSolution lang inst (replicate (length inst.variables) a)
constant_solution lang inst a fits below closed rows = record {
  assigns = record { long = length-replicate (length inst.variables) a; below = All-replicate (λ v. v < lang.domain) (length inst.variables) a below };
  meets = λ k d inside. meets_constant lang (length inst.variables) a (get_or inst.constraints k d) closed (fits k d inside) (rows k d inside);
}
