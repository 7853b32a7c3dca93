-- How the entries of a language are seen: by the bytes of their names.
use Rattle.std.specs.Prelude.{ℕ, List, map, Vec}
use Rattle.pol_relation.specs.Relations.{RelationView, NamedRelation}

-- the relation under the bytes of its name
abbrev pub named_entry : {A : Type 0} → Vec ℕ A × RelationView → NamedRelation
named_entry e = record { name = e.0.items; relation = e.1 }

-- the relations of the entries, in their order
abbrev pub named_relations : {A : Type 0} → List (Vec ℕ A × RelationView) → List NamedRelation
named_relations entries = map (λ e. named_entry e) entries
