-- What the look-ups of a map by its keys say of the names of a language.
use Rattle.std.proofs.Common.{◌≡◌, ℕ, zero, suc, ◌<◌, Bool, true, false, true≢false, List, [], ◌∷◌, ◌++◌, length, map, position, Option, None, Some, Result, Ok, Err, OnOk, OnErr, is_some, Contains, nat_eq, get_or, slice_get, ◌-◌, refl, sym, ap, ◌∙◌, subst, cond, arith}
use Rattle.std.specs.Prelude.{Vec}
use Rattle.std.specs.Cmp.Lexicographic.{pointwise, same_text, other_text}
use Rattle.std.specs.Map.{keys_of, lookup}
use Rattle.std.proofs.lemmas.List.{get_or-map, map-append, length-map}
use Rattle.std.proofs.lemmas.List.Quantifiers.{position-Some}
use Rattle.std.proofs.lemmas.List.Elements.{Contains-append_right}
use Rattle.std.proofs.lemmas.Map.Made.{Contains-tail}
use Rattle.indexmap.specs.IndexMap.{IndexMap, insert_entry, set_value_at}
use Rattle.indexmap.proofs.CallerLemmas.{insert_entry-new}
use Rattle.pol_relation.specs.Relations.{RelationView, IsLanguage, last_of, with_row_at_last, with_row_in, no_named}
use Rattle.pol_base.specs.Tuples.{IsTuple}
use Rattle.pol_relation.proofs.RelationLemmas.{IsLanguage-with_last_row}
use Rattle.pol_relation.specs.Named.{named_entry, named_relations}

-- the names of the entries
abbrev pub names : {A : Type 0} → List (Vec ℕ A × RelationView) → List (List ℕ)
names entries = map (λ e. e.name) (named_relations entries)

-- the relation at a place
pub relation-at : {A : Type 0} (entries : List (Vec ℕ A × RelationView)) (i : ℕ) (r : RelationView) → slice_get (map (λ e. e.1) entries) i ≡ Some r → (get_or (named_relations entries) i no_named).relation ≡ r
relation-at [] i r found = cc
relation-at (e ∷ es) zero r found = cc
relation-at (e ∷ es) (suc i) r found = relation-at es i r found

-- the relation that was added last
pub last_of-named : {A : Type 0} (d : ℕ) (entries : List (Vec ℕ A × RelationView)) (r : RelationView) → slice_get (map (λ e. e.1) entries) (length entries - 1) ≡ Some r → last_of (record { domain = d; relations = named_relations entries }) ≡ r
last_of-named d entries r found =
    let long : length (named_relations entries) ≡ length entries = length-map entries (λ e. named_entry e) in
    rw long (relation-at entries (length entries - 1) r found)

module _ {A : Type 0} where
  -- the last relation takes the tuple
  pub named_relations-last : (t : List ℕ) (entries : List (Vec ℕ A × RelationView)) (i : ℕ) (r : RelationView) → length entries ≡ suc i → slice_get (map (λ e. e.1) entries) i ≡ Some r → named_relations (set_value_at entries i (with_row_in r t)) ≡ with_row_at_last t (named_relations entries)
  named_relations-last t [] i r long found = cc
  named_relations-last t (e ∷ []) zero r long found = let same : e.1 ≡ r = cc in (λ j. record { name = e.0.items; relation = with_row_in (sym same j) t } ∷ [])
  named_relations-last t (e ∷ []) (suc i) r long found = cc
  named_relations-last t (e ∷ f ∷ rest) zero r long found = absurd (omega arith)
  named_relations-last t (e ∷ f ∷ rest) (suc i) r long found = ap (λ named. named_entry e ∷ named) (named_relations-last t (f ∷ rest) i r (omega arith) found)

  -- a relation that stays
  pub named_relations-kept : (entries : List (Vec ℕ A × RelationView)) (i : ℕ) (r : RelationView) → slice_get (map (λ e. e.1) entries) i ≡ Some r → named_relations (set_value_at entries i r) ≡ named_relations entries
  named_relations-kept [] i r found = refl
  named_relations-kept (e ∷ es) zero r found = let same : e.1 ≡ r = cc in (λ j. record { name = e.0.items; relation = sym same j } ∷ named_relations es)
  named_relations-kept (e ∷ es) (suc i) r found = ap (λ named. named_entry e ∷ named) (named_relations-kept es i r found)

  -- the last relation took the tuple, or stayed for want of memory
  pub IsLanguage-last : {T E : Type 0} (d : ℕ) (t : List ℕ) (entries : List (Vec ℕ A × RelationView)) (i : ℕ) (r new : RelationView) (result : Result T E) → length entries ≡ suc i → slice_get (map (λ e. e.1) entries) i ≡ Some r → OnOk result (new ≡ with_row_in r t) → OnErr result (new ≡ r) → IsTuple r.domain r.arity t → IsLanguage (record { domain = d; relations = named_relations entries }) → IsLanguage (record { domain = d; relations = named_relations (set_value_at entries i new) })
  IsLanguage-last d t entries i r new (Ok x) long found ok err tuple is =
      let last = last_of-named d entries r (subst (λ k. slice_get (map (λ e. e.1) entries) k ≡ Some r) (omega arith) found) in
      let named : named_relations (set_value_at entries i new) ≡ with_row_at_last t (named_relations entries) = ap (λ s. named_relations (set_value_at entries i s)) ok ∙ named_relations-last t entries i r long found in
      subst (λ relations. IsLanguage (record { domain = d; relations = relations })) (sym named) (IsLanguage-with_last_row _ t is (subst (λ s. IsTuple s.domain s.arity t) (sym last) tuple))
  IsLanguage-last d t entries i r new (Err e) long found ok err tuple is =
      let named : named_relations (set_value_at entries i new) ≡ named_relations entries = ap (λ s. named_relations (set_value_at entries i s)) err ∙ named_relations-kept entries i r found in
      subst (λ relations. IsLanguage (record { domain = d; relations = relations })) (sym named) is

module _ {A : Type 0} (name : List ℕ) where
  -- the test by which a map looks for the name
  abbrev pub is_named : Vec ℕ A → Bool
  is_named key = pointwise nat_eq name key.items

  -- the place that is found has the name
  pub name-at_position : (entries : List (Vec ℕ A × RelationView)) (i : ℕ) → position is_named (keys_of entries) ≡ Some i → (get_or (named_relations entries) i no_named).name ≡ name
  name-at_position [] i found = cc
  name-at_position (x ∷ xs) i found =
      let at = position-Some is_named (keys_of (x ∷ xs)) i x.0 found in
      let within : i < length (x ∷ xs) = omega (arith, at.0, length-map (x ∷ xs) (λ e. e.0)) in
      let key : get_or (keys_of (x ∷ xs)) i x.0 ≡ (get_or (x ∷ xs) i x).0 = get_or-map (λ e. e.0) (x ∷ xs) i x x.0 within in
      let named : get_or (named_relations (x ∷ xs)) i no_named ≡ named_entry (get_or (x ∷ xs) i x) = get_or-map (λ e. named_entry e) (x ∷ xs) i x no_named within in
      (λ j. (named j).name) ∙ sym (same_text name _ (sym (subst (λ k. pointwise nat_eq name k.items ≡ true) key at.1)))

  -- a name that is looked up is there
  pub Contains-from_lookup : (entries : List (Vec ℕ A × RelationView)) → is_some (lookup is_named entries) ≡ true → Contains (names entries) name
  Contains-from_lookup [] found = absurd (true≢false (sym found))
  Contains-from_lookup (e ∷ es) found = by (is_named e.0) refl (Contains-from_lookup es) found
    where
      by : (b : Bool) → is_named e.0 ≡ b → (is_some (lookup is_named es) ≡ true → Contains (names es) name) → is_some (cond b (Some e.1) (lookup is_named es)) ≡ true → Contains (names (e ∷ es)) name
      by true same rest found = (0, omega arith, sym (same_text name e.0.items (sym same)))
      by false other rest found = Contains-append_right (e.0.items ∷ []) (names es) name (rest found)

  -- a name that is there is looked up
  pub lookup-from_Contains : (entries : List (Vec ℕ A × RelationView)) → Contains (names entries) name → is_some (lookup is_named entries) ≡ true
  lookup-from_Contains [] member = absurd (omega arith)
  lookup-from_Contains (e ∷ es) member = by (is_named e.0) refl (lookup-from_Contains es)
    where
      by : (b : Bool) → is_named e.0 ≡ b → (Contains (names es) name → is_some (lookup is_named es) ≡ true) → is_some (cond b (Some e.1) (lookup is_named es)) ≡ true
      by true same rest = refl
      by false other rest = rest (Contains-tail e.0.items (names es) name (λ same. other_text name e.0.items (sym other) (sym same)) member)

  -- a map without the name tells so
  pub new-from_lookup : (entries : List (Vec ℕ A × RelationView)) (answer : Bool) → answer ≡ is_some (lookup is_named entries) → answer ≡ false → Contains (names entries) name → ⊥
  new-from_lookup entries answer told refused member = true≢false (sym (lookup-from_Contains entries member) ∙ sym told ∙ refused)

  -- a name that is not there is not looked up
  pub lookup-new : (entries : List (Vec ℕ A × RelationView)) → (Contains (names entries) name → ⊥) → lookup is_named entries ≡ None
  lookup-new entries new = by (lookup is_named entries) refl
    where
      by : (r : Option RelationView) → lookup is_named entries ≡ r → r ≡ None
      by None e = refl
      by (Some r) e = absurd (new (Contains-from_lookup entries (ap is_some e)))

-- the test by which a map tells its keys apart
abbrev pub same_key : {A : Type 0} → Vec ℕ A → Vec ℕ A → Bool
same_key key other = pointwise nat_eq key.items other.items

-- a new name goes last
pub named_relations-insert : {A S : Type 0} (m : IndexMap (Vec ℕ A) RelationView S) (key : Vec ℕ A) (r : RelationView) → (Contains (names m.entries) key.items → ⊥) → named_relations (insert_entry same_key m.entries key r) ≡ named_relations m.entries ++ record { name = key.items; relation = r } ∷ []
named_relations-insert m key r new =
    ap named_relations (insert_entry-new same_key m key r (lookup-new key.items m.entries new)) ∙ map-append (λ e. named_entry e) m.entries ((key, r) ∷ [])
