-- Constraints take values from masks.
use Rattle.std.proofs.Common.{◌≡◌, ℕ, ◌<◌, arith, sym, ◌∙◌, ap, List, [], get_or, length, All, Option, None, Some, subst}
use Rattle.std.specs.Prelude.{IsBitSet, Contains}
use Rattle.std.proofs.lemmas.List.{get_or-map, get_or_default}
use Rattle.pol_base.specs.Masks.{IsWithin}
use Rattle.pol_relation.specs.Relations.{LanguageView, RelationView, relation_of}
use Rattle.pol_relation.specs.Instances.{read_at}
use Rattle.pol_csp.specs.Narrowing.{LiesIn, HasBit, Narrows}
use Rattle.pol_csp.specs.Words.{IsIndex}

-- what has words in the index of an equal language is the relation with the number
pub indexed : (inner outer : LanguageView) (words : List (Option RelationView)) (number : ℕ) (r : RelationView)
    → IsIndex inner words
    → inner ≡ outer
    → number < length words
    → get_or words number None ≡ Some r
    → r ≡ relation_of outer number
indexed inner outer words number r index same inside here =
    index number r inside here ∙ ap (λ l. relation_of l number) same

-- a tuple that is read within the masks lies in them
pub lies_read : (masks scope xs : List ℕ)
    → All (λ c. c < length masks) scope
    → IsWithin masks xs
    → LiesIn masks scope (read_at xs scope)
lies_read masks scope xs cells w j h =
    let low : get_or scope j 0 < length masks = cells j 0 h in
    rw (get_or-map (λ v. get_or xs v 0) scope j 0 0 h) (w.within (get_or scope j 0) (omega (arith, w.long)))

-- what holds of each row by its number holds of each row
pub at_each_row : (rows : List (List ℕ)) (masks scope found : List ℕ) (n : ℕ)
    → n ≡ length rows
    → ((i : ℕ) → i < n → LiesIn masks scope (get_or rows i [])
    → (j : ℕ) → j < length scope → IsBitSet (get_or found j 0) (get_or (get_or rows i []) j 0))
    → (t : List ℕ) → Contains rows t → LiesIn masks scope t
    → (j : ℕ) → j < length scope → IsBitSet (get_or found j 0) (get_or t j 0)
at_each_row rows masks scope found n all each t held lies j h =
    let is : get_or rows held.0 [] ≡ t = get_or_default rows held.0 [] t held.1 ∙ held.2 in
    let low : held.0 < n = (let known : held.0 < length rows = held.1 in omega arith) in
    subst (λ u. IsBitSet (get_or found j 0) (get_or u j 0)) is
    (each held.0 low (subst (λ u. LiesIn masks scope u) (sym is) lies) j h)

-- a list within the masks that reads a row has at each place a value that was found
pub supported : (rows : List (List ℕ)) (masks now scope found xs : List ℕ) (K : List ℕ → Type 0)
    → Narrows K masks now
    → All (λ c. c < length masks) scope
    → ((t : List ℕ) → Contains rows t → LiesIn masks scope t
    → (j : ℕ) → j < length scope → IsBitSet (get_or found j 0) (get_or t j 0))
    → IsWithin now xs
    → Contains rows (read_at xs scope)
    → (j : ℕ) → j < length scope → HasBit (get_or scope j 0) (get_or found j 0) xs
supported rows masks now scope found xs K n cells each w held j h =
    rw (get_or-map (λ v. get_or xs v 0) scope j 0 0 h)
    at (each (read_at xs scope) held (lies_read masks scope xs cells (n.inside xs w)) j h)
