-- Words into which rows are written, one after another.
use Rattle.std.proofs.Common.{◌≡◌, ◌≢◌, ℕ, ◌+◌, ◌*◌, ◌/◌, ◌%◌, ◌<◌, ◌⊎◌, ◌↔◌, inl, inr, List, get_or, sym, ap, ◌∙◌, arith}
use Rattle.std.specs.Prelude.{IsBitSet}
use Rattle.std.proofs.lemmas.Bool.{cases_eq}
use Rattle.pol_relation.specs.Relations.{RelationView}
use Rattle.pol_optable.specs.ValueWords.{HasValue}

-- what is marked of a row at the places up to one, by what was marked before and at that one
pub marked_more :
    (Old Before Now : Type 0) (row : List ℕ) (i k p v place : ℕ)
    → (Now ↔ (Before ⊎ ((k ≡ i) × (p ≡ place) × (v ≡ get_or row place 0))))
    → (Before ↔ (Old ⊎ ((k ≡ i) × (p < place) × (get_or row p 0 ≡ v))))
    → Now ↔ (Old ⊎ ((k ≡ i) × (p < place + 1) × (get_or row p 0 ≡ v)))
marked_more Old Before Now row i k p v place more before = (to, from)
  where
    to : Now → Old ⊎ ((k ≡ i) × (p < place + 1) × (get_or row p 0 ≡ v))
    to now =
        elim (more.0 now) [
          | inl then ↦ elim (before.0 then) [
            | inl old ↦ inl old
            | inr done ↦ inr (done.0, omega (arith, done.1), done.2)
          ]
          | inr here ↦ inr (here.0, omega (arith, here.1), ap (λ n. get_or row n 0) here.1 ∙ sym here.2)
        ]

    by : (k ≡ i) → (p < place + 1) → (get_or row p 0 ≡ v) → (p ≡ place) ⊎ (p ≢ place) → Now
    by same low value (inl here) = more.1 (inr (same, here, sym value ∙ ap (λ n. get_or row n 0) here))
    by same low value (inr apart) = more.1 (inl (before.1 (inr (same, omega (arith, low, apart), value))))

    from : Old ⊎ ((k ≡ i) × (p < place + 1) × (get_or row p 0 ≡ v)) → Now
    from (inl old) = more.1 (inl (before.1 (inl old)))
    from (inr done) = by done.0 done.1 done.2 (cases_eq p place)

-- the bits of the first n rows, and no other bit
abbrev pub AreSomeWords : RelationView → ℕ → List ℕ → Type 0
AreSomeWords r n words = (place value k : ℕ) → place < r.arity → value < 5
    → IsBitSet (get_or words (k / 128 * 30 + place * 5 + value) 0) (k % 128) ↔ ((k < n) × HasValue r place value k)
