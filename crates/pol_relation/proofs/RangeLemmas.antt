-- What a test of all numbers below the length of a list says of its elements.
use Rattle.std.proofs.Common.{◌≡◌, ℕ, ◌<◌, ◌↔◌, Bool, true, false, true≢false, List, length, get_or, All, IsTrue, refl, sym, subst, arith}
use Rattle.std.specs.Bool.{MatchBool}
use Rattle.std.specs.List.{range_with_len, AllWithin, HoldsAt}
use Rattle.std.proofs.lemmas.List.{get_or_default}
use Rattle.std.proofs.lemmas.List.FromFn.{length-range_with_len, get_or-range_with_len}

module _ {X : Type 0} (P : X → Type 0) (xs : List X) (d : X) where
  abbrev pub HoldsOfPlace : ℕ → Type 0
  HoldsOfPlace k = P (get_or xs k d)

  abbrev pub FailsOfPlace : ℕ → Type 0
  FailsOfPlace k = HoldsOfPlace k → ⊥

  place-at : (n k : ℕ) → k < n → get_or (range_with_len 0 n) k 0 ≡ k
  place-at n k below = omega (arith, get_or-range_with_len 0 n k 0 below)

  pub All-from_places : (n : ℕ) (r : Bool) → n ≡ length xs → MatchBool r (AllWithin HoldsOfPlace (range_with_len 0 n) 0 (length (range_with_len 0 n))) ((k : ℕ) × (k < length (range_with_len 0 n)) × HoldsAt FailsOfPlace (range_with_len 0 n) k) → IsTrue r ↔ All P xs
  All-from_places n true same each = (
    λ _. λ k e inside.
        let below : k < n = omega (arith, same, inside) in
        let place : k < length (range_with_len 0 n) = omega (arith, below, length-range_with_len 0 n) in
        let here : HoldsOfPlace k = subst HoldsOfPlace (place-at n k below) (each k 0 (omega arith) place) in
        subst P (get_or_default xs k d e inside) here,
    λ _. refl,
  )
  All-from_places n false same found = (
    λ held. absurd (true≢false (sym held)),
    λ all.
        let k = found.0 in
        let below : k < n = omega (arith, found.1, length-range_with_len 0 n) in
        let fails : FailsOfPlace k = subst FailsOfPlace (place-at n k below) (found.2 0) in
        absurd (fails (all k d (omega (arith, same, below)))),
  )
