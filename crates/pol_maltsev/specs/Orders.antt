-- Orders of the places, and the places that stand first in one.
use Rattle.std.specs.Prelude.{◌≡◌, ◌<◌, ◌+◌, ◌≢◌, ℕ, List, length, slice_index}

-- a place among the first k of an order
pub record InFront (ord : List ℕ) (k j : ℕ) : Type 0 where
  pub index : ℕ
  pub early : index < k
  pub place : slice_index ord index ≡ j

-- a list with each place below n once
pub record IsOrder (n : ℕ) (ord : List ℕ) : Type 0 where
  pub long : length ord ≡ n
  pub below : (k : ℕ) → k < n → slice_index ord k < n
  pub once : (i k : ℕ) → i < n → k < n → slice_index ord i ≡ slice_index ord k → i ≡ k
  pub found : (p : ℕ) → p < n → InFront ord n p

-- an order after the swap of positions k and k + 1
pub record IsSwapped (k : ℕ) (old new : List ℕ) : Type 0 where
  pub long : length new ≡ length old
  pub first : slice_index new k ≡ slice_index old (k + 1)
  pub second : slice_index new (k + 1) ≡ slice_index old k
  pub others : (i : ℕ) → i ≢ k → i ≢ k + 1 → slice_index new i ≡ slice_index old i

-- the places of a scope are the first q of the order
pub record IsFrontScope (ord scope : List ℕ) (q : ℕ) : Type 0 where
  pub within : (e : ℕ) → e < length scope → InFront ord q (slice_index scope e)
  pub meets : (i : ℕ) → i < q → InFront scope (length scope) (slice_index ord i)

-- the places in ascending order
pub record IsNatural (n : ℕ) (ord : List ℕ) : Type 0 where
  pub long : length ord ≡ n
  pub itself : (k : ℕ) → k < n → slice_index ord k ≡ k

-- the places stand first in the order, as they are listed
abbrev pub AreFirst : List ℕ → List ℕ → Type 0
AreFirst places ord = (k : ℕ) → k < length places → slice_index ord k ≡ slice_index places k
