-- What the size of a signature and a least pair are to a reader who counts triples and tries pairs.
use Rattle.std.specs.Prelude.{◌≡◌, ◌≢◌, ◌↔◌, ◌<◌, ℕ, List, length, All, AllPairs, Contains}
use Rattle.pol_base.specs.Tuples.{IsTuple}
use Rattle.pol_rows.specs.Signatures.{InSignature, IsSignatureSize}
use Rattle.pol_rows.specs.RowLists.{IsShownBy, IsLeastPair}

-- a place and two values
pub record Triple : Type 0 where
  pub place : ℕ
  pub first : ℕ
  pub second : ℕ

-- a triple of the signature of n-tuples
pub record IsTripleOf (n : ℕ) (T : List ℕ → Type 0) (t : Triple) : Type 0 where
  pub placed : t.place < n
  pub shown : InSignature T t.place t.first t.second

-- the triples of the signature, each once
pub record ListsSignature (n : ℕ) (T : List ℕ → Type 0) (triples : List Triple) : Type 0 where
  pub distinct : AllPairs (λ s t. s ≢ t) triples
  pub only : All (IsTripleOf n T) triples
  pub all : (t : Triple) → IsTripleOf n T t → Contains triples t

-- the size of the signature of rows is how many triples it has
abbrev pub SizeCountsTriples : Type 0
SizeCountsTriples =
    (n d size : ℕ) (rows : List (List ℕ)) (triples : List Triple)
    → All (IsTuple d n) rows
    → IsSignatureSize n d (Contains rows) size
    → ListsSignature n (Contains rows) triples
    → size ≡ length triples

-- rows have one size
abbrev pub SizeIsOne : Type 0
SizeIsOne =
    (n d one other : ℕ) (rows : List (List ℕ))
    → IsSignatureSize n d (Contains rows) one
    → IsSignatureSize n d (Contains rows) other
    → one ≡ other

-- a triple is in the signature exactly where two numbers of rows show it
abbrev pub ShownIsInSignature : Type 0
ShownIsInSignature =
    (rows : List (List ℕ)) (i a b : ℕ)
    → InSignature (Contains rows) i a b ↔ ((p : ℕ) × (q : ℕ) × IsShownBy rows i a b p q)

-- there is one least pair
abbrev pub LeastPairIsOne : Type 0
LeastPairIsOne =
    (rows : List (List ℕ)) (i a b p q j k : ℕ)
    → IsLeastPair rows i a b p q
    → IsLeastPair rows i a b j k
    → (p ≡ j) × (q ≡ k)
