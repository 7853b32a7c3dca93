-- What a table is made of rows that represent a set.
use Rattle.std.specs.Prelude.{◌≡◌, ◌<◌, ℕ, List, [], ◌∷◌, slice_index, Contains}
use Rattle.pol_optable.specs.Operations.{Operation, image}
use Rattle.pol_rows.specs.Signatures.{InSignature}
use Rattle.pol_rows.specs.RowLists.{IsShownBy}
use Rattle.pol_maltsev.specs.Tables.{IsLeastOf}

-- u is made of w and a pair of rows that agree before i and have b and a there
pub record IsMadeOfPair (f : Operation) (n i : ℕ) (rows : List (List ℕ)) (w : List ℕ) (b a : ℕ) (u : List ℕ)
    : Type 0 where
  pub pair : InSignature (Contains rows) i b a
  pub made : u ≡ image f n (w ∷ pair.one ∷ pair.other ∷ [])

-- the rows and roots of place i that are made of rows that represent the set
pub record IsMadeOfRows (f : Operation) (n i : ℕ) (rows : List (List ℕ)) (row : ℕ → List ℕ)
    (root : ℕ → ℕ)
    : Type 0 where
  pub gone : (a : ℕ) → a < f.domain → root a < f.domain → InSignature (Contains rows) i a a
  pub chosen : (a : ℕ) → a < f.domain → InSignature (Contains rows) i a a
      → IsLeastOf f.domain (λ b. InSignature (Contains rows) i b a) (root a)
  pub listed : (a : ℕ) → a < f.domain → root a ≡ a → Contains rows (row a)
  pub there : (a : ℕ) → a < f.domain → root a ≡ a → slice_index (row a) i ≡ a
  pub moved : (a : ℕ) → a < f.domain → InSignature (Contains rows) i a a → (root a ≡ a → ⊥)
      → IsMadeOfPair f n i rows (row (root a)) (root a) a (row a)

-- b is the least value that stands at place i with a behind one front, as the rows with the numbers p and q show
pub record IsLeader (d : ℕ) (rows : List (List ℕ)) (i a b p q : ℕ) : Type 0 where
  pub least : IsLeastOf d (λ c. InSignature (Contains rows) i c a) b
  pub shown : IsShownBy rows i b a p q

-- the row and the root of one value at place i, beside the rows of the smaller values
pub record IsValueOfRows (f : Operation) (n i : ℕ) (rows : List (List ℕ)) (smaller : ℕ → List ℕ) (a : ℕ)
    (row : List ℕ) (root : ℕ) : Type 0 where
  pub gone : root < f.domain → InSignature (Contains rows) i a a
  pub chosen : InSignature (Contains rows) i a a → IsLeastOf f.domain (λ b. InSignature (Contains rows) i b a) root
  pub listed : root ≡ a → Contains rows row
  pub there : root ≡ a → slice_index row i ≡ a
  pub moved : InSignature (Contains rows) i a a → (root ≡ a → ⊥)
      → IsMadeOfPair f n i rows (smaller root) root a row
