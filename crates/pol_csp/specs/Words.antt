-- The rows of a relation as the bits of words. A word that has further bits does no harm.
use Rattle.std.specs.Prelude.{◌≡◌, ◌<◌, ◌≤◌, ◌*◌, ◌/◌, ◌%◌, ℕ, List, [], length}
use Rattle.std.specs.Prelude.{slice_index, slice_index_or}
use Rattle.std.specs.Prelude.{IsBitSet, Option, Some, None}
use Rattle.pol_relation.specs.Relations.{LanguageView, RelationView, relation_of}

-- equal at places that read one cell
abbrev pub IsSameAtRepeats : List ℕ → List ℕ → Type 0
IsSameAtRepeats scope t = (i j : ℕ) → i < length scope → j < length scope
    → slice_index scope i ≡ slice_index scope j
    → slice_index t i ≡ slice_index t j

-- the word at 32 times a place and a mask has the rows that read a value of the mask there
abbrev pub TellReads : List (List ℕ) → List ℕ → Type 0
TellReads rows withs = (k row : ℕ) → k < length withs → row < length rows
    → IsBitSet (k % 32) (slice_index (slice_index_or rows row []) (k / 32))
    → IsBitSet (slice_index withs k) row

-- the word at 6 times a place and another has the rows that read one value at the two
abbrev pub TellEquals : List (List ℕ) → List ℕ → Type 0
TellEquals rows equals = (k row : ℕ) → k < length equals → row < length rows
    → slice_index (slice_index_or rows row []) (k / 6) ≡ slice_index (slice_index_or rows row []) (k % 6)
    → IsBitSet (slice_index equals k) row

-- words for each place and mask, and for each two places
pub record AreWords (rows : List (List ℕ)) (arity : ℕ) (withs equals : List ℕ) : Type 0 where
  pub few : length rows ≤ 128
  pub withs_counted : length withs ≡ arity * 32
  pub equals_counted : length equals ≡ 36
  pub reads : TellReads rows withs
  pub equal : TellEquals rows equals

-- the value of the cell is read at the place by a row that is in the word
pub record IsReadBy (rows : List (List ℕ)) (word place cell : ℕ) (xs : List ℕ) : Type 0 where
  pub row : ℕ
  pub known : row < length rows
  pub has : IsBitSet word row
  pub reads : slice_index (slice_index_or rows row []) place ≡ slice_index xs cell

-- what has words is the language's relation
abbrev pub IsIndex : LanguageView → List (Option RelationView) → Type 0
IsIndex lang words = (k : ℕ) (r : RelationView) → k < length words
    → slice_index_or words k None ≡ Some r
    → r ≡ relation_of lang k
