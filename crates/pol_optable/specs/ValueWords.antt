-- Sets of rows of a relation: the bit i % 128 of word i / 128 stands for row i.
use Rattle.std.specs.Prelude.{◌≡◌, ◌↔◌, ◌<◌, ◌≤◌, ◌+◌, ◌*◌, ◌/◌}
use Rattle.std.specs.Prelude.{◌%◌, ℕ, List, [], length, map, IsBitSet, slice_index, slice_index_or}
use Rattle.pol_base.specs.Masks.{AreMasks}
use Rattle.pol_relation.specs.Relations.{RelationView}
use Rattle.pol_optable.specs.SetFunctions.{SetFunctionView, value_of_set}

-- how many words have a bit for each row
abbrev pub word_count : RelationView → ℕ
word_count r = (length r.rows + 127) / 128

-- the bit of the number is set
abbrev pub HasNumber : List ℕ → ℕ → Type 0
HasNumber words i = IsBitSet (slice_index words (i / 128)) (i % 128)

-- the number is that of a row with the value at the place
pub record HasValue (r : RelationView) (place value i : ℕ) : Type 0 where
  pub known : i < length r.rows
  pub value_is : slice_index (slice_index_or r.rows i []) place ≡ value

-- the number is that of a row with a value of the mask at the place
pub record HasValueOf (r : RelationView) (place mask i : ℕ) : Type 0 where
  pub known : i < length r.rows
  pub in_mask : IsBitSet mask (slice_index (slice_index_or r.rows i []) place)

-- of each 30 words, that at 5 times a place and a value has the rows with the value there
pub record AreValueWords (r : RelationView) (words : List ℕ) : Type 0 where
  pub counted : word_count r * 30 ≤ length words
  pub rows_are : (place value i : ℕ) → place < r.arity → value < 5
      → IsBitSet (slice_index words (i / 128 * 30 + place * 5 + value)) (i % 128) ↔ HasValue r place value i

-- the number is that of a row whose values at the first places are in the masks
pub record IsRowIn (r : RelationView) (masks : List ℕ) (i : ℕ) : Type 0 where
  pub known : i < length r.rows
  pub within : (place : ℕ) → place < length masks
      → IsBitSet (slice_index masks place) (slice_index (slice_index_or r.rows i []) place)

-- the number is that of a row that begins with the values
pub record BeginsWith (r : RelationView) (values : List ℕ) (i : ℕ) : Type 0 where
  pub known : i < length r.rows
  pub same : (place : ℕ) → place < length values
      → slice_index (slice_index_or r.rows i []) place ≡ slice_index values place

-- the value stands at the place in a row of the words
pub record IsReadAt (r : RelationView) (words : List ℕ) (place value : ℕ) : Type 0 where
  pub row : ℕ
  pub has : HasNumber words row
  pub reads : HasValue r place value row

-- the value stands at the place in a row of one of the words
pub record IsReadIn (r : RelationView) (i word place value : ℕ) : Type 0 where
  pub row : ℕ
  pub in_word : row / 128 ≡ i
  pub has : IsBitSet word (row % 128)
  pub reads : HasValue r place value row

-- each value of the masks stands at its place in a row of the words
abbrev pub AreAllRead : RelationView → List ℕ → List ℕ → Type 0
AreAllRead r words masks = (place value : ℕ) → place < length masks → IsBitSet (slice_index masks place) value
    → IsReadAt r words place value

-- masks that are chosen for the first places: the words have the rows in them, and these have all their values
pub record AreChosen (r : RelationView) (front words : List ℕ) : Type 0 where
  pub are_masks : AreMasks r.domain front
  pub counted : length words ≡ word_count r
  pub rows_are : (i : ℕ) → HasNumber words i ↔ IsRowIn r front i
  pub are_read : AreAllRead r words front

-- the words have the rows that begin with what the set function makes of the chosen masks
pub record HaveImage (g : SetFunctionView) (r : RelationView) (front words : List ℕ) : Type 0 where
  pub counted : length words ≡ word_count r
  pub rows_are : (i : ℕ) → HasNumber words i ↔ BeginsWith r (map (λ mask. value_of_set g mask) front) i
