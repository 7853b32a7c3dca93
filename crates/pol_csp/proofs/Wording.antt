-- Rows as the bits of words.
use Rattle.std.proofs.Common.{◌≡◌, ℕ, ◌+◌, ◌*◌, ◌^◌, ◌<◌, arith, sym, ◌∙◌, List, [], get_or, length, inl, inr, ◌⊎◌, subst, Bool, true, false, refl}
use Rattle.std.specs.Prelude.{IsBitSet, bit_or, ◌≢◌, ◌↔◌, IsTrue, Contains, All}
use Rattle.std.proofs.lemmas.Nat.{div-mul-add, mod-mul-add, pow_below}
use Rattle.std.proofs.lemmas.Nat.Bits.{bit_at_ones}
use Rattle.std.proofs.lemmas.Bool.{cases_eq}
use Rattle.std.proofs.lemmas.List.{get_or-map, get_or_default}
use Rattle.pol_base.specs.Masks.{IsWithin}
use Rattle.pol_base.proofs.BitLemmas.{set_at, set_or_left, set_or_right, set_single, single_set}
use Rattle.pol_base.proofs.MaskLemmas.{lowest_set}
use Rattle.pol_relation.specs.Relations.{RelationView}
use Rattle.pol_relation.specs.Instances.{read_at}
use Rattle.pol_csp.specs.Narrowing.{LiesIn, HasBit}
use Rattle.pol_csp.specs.Words.{TellReads, TellEquals, IsReadBy, IsSameAtRepeats}
use Rattle.pol_csp.proofs.Narrowing.{left_le, left_falls, single_less}
use Rattle.pol_csp.proofs.Revising.{lies_read}

pub refuted : (b : Bool) → b ≡ false → IsTrue b → ⊥
refuted true e h = cc
refuted false e h = cc

-- every row is in the word of ones
pub all_set : (row : ℕ) → row < 128 → IsBitSet 340282366920938463463374607431768211455 row
all_set row small = set_at 340282366920938463463374607431768211455 row (bit_at_ones 128 row small)

-- a word of rows with one row more
pub row_added : (P : ℕ → Type 0) (word n : ℕ)
    → ((row : ℕ) → row < n → P row → IsBitSet word row)
    → (row : ℕ) → row < n + 1 → P row → IsBitSet (bit_or word (2 ^ n)) row
row_added P word n before row h holds = by (cases_eq row n)
  where
    by : (row ≡ n) ⊎ (row ≢ n) → IsBitSet (bit_or word (2 ^ n)) row
    by (inl e) = rw e (set_or_right word (2 ^ n) n (set_single n))
    by (inr ne) = set_or_left word (2 ^ n) row (before row (omega arith) holds)

-- a word of rows, where the next row need not be in it
pub row_left : (P : ℕ → Type 0) (word n : ℕ)
    → ((row : ℕ) → row < n → P row → IsBitSet word row)
    → (P n → ⊥)
    → (row : ℕ) → row < n + 1 → P row → IsBitSet word row
row_left P word n before non row h holds = by (cases_eq row n)
  where
    by : (row ≡ n) ⊎ (row ≢ n) → IsBitSet word row
    by (inl e) = absurd (non (subst P e holds))
    by (inr ne) = before row (omega arith) holds

-- the word of a place and a mask
pub with_word : (rows : List (List ℕ)) (withs : List ℕ) (place m row : ℕ)
    → TellReads rows withs
    → place * 32 + m < length withs
    → m < 32
    → row < length rows
    → IsBitSet m (get_or (get_or rows row []) place 0)
    → IsBitSet (get_or withs (place * 32 + m) 0) row
with_word rows withs place m row reads inside small known has =
    reads (place * 32 + m) row inside known (rw (div-mul-add place 32 m small, mod-mul-add place 32 m small) has)

-- the word of two places
pub equal_word : (rows : List (List ℕ)) (equals : List ℕ) (i j row : ℕ)
    → TellEquals rows equals
    → length equals ≡ 36
    → i < 6
    → j < 6
    → row < length rows
    → get_or (get_or rows row []) i 0 ≡ get_or (get_or rows row []) j 0
    → IsBitSet (get_or equals (i * 6 + j) 0) row
equal_word rows equals i j row equal counted fits small known same =
    equal (i * 6 + j) row (omega arith) known (rw (div-mul-add i 6 j small, mod-mul-add i 6 j small) same)

pub pow_small : (v : ℕ) → v < 5 → 2 ^ v < 32
pow_small v less = pow_below v 5 less

-- a mask of two parts, both not empty: the value and the others
module _ (mask v others : ℕ) (parts : (u : ℕ) → IsBitSet others u ↔ (IsBitSet mask u × (u ≡ v → ⊥))) where
  pub single_part : mask < 32 → (others ≡ 0 → ⊥) → IsBitSet mask v → 2 ^ v < mask
  single_part small some has = single_less mask v has many
    where
      many : mask ≡ 2 ^ v → ⊥
      many e =
          let le = left_le mask v others parts in
          let at = lowest_set others (record { some = omega arith; below = omega arith }) in
          let both = (parts _).0 at in
          both.1 (single_set v _ (rw e at both.0))

  -- the word of the mask is that of the parts together
  pub joined_word : (rows : List (List ℕ)) (withs : List ℕ) (place row : ℕ)
      → TellReads rows withs
      → length withs ≡ place * 32 + mask
      → mask < 32
      → (others ≡ 0 → ⊥)
      → IsBitSet mask v
      → row < length rows
      → IsBitSet mask (get_or (get_or rows row []) place 0)
      → IsBitSet (bit_or (get_or withs (place * 32 + others) 0) (get_or withs (place * 32 + 2 ^ v) 0)) row
  joined_word rows withs place row reads counted small some has known reads_mask = by (cases_eq u v)
    where
      u : ℕ
      u = get_or (get_or rows row []) place 0

      first : ℕ
      first = get_or withs (place * 32 + others) 0

      second : ℕ
      second = get_or withs (place * 32 + 2 ^ v) 0

      by : (u ≡ v) ⊎ (u ≢ v) → IsBitSet (bit_or first second) row
      by (inl e) =
          let less = single_part small some has in
          set_or_right first second row
          (with_word rows withs place (2 ^ v) row reads (omega arith) (omega arith) known
          (subst (λ x. IsBitSet (2 ^ v) x) (sym e) (set_single v)))
      by (inr ne) =
          let less = left_falls mask v others parts has in
          set_or_left first second row
          (with_word rows withs place others row reads (omega arith) (omega arith) known ((parts u).1 (reads_mask, ne)))

-- what is read reads one value where the scope repeats a cell
pub read_same : (xs scope : List ℕ) → IsSameAtRepeats scope (read_at xs scope)
read_same xs scope i j hi hj same =
    rw (get_or-map (λ v. get_or xs v 0) scope i 0 0 hi, get_or-map (λ v. get_or xs v 0) scope j 0 0 hj, same) refl

-- the row that a list within the masks reads is in the word of the rows within the masks
pub alive_row : (rows : List (List ℕ)) (masks scope xs : List ℕ) (word : ℕ)
    → All (λ c. c < length masks) scope
    → ((row : ℕ) → row < length rows → LiesIn masks scope (get_or rows row [])
    → IsSameAtRepeats scope (get_or rows row []) → IsBitSet word row)
    → IsWithin masks xs
    → (held : Contains rows (read_at xs scope))
    → IsBitSet word held.0
alive_row rows masks scope xs word cells alive w held =
    let t = read_at xs scope in
    let is : get_or rows held.0 [] ≡ t = get_or_default rows held.0 [] t held.1 ∙ held.2 in
    alive held.0 held.1 (subst (λ u. LiesIn masks scope u) (sym is) (lies_read masks scope xs cells w))
    (subst (λ u. IsSameAtRepeats scope u) (sym is) (read_same xs scope))

-- it reads the value of the list at each cell of the scope
pub read_alive : (rows : List (List ℕ)) (masks scope xs : List ℕ) (word : ℕ)
    → All (λ c. c < length masks) scope
    → ((row : ℕ) → row < length rows → LiesIn masks scope (get_or rows row [])
    → IsSameAtRepeats scope (get_or rows row []) → IsBitSet word row)
    → IsWithin masks xs
    → Contains rows (read_at xs scope)
    → (place : ℕ) → place < length scope → IsReadBy rows word place (get_or scope place 0) xs
read_alive rows masks scope xs word cells alive w held place h =
    let t = read_at xs scope in
    let is : get_or rows held.0 [] ≡ t = get_or_default rows held.0 [] t held.1 ∙ held.2 in
    record {
      row = held.0;
      known = held.1;
      has = alive_row rows masks scope xs word cells alive w held;
      reads = rw is (get_or-map (λ v. get_or xs v 0) scope place 0 0 h);
    }

-- what a word's rows read is found
pub read_found : (r s : RelationView) (word place cell found : ℕ) (xs : List ℕ)
    → r ≡ s
    → ((row : ℕ) → row < length r.rows → IsBitSet word row → IsBitSet found (get_or (get_or r.rows row []) place 0))
    → IsReadBy s.rows word place cell xs
    → HasBit cell found xs
read_found r s word place cell found xs same values read =
    let known : read.row < length r.rows = rw same read.known in
    let reads : get_or (get_or r.rows read.row []) place 0 ≡ get_or xs cell 0 = rw same read.reads in
    subst (λ v. IsBitSet found v) reads (values read.row known read.has)

-- the word of the rows within the masks, for an equal relation
pub alive_same : (r s : RelationView) (masks scope : List ℕ) (word : ℕ)
    → r ≡ s
    → ((row : ℕ) → row < length r.rows → LiesIn masks scope (get_or r.rows row [])
    → IsSameAtRepeats scope (get_or r.rows row []) → IsBitSet word row)
    → (row : ℕ) → row < length s.rows → LiesIn masks scope (get_or s.rows row [])
    → IsSameAtRepeats scope (get_or s.rows row []) → IsBitSet word row
alive_same r s masks scope word same alive =
    subst (λ (q : RelationView). (row : ℕ) → row < length q.rows → LiesIn masks scope (get_or q.rows row [])
    → IsSameAtRepeats scope (get_or q.rows row []) → IsBitSet word row) same alive
