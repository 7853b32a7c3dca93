-- The bits of the words of rows.
use Rattle.std.proofs.Common.{◌≡◌, ◌≢◌, ℕ, ◌+◌, ◌*◌, ◌/◌, ◌%◌, ◌^◌, ◌<◌, ◌≤◌, ◌⊎◌, ◌↔◌, inl, inr, List, [], length, take, set, get_or, sym, ap, ◌∙◌, subst, arith, refl}
use Rattle.std.specs.Prelude.{Bool, false, IsTrue, IsBitSet, bit_and, bit_or}
use Rattle.std.proofs.Math.ListN.{get_or-eq_default}
use Rattle.std.proofs.lemmas.Bool.{cases_eq, cases_lt}
use Rattle.std.proofs.lemmas.List.{get_or-set_same, get_or-set_other, get_or-take, length-take-le}
use Rattle.std.proofs.lemmas.Nat.{and_le_l, div-mul-add, mod-mul-add}
use Rattle.pol_base.specs.Tuples.{IsTuple}
use Rattle.std.proofs.lemmas.Nat.Bits.{bit_at_ones}
use Rattle.pol_base.proofs.BitLemmas.{set_at, set_single, single_set, set_pos}
use Rattle.pol_relation.specs.Relations.{RelationView, IsRelation}
use Rattle.pol_optable.specs.ValueWords.{HasNumber, HasValue, HasValueOf, IsReadIn, IsReadAt}
use Rattle.pol_optable.proofs.SetLemmas.{SomeBit, and_set, or_set, some_bit}

pub refuted : (b : Bool) → b ≡ false → IsTrue b → ⊥
refuted b is_false is_true = cc

pub by_both : {A B C : Type 0} → (A ↔ B) → (B ↔ C) → A ↔ C
by_both one other = (λ a. other.0 (one.0 a), λ c. one.1 (other.1 c))

-- 0 has no bit
pub no_bit : (m v : ℕ) → m ≡ 0 → IsBitSet m v → ⊥
no_bit m v zero_is set = let some = set_pos m v set in omega (arith, some)

-- a bit is in one of the words
pub number_in : (words : List ℕ) (i : ℕ) → HasNumber words i → i / 128 < length words
number_in words i has = by (cases_lt (i / 128) (length words))
  where
    by : (i / 128 < length words) ⊎ (length words ≤ i / 128) → i / 128 < length words
    by (inl inside) = inside
    by (inr past) = absurd (no_bit (get_or words (i / 128) 0) (i % 128) (get_or-eq_default words 0 past) has)

-- a value of a row is one of the domain
pub row_value :
    (r : RelationView) (i place : ℕ)
    → IsRelation r
    → i < length r.rows
    → place < r.arity
    → get_or (get_or r.rows i []) place 0 < 5
row_value r i place is known here =
    let tuple : IsTuple r.domain r.arity (get_or r.rows i []) = is.tuples i [] known in
    let below : get_or (get_or r.rows i []) place 0 < r.domain = tuple.below place 0 (omega (arith, here, tuple.long)) in
    omega (arith, below, is.domain_is.few)

-- ---- the words of the values are written

-- one bit more is set, at a place and a value of the number i: the bits at a place and a value of the number k
module _ (words : List ℕ) (i place value : ℕ) (room : i / 128 * 30 + 30 ≤ length words) (p : place < 6) (v : value < 5) where
  abbrev pub word_at : ℕ → ℕ → ℕ → ℕ
  word_at k q u = k / 128 * 30 + q * 5 + u

  abbrev pub with_bit : List ℕ
  with_bit = set words (word_at i place value) (bit_or (get_or words (word_at i place value) 0) (2 ^ (i % 128)))

  pub one_more : (k q u : ℕ) → q < 6 → u < 5
      → IsBitSet (get_or with_bit (word_at k q u) 0) (k % 128)
      ↔ (IsBitSet (get_or words (word_at k q u) 0) (k % 128) ⊎ ((k ≡ i) × (q ≡ place) × (u ≡ value)))
  one_more k q u q_small u_small = by (cases_eq (word_at k q u) (word_at i place value))
    where
      by : (word_at k q u ≡ word_at i place value) ⊎ (word_at k q u ≢ word_at i place value)
          → IsBitSet (get_or with_bit (word_at k q u) 0) (k % 128)
          ↔ (IsBitSet (get_or words (word_at k q u) 0) (k % 128) ⊎ ((k ≡ i) × (q ≡ place) × (u ≡ value)))
      by (inl same) =
          let inside : word_at i place value < length words = omega (arith, room, p, v) in
          let there : get_or with_bit (word_at k q u) 0 ≡ bit_or (get_or words (word_at k q u) 0) (2 ^ (i % 128)) =
          ap (λ n. get_or with_bit n 0) same
          ∙ get_or-set_same words (word_at i place value) (bit_or (get_or words (word_at i place value) 0) (2 ^ (i % 128))) 0 inside
          ∙ ap (λ n. bit_or (get_or words n 0) (2 ^ (i % 128))) (sym same) in
          let either = or_set (get_or words (word_at k q u) 0) (2 ^ (i % 128)) (k % 128) in (
            λ set. elim (either.0 (subst (λ m. IsBitSet m (k % 128)) there set)) [
              | inl before ↦ inl before
              | inr single ↦ (let bit : k % 128 ≡ i % 128 = single_set (i % 128) (k % 128) single in
                  inr (omega (arith, bit, same), omega (arith, same), omega (arith, same)))
            ],
            λ or. subst (λ m. IsBitSet m (k % 128)) (sym there) (either.1 (elim or [
              | inl before ↦ inl before
              | inr here ↦ inr (subst (λ n. IsBitSet (2 ^ (i % 128)) n) (ap (λ n. n % 128) (sym here.0)) (set_single (i % 128)))
            ])),
          )
      by (inr apart) =
          let there : get_or with_bit (word_at k q u) 0 ≡ get_or words (word_at k q u) 0 =
          get_or-set_other words (word_at i place value) (word_at k q u) (bit_or (get_or words (word_at i place value) 0) (2 ^ (i % 128))) 0 apart in (
            λ set. inl (subst (λ m. IsBitSet m (k % 128)) there set),
            λ or. subst (λ m. IsBitSet m (k % 128)) (sym there) (elim or [
              | inl before ↦ before
              | inr here ↦ absurd (apart (same_word here.0 here.1 here.2))
            ]),
          )
        where
          same_word : k ≡ i → q ≡ place → u ≡ value → word_at k q u ≡ word_at i place value
          same_word ki qp uv = rw (ki, qp, uv) refl

-- ---- a word of the rows with values of a mask

-- the row has a value of the mask at the place, and it is a low one
pub record HasLowValue (r : RelationView) (place mask top i : ℕ) : Type 0 where
  pub known : i < length r.rows
  pub in_mask : IsBitSet mask (get_or (get_or r.rows i []) place 0)
  pub low : get_or (get_or r.rows i []) place 0 < top

module _ (r : RelationView) (place mask i : ℕ) where
  pub low_taken : (word other b value : ℕ)
      → IsBitSet mask value
      → (IsBitSet word b ↔ HasLowValue r place mask value i)
      → (IsBitSet other b ↔ HasValue r place value i)
      → IsBitSet (bit_or word other) b ↔ HasLowValue r place mask (value + 1) i
  low_taken word other b value in_mask before here = (
    λ set. elim ((or_set word other b).0 set) [
      | inl left ↦ (let has = before.0 left in record { known = has.known; in_mask = has.in_mask; low = omega (arith, has.low) })
      | inr right ↦ (let has = here.0 right in record {
        known = has.known;
        in_mask = subst (IsBitSet mask) (sym has.value_is) in_mask;
        low = omega (arith, has.value_is);
      })
    ],
    λ has. (or_set word other b).1 (elim (cases_eq (get_or (get_or r.rows i []) place 0) value) [
      | inl same ↦ inr (here.1 (record { known = has.known; value_is = same }))
      | inr apart ↦ inl (before.1 (record { known = has.known; in_mask = has.in_mask; low = omega (arith, has.low, apart) }))
    ]),
  )

  pub low_left : (word b value : ℕ)
      → (IsBitSet mask value → ⊥)
      → (IsBitSet word b ↔ HasLowValue r place mask value i)
      → IsBitSet word b ↔ HasLowValue r place mask (value + 1) i
  low_left word b value not_in before = (
    λ set. (let has = before.0 set in record { known = has.known; in_mask = has.in_mask; low = omega (arith, has.low) }),
    λ has. before.1 (record {
      known = has.known;
      in_mask = has.in_mask;
      low = (let other : get_or (get_or r.rows i []) place 0 ≢ value = λ same. not_in (subst (IsBitSet mask) same has.in_mask) in
          omega (arith, has.low, other));
    }),
  )

  -- each row has one of the five values
  pub all_values : IsRelation r → place < r.arity → mask ≡ 31 → HasValueOf r place mask i ↔ (i < length r.rows)
  all_values is here all = (
    λ has. has.known,
    λ known. record {
      known = known;
      in_mask = rw all (all_set (get_or (get_or r.rows i []) place 0) (row_value r i place is known here));
    },
  )
    where
      all_set : (v : ℕ) → v < 5 → IsBitSet 31 v
      all_set v small = set_at 31 v (bit_at_ones 5 v small)

-- ---- words are put one behind another

module _ (P : ℕ → Type 0) where
  pub put_more : (words : List ℕ) (i word : ℕ)
      → i < length words
      → ((row : ℕ) → row / 128 < i → HasNumber words row ↔ P row)
      → ((row : ℕ) → row / 128 ≡ i → IsBitSet word (row % 128) ↔ P row)
      → (row : ℕ)
      → row / 128 < i + 1
      → HasNumber (set words i word) row ↔ P row
  put_more words i word inside before here row low = by (cases_eq (row / 128) i)
    where
      by : (row / 128 ≡ i) ⊎ (row / 128 ≢ i) → HasNumber (set words i word) row ↔ P row
      by (inl same) =
          let there : get_or (set words i word) (row / 128) 0 ≡ word =
          ap (λ n. get_or (set words i word) n 0) same ∙ get_or-set_same words i word 0 inside in
          subst (λ m. IsBitSet m (row % 128) ↔ P row) (sym there) (here row same)
      by (inr apart) =
          let there : get_or (set words i word) (row / 128) 0 ≡ get_or words (row / 128) 0 =
          get_or-set_other words i (row / 128) word 0 apart in
          subst (λ m. IsBitSet m (row % 128) ↔ P row) (sym there) (before row (omega (arith, low, apart)))

-- the rows of a word that are in another too
pub word_and :
    (P : ℕ → Type 0) (from : List ℕ) (i word row : ℕ)
    → row / 128 ≡ i
    → (IsBitSet word (row % 128) ↔ P row)
    → IsBitSet (bit_and (get_or from i 0) word) (row % 128) ↔ (HasNumber from row × P row)
word_and P from i word row same told =
    let both = and_set (get_or from i 0) word (row % 128) in (
      λ set. (let each = both.0 set in (subst (λ n. IsBitSet (get_or from n 0) (row % 128)) (sym same) each.0, told.0 each.1)),
      λ each. both.1 (subst (λ n. IsBitSet (get_or from n 0) (row % 128)) same each.0, told.1 each.1),
    )

-- ---- the values that are read

module _ (r : RelationView) (place : ℕ) where
  -- a word that shares a row with that of a value
  pub read_from : (i word other value : ℕ)
      → word < 2 ^ 128
      → bit_and word other ≢ 0
      → ((row : ℕ) → row / 128 ≡ i → IsBitSet other (row % 128) ↔ HasValue r place value row)
      → IsReadIn r i word place value
  read_from i word other value small some told =
      let less : bit_and word other ≤ word = and_le_l word other in
      let found : SomeBit (bit_and word other) = some_bit (bit_and word other) (omega (arith, less, small)) some in
      let b = found.bit in
      let both = (and_set word other b).0 found.set in
      let quotient : (i * 128 + b) / 128 ≡ i = div-mul-add i 128 b found.small in
      let rest : (i * 128 + b) % 128 ≡ b = mod-mul-add i 128 b found.small in
      record {
        row = i * 128 + b;
        in_word = quotient;
        has = subst (IsBitSet word) (sym rest) both.0;
        reads = (told (i * 128 + b) quotient).0 (subst (IsBitSet other) (sym rest) both.1);
      }

  pub not_read_from : (i word other value : ℕ)
      → bit_and word other ≡ 0
      → ((row : ℕ) → row / 128 ≡ i → IsBitSet other (row % 128) ↔ HasValue r place value row)
      → IsReadIn r i word place value
      → ⊥
  not_read_from i word other value none told read =
      no_bit (bit_and word other) (read.row % 128) none
      ((and_set word other (read.row % 128)).1 (read.has, (told read.row read.in_word).1 read.reads))

  -- the values below a bound that are read
  pub record IsLowRead (i word top value : ℕ) : Type 0 where
    pub low : value < top
    pub read : IsReadIn r i word place value

  pub low_read_taken : (i word found top value : ℕ)
      → IsReadIn r i word place top
      → (IsBitSet found value ↔ IsLowRead i word top value)
      → IsBitSet (bit_or found (2 ^ top)) value ↔ IsLowRead i word (top + 1) value
  low_read_taken i word found top value read before = (
    λ set. elim ((or_set found (2 ^ top) value).0 set) [
      | inl left ↦ (let has = before.0 left in record { low = omega (arith, has.low); read = has.read })
      | inr single ↦ (let same : value ≡ top = single_set top value single in
          record { low = omega (arith, same); read = subst (λ v. IsReadIn r i word place v) (sym same) read })
    ],
    λ has. (or_set found (2 ^ top) value).1 (elim (cases_eq value top) [
      | inl same ↦ inr (subst (λ v. IsBitSet (2 ^ top) v) (sym same) (set_single top))
      | inr apart ↦ inl (before.1 (record { low = omega (arith, has.low, apart); read = has.read }))
    ]),
  )

  pub low_read_left : (i word found top value : ℕ)
      → (IsReadIn r i word place top → ⊥)
      → (IsBitSet found value ↔ IsLowRead i word top value)
      → IsBitSet found value ↔ IsLowRead i word (top + 1) value
  low_read_left i word found top value unread before = (
    λ set. (let has = before.0 set in record { low = omega (arith, has.low); read = has.read }),
    λ has. before.1 (record {
      low = (let other : value ≢ top = λ same. unread (subst (λ v. IsReadIn r i word place v) same has.read) in
          omega (arith, has.low, other));
      read = has.read;
    }),
  )

  -- of the first words, and one more

  at : (words : List ℕ) (row n : ℕ) → row / 128 < n → get_or (take n words) (row / 128) 0 ≡ get_or words (row / 128) 0
  at words row n low = get_or-take n words (row / 128) 0 low

  pub unread_none : (words : List ℕ) (value : ℕ) → IsReadAt r (take 0 words) place value → ⊥
  unread_none words value read = let inside = number_in (take 0 words) read.row read.has in omega (arith, inside)

  read_front : (words : List ℕ) (i value : ℕ)
      → i < length words
      → IsReadAt r (take i words) place value
      → IsReadAt r (take (i + 1) words) place value
  read_front words i value inside read =
      let in_front = number_in (take i words) read.row read.has in
      let long : length (take i words) ≡ i = length-take-le i words (omega (arith, inside)) in
      let low : read.row / 128 < i = omega (arith, in_front, long) in
      record {
        row = read.row;
        has = subst (λ m. IsBitSet m (read.row % 128))
            (at words read.row i low ∙ sym (at words read.row (i + 1) (omega (arith, low)))) read.has;
        reads = read.reads;
      }

  pub read_here : (words : List ℕ) (i value : ℕ) → IsReadIn r i (get_or words i 0) place value → IsReadAt r words place value
  read_here words i value read = record {
    row = read.row;
    has = subst (λ m. IsBitSet m (read.row % 128)) (ap (λ n. get_or words n 0) (sym read.in_word)) read.has;
    reads = read.reads;
  }

  pub read_split : (words : List ℕ) (i value : ℕ)
      → i < length words
      → IsReadAt r (take (i + 1) words) place value
      → IsReadAt r (take i words) place value ⊎ IsReadIn r i (get_or words i 0) place value
  read_split words i value inside read = by (cases_eq (read.row / 128) i)
    where
      by : (read.row / 128 ≡ i) ⊎ (read.row / 128 ≢ i)
          → IsReadAt r (take i words) place value ⊎ IsReadIn r i (get_or words i 0) place value
      by (inl same) =
          let there : get_or (take (i + 1) words) (read.row / 128) 0 ≡ get_or words i 0 =
          at words read.row (i + 1) (omega (arith, same)) ∙ ap (λ n. get_or words n 0) same in
          inr (record {
            row = read.row;
            in_word = same;
            has = subst (λ m. IsBitSet m (read.row % 128)) there read.has;
            reads = read.reads;
          })
      by (inr apart) =
          let in_front = number_in (take (i + 1) words) read.row read.has in
          let long : length (take (i + 1) words) ≡ i + 1 = length-take-le (i + 1) words (omega (arith, inside)) in
          let low : read.row / 128 < i = omega (arith, in_front, long, apart) in
          inl (record {
            row = read.row;
            has = subst (λ m. IsBitSet m (read.row % 128))
                (at words read.row (i + 1) (omega (arith, low)) ∙ sym (at words read.row i low)) read.has;
            reads = read.reads;
          })

  pub read_more : (words : List ℕ) (i found more value : ℕ)
      → i < length words
      → (IsBitSet found value ↔ IsReadAt r (take i words) place value)
      → (IsBitSet more value ↔ IsReadIn r i (get_or words i 0) place value)
      → IsBitSet (bit_or found more) value ↔ IsReadAt r (take (i + 1) words) place value
  read_more words i found more value inside before here = (
    λ set. elim ((or_set found more value).0 set) [
      | inl left ↦ read_front words i value inside (before.0 left)
      | inr right ↦ last (here.0 right)
    ],
    λ read. (or_set found more value).1 (elim (read_split words i value inside read) [
      | inl old ↦ inl (before.1 old)
      | inr new ↦ inr (here.1 new)
    ]),
  )
    where
      last : IsReadIn r i (get_or words i 0) place value → IsReadAt r (take (i + 1) words) place value
      last read =
          let same : get_or words i 0 ≡ get_or (take (i + 1) words) i 0 = sym (get_or-take (i + 1) words i 0 (omega arith)) in
          read_here (take (i + 1) words) i value (subst (λ m. IsReadIn r i m place value) same read)
