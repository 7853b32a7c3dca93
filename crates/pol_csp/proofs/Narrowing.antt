-- How masks lose values.
use Rattle.std.proofs.Common.{◌≡◌, ℕ, ◌^◌, ◌<◌, ◌≤◌, arith, sym, ◌∙◌, List, get_or, set, length, inl, inr, ◌⊎◌, length-set, sum, min, refl}
use Rattle.std.specs.Prelude.{IsBitSet, bit_and, ◌≢◌, ◌↔◌}
use Rattle.std.specs.Int.{bit_at}
use Rattle.std.proofs.lemmas.List.{get_or-set_same, get_or-set_other}
use Rattle.std.proofs.lemmas.List.Elements.{All-set}
use Rattle.std.proofs.lemmas.List.Sums.{sum_by-set}
use Rattle.std.proofs.lemmas.Nat.{and_le_l}
use Rattle.std.proofs.lemmas.Nat.Bits.{bit_at-lt, bit_at_and, and_pow, same_from_bits}
use Rattle.std.proofs.lemmas.Bool.{cases_eq}
use Rattle.pol_base.specs.Masks.{IsMask, AreMasks, IsWithin}
use Rattle.pol_base.proofs.BitLemmas.{at_set, set_at, set_and, set_left}
use Rattle.pol_csp.specs.Narrowing.{HasBit, IsElse, Narrows, Rejects}

pub narrows_refl : (K : List ℕ → Type 0) (masks : List ℕ) → Narrows K masks masks
narrows_refl K masks = record {
  long = refl;
  masks = λ d are. are;
  lower = omega arith;
  inside = λ xs w. w;
  keeps = λ xs w k. w;
}

pub narrows_trans : (K : List ℕ → Type 0) (a b c : List ℕ) → Narrows K a b → Narrows K b c → Narrows K a c
narrows_trans K a b c f s = record {
  long = s.long ∙ f.long;
  masks = λ d are. s.masks d (f.masks d are);
  lower = omega arith;
  inside = λ xs w. f.inside xs (s.inside xs w);
  keeps = λ xs w k. s.keeps xs (f.keeps xs w k) k;
}

-- for fewer lists
pub narrows_for : (K L : List ℕ → Type 0) (a b : List ℕ)
    → ((xs : List ℕ) → IsWithin a xs → L xs → K xs)
    → Narrows K a b
    → Narrows L a b
narrows_for K L a b less n = record {
  long = n.long;
  masks = n.masks;
  lower = n.lower;
  inside = n.inside;
  keeps = λ xs w l. n.keeps xs w (less xs w l);
}

pub rejects_after : (K : List ℕ → Type 0) (a b : List ℕ) → Narrows K a b → Rejects K b → Rejects K a
rejects_after K a b n r xs w k = r xs (n.keeps xs w k) k

-- a further step, for lists of which more is known
pub narrows_step : (K H : List ℕ → Type 0) (a b c : List ℕ)
    → Narrows K a b
    → ((xs : List ℕ) → IsWithin b xs → K xs → H xs)
    → Narrows H b c
    → Narrows K a c
narrows_step K H a b c n has s = narrows_trans K a b c n (narrows_for H K b c has s)

pub rejects_step : (K H : List ℕ → Type 0) (a b : List ℕ)
    → Narrows K a b
    → ((xs : List ℕ) → IsWithin b xs → K xs → H xs)
    → Rejects H b
    → Rejects K a
rejects_step K H a b n has r = rejects_after K a b n (λ xs w k. r xs w (has xs w k))

-- a cell's mask is replaced by a part of it that has the value of each list of K
pub set_narrows : (K : List ℕ → Type 0) (masks : List ℕ) (c m : ℕ)
    → c < length masks
    → 0 < m
    → m ≤ get_or masks c 0
    → ((v : ℕ) → IsBitSet m v → IsBitSet (get_or masks c 0) v)
    → ((xs : List ℕ) → IsWithin masks xs → K xs → IsBitSet m (get_or xs c 0))
    → Narrows K masks (set masks c m)
set_narrows K masks c m fits some less part has = record {
  long = length-set masks c m;
  masks = λ d are. All-set (IsMask d) masks c m (mask d are) are;
  lower = omega (arith, sum_by-set (λ x. x) masks c m 0 fits);
  inside = λ xs w. record { long = w.long ∙ length-set masks c m; within = inside xs w };
  keeps = λ xs w h. record { long = w.long ∙ sym (length-set masks c m); within = keeps xs w h };
}
  where
    mask : (d : ℕ) → AreMasks d masks → IsMask d m
    mask d are =
        let old : IsMask d (get_or masks c 0) = are c 0 fits in
        record { some = some; below = (let top : get_or masks c 0 < 2 ^ d = old.below in omega arith) }

    inside : (xs : List ℕ) → IsWithin (set masks c m) xs → (k : ℕ) → k < length xs
        → IsBitSet (get_or masks k 0) (get_or xs k 0)
    inside xs w k h = at (cases_eq k c)
      where
        at : (k ≡ c) ⊎ (k ≢ c) → IsBitSet (get_or masks k 0) (get_or xs k 0)
        at (inl e) =
            let here : IsBitSet (get_or (set masks c m) c 0) (get_or xs c 0) = w.within c (rw (← e) h) in
            rw e (part (get_or xs c 0) (rw (get_or-set_same masks c m 0 fits) at here))
        at (inr ne) = rw (get_or-set_other masks c k m 0 ne) at (w.within k h)

    keeps : (xs : List ℕ) → IsWithin masks xs → K xs → (k : ℕ) → k < length xs
        → IsBitSet (get_or (set masks c m) k 0) (get_or xs k 0)
    keeps xs w k0 k h = at (cases_eq k c)
      where
        at : (k ≡ c) ⊎ (k ≢ c) → IsBitSet (get_or (set masks c m) k 0) (get_or xs k 0)
        at (inl e) = rw (e, get_or-set_same masks c m 0 fits) (has xs w k0)
        at (inr ne) = rw (get_or-set_other masks c k m 0 ne) (w.within k h)

pub set_falls : (masks : List ℕ) (c m : ℕ)
    → c < length masks
    → m < get_or masks c 0
    → sum (set masks c m) < sum masks
set_falls masks c m fits less = omega (arith, sum_by-set (λ x. x) masks c m 0 fits)

-- the value that a list has at a cell is in the cell's mask
pub value_within : (masks xs : List ℕ) (c : ℕ) → c < length masks → IsWithin masks xs
    → IsBitSet (get_or masks c 0) (get_or xs c 0)
value_within masks xs c fits w = w.within c (omega (arith, w.long))

-- one mask meets another
pub meet_narrows : (masks : List ℕ) (c m : ℕ)
    → c < length masks
    → bit_and (get_or masks c 0) m ≢ 0
    → Narrows (HasBit c m) masks (set masks c (bit_and (get_or masks c 0) m))
meet_narrows masks c m fits some =
    set_narrows (HasBit c m) masks c (bit_and (get_or masks c 0) m) fits (omega arith) (and_le_l (get_or masks c 0) m)
    (λ v s. set_left (get_or masks c 0) m v s)
    (λ xs w has. set_and (get_or masks c 0) m (get_or xs c 0) (value_within masks xs c fits w) has)

zero_and : (v : ℕ) → bit_and 0 (2 ^ v) ≡ 0
zero_and v = let h : bit_and 0 (2 ^ v) ≤ 0 = and_le_l 0 (2 ^ v) in omega arith

-- no value is in the empty mask
pub none_set : (m v : ℕ) → m ≡ 0 → IsBitSet m v → ⊥
none_set m v none s = (rw none at s) (zero_and v)

pub meet_rejects : (masks : List ℕ) (c m : ℕ)
    → c < length masks
    → bit_and (get_or masks c 0) m ≡ 0
    → Rejects (HasBit c m) masks
meet_rejects masks c m fits none xs w has =
    let here = value_within masks xs c fits w in
    none_set (bit_and (get_or masks c 0) m) (get_or xs c 0) none (set_and (get_or masks c 0) m (get_or xs c 0) here has)

-- a mask of one value is not greater than a mask that has the value
pub single_le : (m v : ℕ) → IsBitSet m v → 2 ^ v ≤ m
single_le m v has =
    let is : bit_and m (2 ^ v) ≡ 2 ^ v = and_pow m v ∙ rw (at_set m v has) (omega arith) in
    let le : bit_and m (2 ^ v) ≤ m = and_le_l m (2 ^ v) in
    omega arith

pub single_less : (m v : ℕ) → IsBitSet m v → (m ≡ 2 ^ v → ⊥) → 2 ^ v < m
single_less m v has many = let le = single_le m v has in omega arith

-- a part of a mask is not greater as a number
pub part_le : (part whole : ℕ) → ((v : ℕ) → IsBitSet part v → IsBitSet whole v) → part ≤ whole
part_le part whole inside =
    let is : part ≡ bit_and whole part = same_from_bits part (bit_and whole part)
    (λ v. bit v ∙ sym (bit_at_and whole part v)) in
    let le : bit_and whole part ≤ whole = and_le_l whole part in
    omega arith
  where
    by : (x y : ℕ) → x < 2 → y < 2 → (x ≡ 1 → y ≡ 1) → x ≡ min y x
    by x y low small up = at (cases_eq x 1)
      where
        at : (x ≡ 1) ⊎ (x ≢ 1) → x ≡ min y x
        at (inl e) = let f : y ≡ 1 = up e in omega arith
        at (inr ne) = omega arith

    bit : (v : ℕ) → bit_at part v ≡ min (bit_at whole v) (bit_at part v)
    bit v = by (bit_at part v) (bit_at whole v) (bit_at-lt part v) (bit_at-lt whole v)
        (λ e. at_set whole v (inside v (set_at part v e)))

-- a value is taken from a mask
module _ (whole v left : ℕ) (others : (u : ℕ) → IsBitSet left u ↔ (IsBitSet whole u × (u ≡ v → ⊥))) where
  pub left_le : left ≤ whole
  left_le = part_le left whole (λ u has. ((others u).0 has).0)

  pub left_falls : IsBitSet whole v → left < whole
  left_falls has = by (cases_eq left whole)
    where
      by : (left ≡ whole) ⊎ (left ≢ whole) → left < whole
      by (inl e) = absurd (((others v).0 (rw e has)).1 refl)
      by (inr ne) = let le = left_le in omega arith

pub drop_narrows : (masks : List ℕ) (c v left : ℕ)
    → c < length masks
    → left ≢ 0
    → ((u : ℕ) → IsBitSet left u ↔ (IsBitSet (get_or masks c 0) u × (u ≡ v → ⊥)))
    → Narrows (IsElse c v) masks (set masks c left)
drop_narrows masks c v left fits some others =
    set_narrows (IsElse c v) masks c left fits (omega arith) (left_le (get_or masks c 0) v left others)
    (λ u has. ((others u).0 has).0)
    (λ xs w ne. (others (get_or xs c 0)).1 (value_within masks xs c fits w, ne))

pub drop_rejects : (masks : List ℕ) (c v left : ℕ)
    → c < length masks
    → left ≡ 0
    → ((u : ℕ) → IsBitSet left u ↔ (IsBitSet (get_or masks c 0) u × (u ≡ v → ⊥)))
    → Rejects (IsElse c v) masks
drop_rejects masks c v left fits none others xs w ne =
    none_set left (get_or xs c 0) none ((others (get_or xs c 0)).1 (value_within masks xs c fits w, ne))
