-- Sizes of signatures: by a test that computes, one number, and at most n d d.
use Rattle.std.proofs.Common.{◌≡◌, ℕ, zero, suc, ◌+◌, ◌*◌, ◌<◌, ◌≤◌, ◌↔◌, ◌&&◌, Bool, true, false, cond, eqb, List, Contains, take, length, get_or, ◌∙◌, ap, refl, add-one, arith}
use Rattle.std.specs.Prelude.{slice_index, Decides, bytes_eq, Any, IsBitSet}
use Rattle.std.specs.List.{list_any}
use Rattle.std.specs.Int.{bit_at}
use Rattle.std.proofs.lemmas.Bool.{false≢true}
use Rattle.std.proofs.lemmas.Bool.Decides.{Decides-and, Decides-eqb, Decides-like}
use Rattle.std.proofs.lemmas.Nat.Bits.{bit_at-lt}
use Rattle.std.proofs.lemmas.List.{get_or-take, length-take-le}
use Rattle.std.proofs.lemmas.Slice.Eq.{bytes_eq-Decides}
use Rattle.std.proofs.lemmas.List.Folds.{Any-from_list_any, list_any_at}
use Rattle.pol_base.proofs.BitLemmas.{at_set, set_at}
use Rattle.pol_rows.specs.Signatures.{InSignature, sum_below, count_pairs, count_triples, IsSignatureSize}
use Rattle.pol_rows.specs.Counts.{shows, in_signature}

-- ---- sums

pub sum_below-more : (n : ℕ) (f : ℕ → ℕ) → sum_below (n + 1) f ≡ sum_below n f + f n
sum_below-more n f = rw add-one refl

pub sum_below-same : (n : ℕ) (f g : ℕ → ℕ) → ((k : ℕ) → k < n → f k ≡ g k) → sum_below n f ≡ sum_below n g
sum_below-same zero f g same = refl
sum_below-same (suc n) f g same = omega (arith, sum_below-same n f g (λ k low. same k (omega arith)), same n (omega arith))

pub sum_below-le : (n : ℕ) (f g : ℕ → ℕ) → ((k : ℕ) → k < n → f k ≤ g k) → sum_below n f ≤ sum_below n g
sum_below-le zero f g le = omega arith
sum_below-le (suc n) f g le = omega (arith, sum_below-le n f g (λ k low. le k (omega arith)), le n (omega arith))

pub sum_below-bound : (n m : ℕ) (f : ℕ → ℕ) → ((k : ℕ) → k < n → f k ≤ m) → sum_below n f ≤ n * m
sum_below-bound zero m f le = omega arith
sum_below-bound (suc n) m f le = omega (arith, sum_below-bound n m f (λ k low. le k (omega arith)), le n (omega arith))

-- ---- the test

shows-Decides : (i a b : ℕ) (one other : List ℕ) → Decides (shows i a b one other) ((take i one ≡ take i other) × ((slice_index one i ≡ a) × (slice_index other i ≡ b)))
shows-Decides i a b one other =
    Decides-and (bytes_eq (take i one) (take i other)) (eqb (slice_index one i) a && eqb (slice_index other i) b) (bytes_eq-Decides (take i one) (take i other))
    (Decides-and (eqb (slice_index one i) a) (eqb (slice_index other i) b) (Decides-eqb (slice_index one i) a) (Decides-eqb (slice_index other i) b))

-- whether some element passes tells whether of some element P holds
list_any-Decides : {X : Type 0} (p : X → Bool) (P : X → Type 0) (xs : List X) → ((x : X) → Decides (p x) (P x)) → Decides (list_any p xs) ((x : X) × Contains xs x × P x)
list_any-Decides p P xs each = (
  λ e. let some : Any (λ x. p x ≡ true) xs = Any-from_list_any p xs e in (some.1, (some.0, some.2, some.3), (each some.1).0 some.4),
  λ some. list_any_at p xs some.1.0 some.0 some.1.1 (rw some.1.2 ((each some.0).1 some.2)),
)

pub in_signature-Decides : (rows : List (List ℕ)) (i a b : ℕ) → Decides (in_signature rows i a b) (InSignature (Contains rows) i a b)
in_signature-Decides rows i a b =
    Decides-like (in_signature rows i a b)
    (λ h. record { one = h.0; other = h.2.0; one_in = h.1; other_in = h.2.1; same_before = h.2.2.0; one_at = h.2.2.1.0; other_at = h.2.2.1.1 })
    (λ s. (s.one, s.one_in, (s.other, s.other_in, (s.same_before, (s.one_at, s.other_at)))))
    (list_any-Decides (λ one. list_any (shows i a b one) rows) (λ one. (other : List ℕ) × Contains rows other × ((take i one ≡ take i other) × ((slice_index one i ≡ a) × (slice_index other i ≡ b)))) rows
    (λ one. list_any-Decides (shows i a b one) (λ other. (take i one ≡ take i other) × ((slice_index one i ≡ a) × (slice_index other i ≡ b))) rows (λ other. shows-Decides i a b one other)))

-- ---- a mask of the values that follow

-- a bit that tells what a test decides
bit_of_test : (mask b : ℕ) (test : Bool) (P : Type 0) → Decides test P → IsBitSet mask b ↔ P → bit_at mask b ≡ cond test 1 0
bit_of_test mask b true P decides set = at_set mask b (set.1 (decides.0 refl))
bit_of_test mask b false P decides set = none (bit_at mask b) (bit_at-lt mask b) (λ one. false≢true (decides.1 (set.0 (set_at mask b one))))
  where
    none : (x : ℕ) → x < 2 → (x ≡ 1 → ⊥) → x ≡ 0
    none zero low other = refl
    none (suc x) low other = absurd (other (omega arith))

pub pairs_of_masks :
    (d i : ℕ) (rows : List (List ℕ)) (masks : List ℕ)
    → d ≤ 5
    → ((a b : ℕ) → a < 5 → IsBitSet (slice_index masks a) b ↔ InSignature (Contains rows) i a b)
    → sum_below d (λ a. sum_below d (λ b. bit_at (slice_index masks a) b)) ≡ count_pairs d (in_signature rows i)
pairs_of_masks d i rows masks few followers =
    sum_below-same d _ _ (λ a low. sum_below-same d _ _ (λ b _.
    bit_of_test (slice_index masks a) b (in_signature rows i a b) (InSignature (Contains rows) i a b) (in_signature-Decides rows i a b) (followers a b (omega (arith, few)))))

-- a bit that is set counts once, and one that is not counts nothing
pub bit_counts : (mask b : ℕ) → IsBitSet mask b → bit_at mask b ≡ 1
bit_counts = at_set

pub bit_missing : (mask b : ℕ) → (IsBitSet mask b → ⊥) → bit_at mask b ≡ 0
bit_missing mask b clear = none (bit_at mask b) (bit_at-lt mask b) (λ one. clear (set_at mask b one))
  where
    none : (x : ℕ) → x < 2 → (x ≡ 1 → ⊥) → x ≡ 0
    none zero low other = refl
    none (suc x) low other = absurd (other (omega arith))

-- ---- sizes

count_triples-le : (n d : ℕ) (p q : ℕ → ℕ → ℕ → Bool) → ((i a b : ℕ) → i < n → a < d → b < d → p i a b ≡ true → q i a b ≡ true) → count_triples n d p ≤ count_triples n d q
count_triples-le n d p q more =
    sum_below-le n _ _ (λ i hi. sum_below-le d _ _ (λ a ha. sum_below-le d _ _ (λ b hb. one (p i a b) (q i a b) (more i a b hi ha hb))))
  where
    one : (x y : Bool) → (x ≡ true → y ≡ true) → cond x 1 0 ≤ cond y 1 0
    one false y e = omega arith
    one true y e = rw (e refl) (omega arith)

-- a set with at least the signature has at least the size
pub size-le :
    (n d : ℕ) (S T : List ℕ → Type 0) (k m : ℕ)
    → IsSignatureSize n d S k
    → IsSignatureSize n d T m
    → ((i a b : ℕ) → i < n → InSignature S i a b → InSignature T i a b)
    → k ≤ m
size-le n d S T k m s t more =
    rw (s.counted, t.counted) (count_triples-le n d s.test t.test (λ i a b hi ha hb e. (t.decides i a b hi ha hb).1 (more i a b hi ((s.decides i a b hi ha hb).0 e))))

-- so the size is one number
pub size-one : (n d : ℕ) (T : List ℕ → Type 0) (k m : ℕ) → IsSignatureSize n d T k → IsSignatureSize n d T m → k ≡ m
size-one n d T k m s t = omega (arith, size-le n d T T k m s t (λ i a b _ h. h), size-le n d T T m k t s (λ i a b _ h. h))

-- and at most n d d
pub size-bound : (n d : ℕ) (T : List ℕ → Type 0) (k : ℕ) → IsSignatureSize n d T k → k ≤ n * (d * d)
size-bound n d T k s = rw s.counted (sum_below-bound n (d * d) _ (λ i _. sum_below-bound d d _ (λ a _. few i a)))
  where
    one : (x : Bool) → cond x 1 0 ≤ 1
    one false = omega arith
    one true = omega arith

    few : (i a : ℕ) → sum_below d (λ b. cond (s.test i a b) 1 0) ≤ d
    few i a = let all = sum_below-bound d 1 (λ b. cond (s.test i a b) 1 0) (λ b _. one (s.test i a b)) in omega (arith, all)

-- sets with the same signature have the same size
pub size_of_signature :
    (n d : ℕ) (S T : List ℕ → Type 0) (size : ℕ)
    → ((i a b : ℕ) → i < n → InSignature S i a b ↔ InSignature T i a b)
    → IsSignatureSize n d S size
    → IsSignatureSize n d T size
size_of_signature n d S T size same s = record {
  test = s.test;
  decides = λ i a b hi ha hb. Decides-like (s.test i a b) (same i a b hi).0 (same i a b hi).1 (s.decides i a b hi ha hb);
  counted = s.counted;
}

-- a further bit of a mask
pub bits_more :
    (mask k count now : ℕ)
    → (count ≡ sum_below k (λ v. bit_at mask v)) × (count ≤ k)
    → now ≡ count + bit_at mask k
    → (now ≡ sum_below (k + 1) (λ v. bit_at mask v)) × (now ≤ k + 1)
bits_more mask k count now before more =
    let all = sum_below-more k (λ v. bit_at mask v) in
    let bit = bit_at-lt mask k in
    (omega (arith, all, before.0, more), omega (arith, before.1, more, bit))

-- the bits of the masks of all values, counted
pub pairs_counted :
    (d i : ℕ) (rows : List (List ℕ)) (masks : List ℕ) (count size places : ℕ)
    → d ≤ 5
    → length masks ≡ 5
    → size ≡ d
    → places ≡ length (take size masks)
    → count ≡ sum_below places (λ a. sum_below d (λ b. bit_at (get_or (take size masks) a 0) b))
    → ((a b : ℕ) → a < 5 → IsBitSet (slice_index masks a) b ↔ InSignature (Contains rows) i a b)
    → count ≡ count_pairs d (in_signature rows i)
pairs_counted d i rows masks count size places few long is_size all counted followers =
    let every : places ≡ d = omega (arith, all, is_size, length-take-le size masks (omega (arith, is_size, few, long))) in
    counted
    ∙ ap (λ places. sum_below places (λ a. sum_below d (λ b. bit_at (get_or (take size masks) a 0) b))) every
    ∙ sum_below-same d (λ a. sum_below d (λ b. bit_at (get_or (take size masks) a 0) b)) (λ a. sum_below d (λ b. bit_at (slice_index masks a) b))
    (λ a low. ap (λ mask. sum_below d (λ b. bit_at mask b)) (get_or-take size masks a 0 (omega (arith, is_size, low))))
    ∙ pairs_of_masks d i rows masks few followers

pub size_counted :
    (n d places size : ℕ) (rows : List (List ℕ))
    → places ≡ n
    → size ≡ sum_below places (λ i. count_pairs d (in_signature rows i))
    → IsSignatureSize n d (Contains rows) size
size_counted n d places size rows all counted = record {
  test = in_signature rows;
  decides = λ i a b _ _ _. in_signature-Decides rows i a b;
  counted = counted ∙ ap (λ places. sum_below places (λ i. count_pairs d (in_signature rows i))) all;
}
