-- Sums with multiples, place by place: lengths, places, sums of products, and the step of a loop.
use Rattle.std.proofs.Common.{◌≡◌, ℕ, zero, suc, ◌+◌, ◌*◌, ◌%◌, ◌<◌, ◌≤◌, List, [], ◌∷◌, ◌++◌, length, get_or, set, take, drop, All, refl, sym, ap, ◌∙◌, arith}
use Rattle.std.proofs.Math.Nat.{zero-mod}
use Rattle.std.proofs.lemmas.Nat.{mul-mod_first, mod_below}
use Rattle.std.proofs.lemmas.List.Elements.{All-nil, All-cons, All-tail}
use Rattle.pol_modp.specs.Equations.{dot}
use Rattle.pol_modp.specs.Rows.{plus_multiple, multiple}
use Rattle.pol_modp.proofs.Modular.{add_same}

pub plus_multiple-nil : (p k : ℕ) (row : List ℕ) → plus_multiple p row k [] ≡ row
plus_multiple-nil p k [] = refl
plus_multiple-nil p k (a ∷ row) = refl

pub length-plus_multiple : (p k : ℕ) (row other : List ℕ) → length (plus_multiple p row k other) ≡ length row
length-plus_multiple p k [] other = refl
length-plus_multiple p k (a ∷ row) [] = refl
length-plus_multiple p k (a ∷ row) (b ∷ other) = ap suc (length-plus_multiple p k row other)

pub below-plus_multiple : (p k : ℕ) (row other : List ℕ) → 1 ≤ p → All (λ v. v < p) row → All (λ v. v < p) (plus_multiple p row k other)
below-plus_multiple p k [] other some below = below
below-plus_multiple p k (a ∷ row) [] some below = below
below-plus_multiple p k (a ∷ row) (b ∷ other) some below =
    let Below : ℕ → Type 0 = λ v. v < p in
    All-cons Below ((a + k * b) % p) (plus_multiple p row k other) (mod_below (a + k * b) p some) (below-plus_multiple p k row other some (All-tail Below a row below))

pub get_or-plus_multiple : (p k : ℕ) (row other : List ℕ) (c : ℕ) → length other ≤ length row → c < length other → get_or (plus_multiple p row k other) c 0 ≡ (get_or row c 0 + k * get_or other c 0) % p
get_or-plus_multiple p k [] other c within inside = absurd (omega arith)
get_or-plus_multiple p k (a ∷ row) [] c within inside = absurd (omega arith)
get_or-plus_multiple p k (a ∷ row) (b ∷ other) zero within inside = refl
get_or-plus_multiple p k (a ∷ row) (b ∷ other) (suc c) within inside = get_or-plus_multiple p k row other c (omega arith) (omega arith)

pub dot-plus_multiple : (p k : ℕ) (row other ys : List ℕ) → length other ≤ length row → dot (plus_multiple p row k other) ys % p ≡ (dot row ys + k * dot other ys) % p
dot-plus_multiple p k [] [] ys within = ap (λ a. a % p) (by k)
  where
    by : (k : ℕ) → 0 ≡ 0 + k * 0
    by k = grind arith
dot-plus_multiple p k [] (b ∷ other) ys within = absurd (omega arith)
dot-plus_multiple p k (a ∷ row) [] ys within = ap (λ a. a % p) (by (dot (a ∷ row) ys) k)
  where
    by : (s k : ℕ) → s ≡ s + k * 0
    by s k = grind arith
dot-plus_multiple p k (a ∷ row) (b ∷ other) [] within = ap (λ a. a % p) (by k)
  where
    by : (k : ℕ) → 0 ≡ 0 + k * 0
    by k = grind arith
dot-plus_multiple p k (a ∷ row) (b ∷ other) (y ∷ ys) within =
    add_same p ((a + k * b) % p * y) ((a + k * b) * y) (dot (plus_multiple p row k other) ys) (dot row ys + k * dot other ys) (mul-mod_first (a + k * b) y p) (dot-plus_multiple p k row other ys (omega arith))
    ∙ ap (λ s. s % p) (turn a k b y (dot row ys) (dot other ys))
  where
    turn : (a k b y s t : ℕ) → (a + k * b) * y + (s + k * t) ≡ a * y + s + k * (b * y + t)
    turn a k b y s t = grind arith

-- a loop that has added the first i places
pub plus_multiple-more : (p k : ℕ) (row other : List ℕ) (i : ℕ) → i < length other → length other ≤ length row
    → set (plus_multiple p row k (take i other)) i ((get_or (plus_multiple p row k (take i other)) i 0 + k * get_or other i 0) % p) ≡ plus_multiple p row k (take (suc i) other)
plus_multiple-more p k [] other i inside within = absurd (omega arith)
plus_multiple-more p k (a ∷ row) [] i inside within = absurd (omega arith)
plus_multiple-more p k (a ∷ row) (b ∷ other) zero inside within = ap (λ rest. (a + k * b) % p ∷ rest) (sym (plus_multiple-nil p k row))
plus_multiple-more p k (a ∷ row) (b ∷ other) (suc i) inside within = ap (λ rest. (a + k * get_or (b ∷ other) 0 0) % p ∷ rest) (plus_multiple-more p k row other i (omega arith) (omega arith))

-- multiples

pub get_or-multiple : (p k : ℕ) (row : List ℕ) (c : ℕ) → get_or (multiple p k row) c 0 ≡ (0 + k * get_or row c 0) % p
get_or-multiple p k [] c = sym (ap (λ s. s % p) (by k) ∙ zero-mod p)
  where
    by : (k : ℕ) → 0 + k * 0 ≡ 0
    by k = grind arith
get_or-multiple p k (a ∷ row) zero = refl
get_or-multiple p k (a ∷ row) (suc c) = get_or-multiple p k row c

pub below-multiple : (p k : ℕ) (row : List ℕ) → 1 ≤ p → All (λ v. v < p) (multiple p k row)
below-multiple p k [] some = All-nil (λ v. v < p)
below-multiple p k (a ∷ row) some = let Below : ℕ → Type 0 = λ v. v < p in All-cons Below ((0 + k * a) % p) (multiple p k row) (mod_below (0 + k * a) p some) (below-multiple p k row some)

pub dot-multiple : (p k : ℕ) (row ys : List ℕ) → dot (multiple p k row) ys % p ≡ (k * dot row ys) % p
dot-multiple p k [] ys = ap (λ s. s % p) (by k)
  where
    by : (k : ℕ) → 0 ≡ k * 0
    by k = grind arith
dot-multiple p k (a ∷ row) [] = ap (λ s. s % p) (by k)
  where
    by : (k : ℕ) → 0 ≡ k * 0
    by k = grind arith
dot-multiple p k (a ∷ row) (y ∷ ys) =
    add_same p ((0 + k * a) % p * y) ((0 + k * a) * y) (dot (multiple p k row) ys) (k * dot row ys) (mul-mod_first (0 + k * a) y p) (dot-multiple p k row ys)
    ∙ ap (λ s. s % p) (turn k a y (dot row ys))
  where
    turn : (k a y s : ℕ) → (0 + k * a) * y + k * s ≡ k * (a * y + s)
    turn k a y s = grind arith

-- a loop that has taken the first i places k times
pub multiple-more : (p k : ℕ) (row : List ℕ) (i : ℕ) → i < length row
    → set (multiple p k (take i row) ++ drop i row) i ((0 + k * get_or (multiple p k (take i row) ++ drop i row) i 0) % p) ≡ multiple p k (take (suc i) row) ++ drop (suc i) row
multiple-more p k [] i inside = absurd (omega arith)
multiple-more p k (a ∷ row) zero inside = refl
multiple-more p k (a ∷ row) (suc i) inside = ap (λ rest. (0 + k * a) % p ∷ rest) (multiple-more p k row i (omega arith))
