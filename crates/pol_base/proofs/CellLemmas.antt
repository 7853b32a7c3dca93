-- Cells and digits are inverse to each other, and the order of tuples is the order of their cells.
use Rattle.std.proofs.Common.{ℕ, ◌^◌, ◌≤◌, [], ◌<◌, List, ◌∷◌, length, arith, All, subst, ◌≡◌, zero, suc, ◌%◌, refl, ap, ◌*◌, ◌/◌, ◌+◌, ◌++◌, length-append, inl, inr, sym, ◌∙◌, add-one, ◌-◌, get_or, take}
use Rattle.std.proofs.Math.Nat.{one-le-pow, pow-le-pow_right, pow-zero, pow-suc, mod-lt, div-add-mod', mul-le-mul_right, mod-eq_of_lt, min-le_right}
use Rattle.std.proofs.Math.Arith.{mod-mul}
use Rattle.std.proofs.lemmas.Nat.{mul-add-lt, div_below, div-mul-add, mod-mul-add, pow-add}
use Rattle.std.proofs.lemmas.List.{length-take}
use Rattle.std.proofs.lemmas.Bool.{cases_order}
use Rattle.std.proofs.lemmas.List.Elements.{All-head, All-tail, All-nil, All-cons, All-take}
use Rattle.pol_base.specs.Tuples.{cell_of, IsTuple, digits_of, IsBefore}

pub power_some : (d k : ℕ) → 1 ≤ d → 1 ≤ d ^ k
power_some d k some = one-le-pow k d some

-- more digits write more cells
pub power_monotone : (d i j : ℕ) → 1 ≤ d → i ≤ j → d ^ i ≤ d ^ j
power_monotone d i j some le = pow-le-pow_right {n = d} some {i = i} {j = j} le

pub cell_of-below : (d : ℕ) (t : List ℕ) → All (λ v. v < d) t → cell_of d t < d ^ length t
cell_of-below d [] below = rw pow-zero (omega arith)
cell_of-below d (x ∷ xs) below =
    let rest = cell_of-below d xs (All-tail (λ v. v < d) x xs below) in
    rw pow-suc (mul-add-lt x (d ^ length xs) (cell_of d xs) d (All-head (λ v. v < d) x xs below) rest)

pub cell_of-IsTuple : (d n : ℕ) (t : List ℕ) → IsTuple d n t → cell_of d t < d ^ n
cell_of-IsTuple d n t tuple = subst (λ (k : ℕ). cell_of d t < d ^ k) tuple.long (cell_of-below d t tuple.below)

pub length-digits_of : (d k cell : ℕ) → length (digits_of d k cell) ≡ k
length-digits_of d zero cell = refl
length-digits_of d (suc k) cell = ap suc (length-digits_of d k (cell % d ^ k))

-- one digit more, with the factors turned
power_turned : (d k : ℕ) → d ^ suc k ≡ d * d ^ k
power_turned d k = rw pow-suc (omega arith)

pub digits_of-below : (d k cell : ℕ) → 1 ≤ d → cell < d ^ k → All (λ v. v < d) (digits_of d k cell)
digits_of-below d zero cell some within = All-nil (λ v. v < d)
digits_of-below d (suc k) cell some within =
    let power : 0 < d ^ k = power_some d k some in
    let first : cell / d ^ k < d = div_below cell (d ^ k) d power (subst (λ (p : ℕ). cell < p) (power_turned d k) within) in
    All-cons (λ v. v < d) (cell / d ^ k) (digits_of d k (cell % d ^ k)) first (digits_of-below d k (cell % d ^ k) some (mod-lt cell power))

pub digits_of-IsTuple : (d k cell : ℕ) → 1 ≤ d → cell < d ^ k → IsTuple d k (digits_of d k cell)
digits_of-IsTuple d k cell some within = record { long = length-digits_of d k cell; below = digits_of-below d k cell some within }

-- the digits of a cell write it
pub cell_of-digits_of : (d k cell : ℕ) → 1 ≤ d → cell < d ^ k → cell_of d (digits_of d k cell) ≡ cell
cell_of-digits_of d zero cell some within = let one : cell < 1 = rw pow-zero at within in omega arith
cell_of-digits_of d (suc k) cell some within =
    let power : 0 < d ^ k = power_some d k some in
    let rest : cell_of d (digits_of d k (cell % d ^ k)) ≡ cell % d ^ k = cell_of-digits_of d k (cell % d ^ k) some (mod-lt cell power) in
    rw (length-digits_of d k (cell % d ^ k), rest) (div-add-mod' cell (d ^ k))

-- the cell of a tuple has the tuple as its digits
pub digits_of-cell_of : (d : ℕ) (t : List ℕ) → All (λ v. v < d) t → digits_of d (length t) (cell_of d t) ≡ t
digits_of-cell_of d [] below = refl
digits_of-cell_of d (x ∷ xs) below =
    let within = All-tail (λ v. v < d) x xs below in
    let rest = digits_of-cell_of d xs within in
    let small = cell_of-below d xs within in
    rw (div-mul-add x (d ^ length xs) (cell_of d xs) small, mod-mul-add x (d ^ length xs) (cell_of d xs) small, rest) refl

pub digits_of-cell_of-IsTuple : (d n : ℕ) (t : List ℕ) → IsTuple d n t → digits_of d n (cell_of d t) ≡ t
digits_of-cell_of-IsTuple d n t tuple = subst (λ (k : ℕ). digits_of d k (cell_of d t) ≡ t) tuple.long (digits_of-cell_of d t tuple.below)

-- one more digit at the end
pub cell_of-push : (d : ℕ) (xs : List ℕ) (x : ℕ) → cell_of d (xs ++ x ∷ []) ≡ cell_of d xs * d + x
cell_of-push d [] x = rw pow-zero (omega arith)
cell_of-push d (y ∷ ys) x =
    let rest = cell_of-push d ys x in
    let longer : length (ys ++ x ∷ []) ≡ suc (length ys) = rw length-append (omega arith) in
    rw (longer, pow-suc, rest) (omega arith)

-- the smaller first digit decides
head_decides : (x y p q a b : ℕ) → p ≡ q → x < y → a < p → x * p + a < y * q + b
head_decides x y p q a b same less small =
    let grown : suc x * p ≤ y * p = mul-le-mul_right p less in
    rw (← same) (omega arith)

tail_decides : (x y p q a b : ℕ) → p ≡ q → x ≡ y → a < b → x * p + a < y * q + b
tail_decides x y p q a b same equal less = rw (← same, ← equal) (omega arith)

tail_left : (x y p q a b : ℕ) → p ≡ q → x ≡ y → x * p + a < y * q + b → a < b
tail_left x y p q a b same equal less = let moved : x * p + a < x * p + b = rw (← same, ← equal) at less in omega arith

no_circle : (a b : ℕ) → a < b → b < a → ⊥
no_circle a b less more = omega arith

-- the tuple that comes before has the smaller cell
pub cell_of-before : (d : ℕ) (xs ys : List ℕ) → length xs ≡ length ys → All (λ v. v < d) xs → All (λ v. v < d) ys → IsBefore xs ys → cell_of d xs < cell_of d ys
cell_of-before d [] ys same xs_below ys_below before = absurd before
cell_of-before d (x ∷ xs) [] same xs_below ys_below before = absurd before
cell_of-before d (x ∷ xs) (y ∷ ys) same xs_below ys_below before =
    let tails : length xs ≡ length ys = cc in
    let small = cell_of-below d xs (All-tail (λ v. v < d) x xs xs_below) in
    let rest = cell_of-before d xs ys tails (All-tail (λ v. v < d) x xs xs_below) (All-tail (λ v. v < d) y ys ys_below) in
    elim before [
      | inl less ↦ head_decides x y (d ^ length xs) (d ^ length ys) (cell_of d xs) (cell_of d ys) (ap (λ n. d ^ n) tails) less small
      | inr equal ↦ tail_decides x y (d ^ length xs) (d ^ length ys) (cell_of d xs) (cell_of d ys) (ap (λ n. d ^ n) tails) equal.0 (rest equal.1)
    ]

-- tuples of one length with the smaller cell comes before
pub before-cell_of : (d : ℕ) (xs ys : List ℕ) → length xs ≡ length ys → All (λ v. v < d) xs → All (λ v. v < d) ys → cell_of d xs < cell_of d ys → IsBefore xs ys
before-cell_of d [] [] same xs_below ys_below less = omega arith
before-cell_of d [] (y ∷ ys) same xs_below ys_below less = absurd (cc)
before-cell_of d (x ∷ xs) [] same xs_below ys_below less = absurd (cc)
before-cell_of d (x ∷ xs) (y ∷ ys) same xs_below ys_below less =
    let tails : length xs ≡ length ys = cc in
    let powers : d ^ length xs ≡ d ^ length ys = ap (λ n. d ^ n) tails in
    let small = cell_of-below d ys (All-tail (λ v. v < d) y ys ys_below) in
    let rest = before-cell_of d xs ys tails (All-tail (λ v. v < d) x xs xs_below) (All-tail (λ v. v < d) y ys ys_below) in
    elim (cases_order x y) [
      | inl equal ↦ inr (equal, rest (tail_left x y (d ^ length xs) (d ^ length ys) (cell_of d xs) (cell_of d ys) powers equal less))
      | inr unequal ↦ elim unequal [
        | inl first ↦ inl first
        | inr second ↦ absurd (no_circle (cell_of d (x ∷ xs)) (cell_of d (y ∷ ys)) less (head_decides y x (d ^ length ys) (d ^ length xs) (cell_of d ys) (cell_of d xs) (sym powers) second small))
      ]
    ]

-- tuples of one length with one cell are one
pub same_from_cell_of : (d : ℕ) (xs ys : List ℕ) → length xs ≡ length ys → All (λ v. v < d) xs → All (λ v. v < d) ys → cell_of d xs ≡ cell_of d ys → xs ≡ ys
same_from_cell_of d xs ys same xs_below ys_below cells =
    sym (digits_of-cell_of d xs xs_below) ∙ (ap (λ n. digits_of d n (cell_of d xs)) same ∙ (ap (digits_of d (length ys)) cells ∙ digits_of-cell_of d ys ys_below))

-- the digits above do not count
lower_digits : (d low high k cell : ℕ) → 1 ≤ d → high + 1 + low ≡ k → cell % d ^ k / d ^ low % d ≡ cell / d ^ low % d
lower_digits d low high k cell some split =
    let power : d ^ k ≡ d ^ (high + 1) * d ^ low = sym (ap (λ n. d ^ n) split) ∙ pow-add d (high + 1) low in
    let more : d ^ (high + 1) ≡ d ^ high * d = rw (add-one, pow-suc) refl in
    let small : 0 < d ^ low = power_some d low some in
    let some_high : 0 < d ^ (high + 1) = power_some d (high + 1) some in
    let one_high : 0 < d ^ high = power_some d high some in
    let cut : cell % (d ^ (high + 1) * d ^ low) ≡ (cell / d ^ low % d ^ (high + 1)) * d ^ low + cell % d ^ low = mod-mul cell {m = d ^ (high + 1)} {c = d ^ low} some_high small in
    let shifted = div-mul-add (cell / d ^ low % d ^ (high + 1)) (d ^ low) (cell % d ^ low) (mod-lt cell small) in
    let last : cell / d ^ low % (d ^ high * d) ≡ (cell / d ^ low / d % d ^ high) * d + cell / d ^ low % d = mod-mul (cell / d ^ low) {m = d ^ high} {c = d} one_high some in
    let digit = mod-mul-add (cell / d ^ low / d % d ^ high) d (cell / d ^ low % d) (mod-lt (cell / d ^ low) some) in
    ap (λ p. cell % p / d ^ low % d) power ∙ (ap (λ n. n / d ^ low % d) cut ∙ (ap (λ n. n % d) shifted ∙ (ap (λ p. cell / d ^ low % p % d) more ∙ (ap (λ n. n % d) last ∙ digit))))

-- what stands at a place among the digits of a cell
pub get_or-digits_of : (d k cell place : ℕ) → 1 ≤ d → place < k → cell < d ^ k → get_or (digits_of d k cell) place 0 ≡ cell / d ^ (k - (place + 1)) % d
get_or-digits_of d zero cell place some inside within = absurd (omega arith)
get_or-digits_of d (suc k) cell zero some inside within =
    let exponent : suc k - (0 + 1) ≡ k = omega arith in
    let power : 0 < d ^ k = power_some d k some in
    let first : cell / d ^ k < d = div_below cell (d ^ k) d power (subst (λ (p : ℕ). cell < p) (power_turned d k) within) in
    rw exponent (sym (mod-eq_of_lt first))
get_or-digits_of d (suc k) cell (suc place) some inside within =
    let exponent : suc k - (suc place + 1) ≡ k - (place + 1) = omega arith in
    let rest : get_or (digits_of d k (cell % d ^ k)) place 0 ≡ cell % d ^ k / d ^ (k - (place + 1)) % d = get_or-digits_of d k (cell % d ^ k) place some (omega arith) (mod-lt cell (power_some d k some)) in
    rw exponent (rest ∙ lower_digits d (k - (place + 1)) place k cell some (omega arith))

-- the first digits of a tuple write less than the number of its cells
pub cell_of-take : (d i : ℕ) (t : List ℕ) → 1 ≤ d → All (λ v. v < d) t → cell_of d (take i t) < d ^ length t
cell_of-take d i t some below =
    let front = cell_of-below d (take i t) (All-take (λ v. v < d) i t below) in
    let more = power_monotone d (length (take i t)) (length t) some (rw length-take (min-le_right i (length t))) in
    omega arith

pub power_of_one : (k : ℕ) → 1 ^ k ≡ 1
power_of_one zero = pow-zero 1
power_of_one (suc k) = rw (pow-suc, power_of_one k) refl
