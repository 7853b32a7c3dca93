-- Sums and products modulo p.
use Rattle.std.proofs.Common.{◌≡◌, ℕ, ◌+◌, ◌*◌, ◌%◌, ◌<◌, refl, sym, ap, ◌∙◌, arith}
use Rattle.std.proofs.Math.Nat.{add-mod, add-mod-mod, mod-add-mod, zero-mod, mod-mod, mod-eq_of_lt}
use Rattle.std.proofs.lemmas.Nat.{mul-mod_second}

pub add_same : (p a b c d : ℕ) → a % p ≡ b % p → c % p ≡ d % p → (a + c) % p ≡ (b + d) % p
add_same p a b c d first second = add-mod a c p ∙ (ap (λ x. (x + c % p) % p) first ∙ (ap (λ y. (b % p + y) % p) second ∙ sym (add-mod b d p)))

pub mul_same : (p k a b : ℕ) → a % p ≡ b % p → (k * a) % p ≡ (k * b) % p
mul_same p k a b same = sym (mul-mod_second k a p) ∙ (ap (λ x. (k * x) % p) same ∙ mul-mod_second k b p)

pub add_zero : (p a b : ℕ) → a % p ≡ 0 → b % p ≡ 0 → (a + b) % p ≡ 0
add_zero p a b first second = add_same p a 0 b 0 (first ∙ sym (zero-mod p)) (second ∙ sym (zero-mod p)) ∙ zero-mod p

pub mul_zero : (p k a : ℕ) → a % p ≡ 0 → (k * a) % p ≡ 0
mul_zero p k a zeros = mul_same p k a 0 (zeros ∙ sym (zero-mod p)) ∙ (ap (λ x. x % p) (by k) ∙ zero-mod p)
  where
    by : (k : ℕ) → k * 0 ≡ 0
    by k = grind arith

pub mul_zero_left : (p a k : ℕ) → a % p ≡ 0 → (a * k) % p ≡ 0
mul_zero_left p a k zeros = ap (λ x. x % p) (turn a k) ∙ mul_zero p k a zeros
  where
    turn : (a k : ℕ) → a * k ≡ k * a
    turn a k = grind arith

-- of a sum that is 0, a part that is 0 leaves the other
pub left_same : (p a b : ℕ) → b % p ≡ 0 → (a + b) % p ≡ a % p
left_same p a b second = sym (add-mod-mod a b p) ∙ (ap (λ x. (a + x) % p) second ∙ ap (λ x. x % p) (plus a))
  where
    plus : (a : ℕ) → a + 0 ≡ a
    plus a = omega arith

pub left_zero : (p a b : ℕ) → (a + b) % p ≡ 0 → b % p ≡ 0 → a % p ≡ 0
left_zero p a b all second = sym (left_same p a b second) ∙ all

pub right_zero : (p a b : ℕ) → (a + b) % p ≡ 0 → a % p ≡ 0 → b % p ≡ 0
right_zero p a b all first = left_zero p b a (ap (λ x. x % p) (turn a b) ∙ all) first
  where
    turn : (a b : ℕ) → b + a ≡ a + b
    turn a b = omega arith

-- a number below p that is 0 modulo p
pub small_zero : (p a : ℕ) → a < p → a % p ≡ 0 → a ≡ 0
small_zero p a small zeros = sym (mod-eq_of_lt small) ∙ zeros

-- what a factor with an inverse takes to 0 is 0
pub cancel : (p k inverse a : ℕ) → (k * inverse) % p ≡ 1 % p → (k * a) % p ≡ 0 → a % p ≡ 0
cancel p k inverse a one zeros =
    sym (ap (λ x. x % p) (times a)) ∙ (sym (mul_same p a (k * inverse) 1 one) ∙ (ap (λ x. x % p) (turn k inverse a) ∙ mul_zero p inverse (k * a) zeros))
  where
    times : (a : ℕ) → a * 1 ≡ a
    times a = grind arith

    turn : (k inverse a : ℕ) → a * (k * inverse) ≡ inverse * (k * a)
    turn k inverse a = grind arith

-- a sum that is kept modulo p, one term on
pub accumulate : (p s result before term now : ℕ) → s ≡ before % p → result ≡ (s + term) % p → now ≡ before + term → result ≡ now % p
accumulate p s result before term now so_far sum next = sum ∙ (ap (λ x. (x + term) % p) so_far ∙ (mod-add-mod before p term ∙ ap (λ x. x % p) (sym next)))

-- where the term is a multiple of what is known modulo p
pub accumulate_times : (p s result before k w term now : ℕ) → s ≡ before % p → result ≡ (s + k * w) % p → w ≡ term % p → now ≡ before + k * term → result ≡ now % p
accumulate_times p s result before k w term now so_far sum known next =
    accumulate p s result before (k * term) now so_far
    (sum ∙ add_same p s s (k * w) (k * term) refl (mul_same p k w term (ap (λ x. x % p) known ∙ mod-mod term p))) next
