-- Coefficients over a scope that are added up by variables, and what they read.
use Rattle.std.proofs.Common.{◌≡◌, ℕ, zero, suc, ◌+◌, ◌*◌, ◌%◌, ◌<◌, ◌≤◌, ◌⊎◌, inl, inr, List, [], length, get_or, take, set, All, if◌then◌else◌, refl, sym, ap, ◌∙◌, arith}
use Rattle.std.specs.Prelude.{replicate}
use Rattle.std.specs.List.{range_with_len}
use Rattle.std.proofs.Math.Nat.{mod-lt, mod-mod, zero-mod, mod-add-mod}
use Rattle.std.proofs.lemmas.Bool.{cases_eq, eq-eqb, ne_eqb}
use Rattle.std.proofs.lemmas.List.{ext_get_or, length-map, length-set, length-replicate, get_or-replicate, get_or-set_same, get_or-set_other}
use Rattle.std.proofs.lemmas.List.Elements.{All-map}
use Rattle.std.proofs.lemmas.List.FromFn.{length-range_with_len, get_or-map-range_with_len}
use Rattle.pol_relation.specs.Instances.{read_at}
use Rattle.pol_modp.specs.Equations.{dot}
use Rattle.pol_modp.specs.Combinations.{weight_at}
use Rattle.pol_modp.proofs.Modular.{add_same, mul_same}
use Rattle.pol_modp.proofs.SumLemmas.{weight-more}
use Rattle.pol_modp.proofs.ClashRefutes.{sum_below, dot-sum_below}
use Rattle.pol_modp.proofs.CombinationSound.{by_variables}
use Rattle.pol_affine.specs.Systems.{weights}

pub length-weights : (d n : ℕ) (scope coefs : List ℕ) → length (weights d n scope coefs) ≡ n
length-weights d n scope coefs = length-map (range_with_len 0 n) (λ v. weight_at v scope coefs % d) ∙ length-range_with_len 0 n

pub at-weights : (d n : ℕ) (scope coefs : List ℕ) (v : ℕ) → v < n → get_or (weights d n scope coefs) v 0 ≡ weight_at v scope coefs % d
at-weights d n scope coefs v inside = get_or-map-range_with_len (λ v. weight_at v scope coefs % d) 0 n v v 0 inside (omega arith)

pub weights-below : (d n : ℕ) (scope coefs : List ℕ) → 1 ≤ d → All (λ a. a < d) (weights d n scope coefs)
weights-below d n scope coefs some = All-map (λ a. a < d) (λ v. weight_at v scope coefs % d) (range_with_len 0 n) (λ k e inside. mod-lt (weight_at (get_or (range_with_len 0 n) k e) scope coefs) some)

-- without places
pub weights-none : (d n : ℕ) → replicate n 0 ≡ weights d n [] []
weights-none d n = ext_get_or 0 (replicate n 0) (weights d n [] []) (length-replicate {A = ℕ} n 0 ∙ sym (length-weights d n [] [])) (λ i inside.
    let within : i < n = omega (arith, inside, length-replicate {A = ℕ} n 0) in
    get_or-replicate {A = ℕ} n i 0 0 within ∙ (sym (zero-mod d) ∙ sym (at-weights d n [] [] i within)))

module _ (d n : ℕ) (scope coefs : List ℕ) (i : ℕ) where
  abbrev x : ℕ
  x = get_or scope i 0

  abbrev a : ℕ
  a = get_or coefs i 0

  abbrev old : List ℕ
  old = weights d n (take i scope) (take i coefs)

  abbrev new : ℕ
  new = (get_or old x 0 + a) % d

  abbrev all : List ℕ
  all = weights d n (take (suc i) scope) (take (suc i) coefs)

  abbrev before : ℕ → ℕ
  before v = weight_at v (take i scope) (take i coefs)

  plain : (b : ℕ) → b ≡ b + 0
  plain b = omega arith

  more_at : i < length coefs → length coefs ≤ length scope → x < n → (v : ℕ) → v < n → (v ≡ x) ⊎ (v ≡ x → ⊥) → get_or (set old x new) v 0 ≡ get_or all v 0
  more_at inside within known v low (inl same) =
      let more = weight-more v scope coefs i inside within in
      let passes = eq-eqb x v (sym same) in
      let here : x < length old = omega (arith, known, length-weights d n (take i scope) (take i coefs)) in
      ap (λ u. get_or (set old x new) u 0) same
      ∙ (get_or-set_same old x new 0 here
      ∙ (ap (λ u. (get_or old u 0 + a) % d) (sym same)
      ∙ (ap (λ w. (w + a) % d) (at-weights d n (take i scope) (take i coefs) v low)
      ∙ (mod-add-mod (before v) d a
      ∙ (sym (ap (λ w. w % d) (more ∙ ap (λ t. before v + (if t then a else 0)) passes))
      ∙ sym (at-weights d n (take (suc i) scope) (take (suc i) coefs) v low))))))
  more_at inside within known v low (inr other) =
      let more = weight-more v scope coefs i inside within in
      let fails = ne_eqb x v (λ e. other (sym e)) in
      get_or-set_other old x v new 0 other
      ∙ (at-weights d n (take i scope) (take i coefs) v low
      ∙ (ap (λ w. w % d) (plain (before v) ∙ sym (more ∙ ap (λ t. before v + (if t then a else 0)) fails))
      ∙ sym (at-weights d n (take (suc i) scope) (take (suc i) coefs) v low)))

  -- one place on
  pub weights-more : i < length coefs → length coefs ≤ length scope → x < n → set old x new ≡ all
  weights-more inside within known =
      let length_old = length-weights d n (take i scope) (take i coefs) in
      let long = length-set old x new ∙ (length_old ∙ sym (length-weights d n (take (suc i) scope) (take (suc i) coefs))) in
      ext_get_or 0 (set old x new) all long (λ v low.
      let v_low : v < n = omega (arith, low, length-set old x new, length_old) in
      more_at inside within known v v_low (cases_eq v x))

-- factors that are the same modulo p
sum_below-modulo : (p n : ℕ) (f h g : ℕ → ℕ) → ((v : ℕ) → v < n → f v % p ≡ h v % p) → sum_below n (λ v. f v * g v) % p ≡ sum_below n (λ v. h v * g v) % p
sum_below-modulo p zero f h g same = refl
sum_below-modulo p (suc n) f h g same =
    add_same p (sum_below n (λ v. f v * g v)) (sum_below n (λ v. h v * g v)) (f n * g n) (h n * g n)
    (sum_below-modulo p n f h g (λ v low. same v (omega arith)))
    (ap (λ s. s % p) (turn (f n) (g n)) ∙ (mul_same p (g n) (f n) (h n) (same n (omega arith)) ∙ ap (λ s. s % p) (turn (g n) (h n))))
  where
    turn : (a b : ℕ) → a * b ≡ b * a
    turn a b = grind arith

-- they read what the coefficients read at the scope
pub weights-read : (d n : ℕ) (scope coefs values : List ℕ) → All (λ x. x < n) scope → dot (weights d n scope coefs) values % d ≡ dot coefs (read_at values scope) % d
weights-read d n scope coefs values below =
    let value : ℕ → ℕ = λ v. get_or values v 0 in
    let weight : ℕ → ℕ = λ v. weight_at v scope coefs in
    let long : length (weights d n scope coefs) ≤ n = omega (arith, length-weights d n scope coefs) in
    ap (λ s. s % d) (dot-sum_below (weights d n scope coefs) values n long)
    ∙ (sum_below-modulo d n (λ v. get_or (weights d n scope coefs) v 0) weight value (λ v low. ap (λ a. a % d) (at-weights d n scope coefs v low) ∙ mod-mod (weight_at v scope coefs) d)
    ∙ ap (λ s. s % d) (sym (by_variables n scope coefs value below)))
