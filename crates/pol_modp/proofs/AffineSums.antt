-- A set of lists that x - y + z keeps modulo p has every sum of its members whose multipliers add up to 1.
use Rattle.std.proofs.Common.{◌≡◌, ℕ, zero, suc, ◌+◌, ◌-◌, ◌*◌, ◌%◌, ◌<◌, ◌≤◌, List, [], ◌∷◌, length, get_or, map, All, refl, sym, ap, ◌∙◌, subst, arith}
use Rattle.std.proofs.Math.Nat.{mod-add-mod, add-mul-mod_self_left, mod-eq_of_lt}
use Rattle.std.proofs.lemmas.List.{ext_get_or}
use Rattle.std.proofs.lemmas.List.Elements.{All-head, All-tail}
use Rattle.std.proofs.lemmas.List.FromFn.{get_or-map-range_with_len}
use Rattle.pol_base.specs.Tuples.{IsTuple}
use Rattle.pol_modp.specs.AffineSets.{mixed, IsAffineSet}
use Rattle.pol_modp.specs.Equations.{dot}
use Rattle.pol_modp.proofs.Modular.{add_same, mul_same}

-- the coefficients of the vectors at a place, as for equations
abbrev pub places : ℕ → List (List ℕ) → List ℕ
places v xs = map (λ x. get_or x v 0) xs

abbrev pub sum_of : List ℕ → ℕ
sum_of [] = 0
sum_of (m ∷ ms) = m + sum_of ms

module _ (p n : ℕ) (some : 1 ≤ p) (S : List ℕ → Type 0) (affine : IsAffineSet p n S) (base : List ℕ) (base_in : S base) where
  get_or-mixed : (x y z : List ℕ) (v : ℕ) → v < n → get_or (mixed p n x y z) v 0 ≡ (get_or x v 0 + (p - get_or y v 0) + get_or z v 0) % p
  get_or-mixed x y z v low = get_or-map-range_with_len (λ v. (get_or x v 0 + (p - get_or y v 0) + get_or z v 0) % p) 0 n v v 0 low (omega arith)

  -- what is base, with multiples of differences to it added
  pub record IsReached (ms : List ℕ) (xs : List (List ℕ)) (r : List ℕ) : Type 0 where
    pub inside : S r
    pub reads : (v : ℕ) → v < n → (get_or r v 0 + sum_of ms * get_or base v 0) % p ≡ (get_or base v 0 + dot ms (places v xs)) % p

  -- one more difference to the base
  once : (r x : List ℕ) → S r → S x → (r' : List ℕ) × S r' × ((v : ℕ) → v < n → (get_or r' v 0 + get_or base v 0) % p ≡ (get_or r v 0 + get_or x v 0) % p)
  once r x r_in x_in = (
    mixed p n r base x,
    affine.kept r base x r_in base_in x_in,
    λ v low.
        let b = get_or base v 0 in
        let small : b < p = (affine.tuples base base_in).below v 0 (omega (arith, low, (affine.tuples base base_in).long)) in
        ap (λ a. (a + b) % p) (get_or-mixed r base x v low) ∙ (mod-add-mod (get_or r v 0 + (p - b) + get_or x v 0) p b ∙ (ap (λ a. a % p) (turn p (get_or r v 0) (get_or x v 0) b small) ∙ add-mul-mod_self_left (get_or r v 0 + get_or x v 0) p 1)),
  )
    where
      turn : (p r x b : ℕ) → b < p → r + (p - b) + x + b ≡ r + x + p * 1
      turn p r x b small = omega arith

  -- m times the difference of x to the base
  times : (m : ℕ) (r x : List ℕ) → S r → S x → (r' : List ℕ) × S r' × ((v : ℕ) → v < n → (get_or r' v 0 + m * get_or base v 0) % p ≡ (get_or r v 0 + m * get_or x v 0) % p)
  times zero r x r_in x_in = (r, r_in, λ v low. ap (λ a. a % p) (by (get_or r v 0) (get_or base v 0) (get_or x v 0)))
    where
      by : (r b x : ℕ) → r + 0 * b ≡ r + 0 * x
      by r b x = grind arith
  times (suc m) r x r_in x_in =
      let before = times m r x r_in x_in in
      let now = once before.0 x before.1 x_in in (
        now.0,
        now.1,
        λ v low.
            let b = get_or base v 0 in
            let a = get_or x v 0 in
            ap (λ s. s % p) (split (get_or now.0 v 0) m b)
            ∙ (add_same p (get_or now.0 v 0 + b) (get_or before.0 v 0 + a) (m * b) (m * b) (now.2 v low) refl
            ∙ (ap (λ s. s % p) (move (get_or before.0 v 0) a (m * b))
            ∙ (add_same p (get_or before.0 v 0 + m * b) (get_or r v 0 + m * a) a a (before.2 v low) refl
            ∙ ap (λ s. s % p) (join (get_or r v 0) m a)))),
      )
    where
      split : (r m b : ℕ) → r + suc m * b ≡ r + b + m * b
      split r m b = grind arith

      move : (r a c : ℕ) → r + a + c ≡ r + c + a
      move r a c = omega arith

      join : (r m a : ℕ) → r + m * a + a ≡ r + suc m * a
      join r m a = grind arith

  pub reached : (ms : List ℕ) (xs : List (List ℕ)) → length ms ≡ length xs → All S xs → (r : List ℕ) × IsReached ms xs r
  reached [] [] long are = (base, record { inside = base_in; reads = λ v low. ap (λ a. a % p) (by (get_or base v 0)) })
    where
      by : (b : ℕ) → b + 0 * b ≡ b + 0
      by b = grind arith
  reached [] (x ∷ xs) long are = absurd (omega arith)
  reached (m ∷ ms) [] long are = absurd (omega arith)
  reached (m ∷ ms) (x ∷ xs) long are =
      let before = reached ms xs (omega arith) (All-tail S x xs are) in
      let now = times m before.0 x before.1.inside (All-head S x xs are) in (
        now.0,
        record {
          inside = now.1;
          reads = λ v low.
              let b = get_or base v 0 in
              let a = get_or x v 0 in
              let s = sum_of ms in
              let t = dot ms (places v xs) in
              ap (λ k. k % p) (split (get_or now.0 v 0) m s b)
              ∙ (add_same p (get_or now.0 v 0 + m * b) (get_or before.0 v 0 + m * a) (s * b) (s * b) (now.2 v low) refl
              ∙ (ap (λ k. k % p) (move (get_or before.0 v 0) (m * a) (s * b))
              ∙ (add_same p (get_or before.0 v 0 + s * b) (b + t) (m * a) (m * a) (before.1.reads v low) refl
              ∙ ap (λ k. k % p) (join b t (m * a)))));
        },
      )
    where
      split : (r m s b : ℕ) → r + (m + s) * b ≡ r + m * b + s * b
      split r m s b = grind arith

      move : (r a c : ℕ) → r + a + c ≡ r + c + a
      move r a c = omega arith

      join : (b t a : ℕ) → b + t + a ≡ b + (a + t)
      join b t a = omega arith

  -- a vector that such a sum gives is one of the set
  pub sum_in : (ms : List ℕ) (xs : List (List ℕ)) (x : List ℕ) → length ms ≡ length xs → All S xs → IsTuple p n x → sum_of ms % p ≡ 1 % p → ((v : ℕ) → v < n → get_or x v 0 % p ≡ dot ms (places v xs) % p) → S x
  sum_in ms xs x long are is one reads =
      let found = reached ms xs long are in
      let r = found.0 in
      let r_is = affine.tuples r found.1.inside in
      subst S (ext_get_or 0 r x (r_is.long ∙ sym is.long) (λ v inside.
      let low : v < n = omega (arith, inside, r_is.long) in
      let b = get_or base v 0 in
      same_small p (get_or r v 0) (get_or x v 0) (r_is.below v 0 inside) (is.below v 0 (omega (arith, low, is.long)))
      (drop_same p (get_or r v 0) (get_or x v 0) b some
      (sym (add_same p (get_or r v 0) (get_or r v 0) (sum_of ms * b) (1 * b) refl (times_same p (sum_of ms) 1 b one))
      ∙ (found.1.reads v low ∙ (add_same p b b (dot ms (places v xs)) (get_or x v 0) refl (sym (reads v low)) ∙ ap (λ s. s % p) (turn b (get_or x v 0)))))))) found.1.inside
    where
      turn : (b x : ℕ) → b + x ≡ x + 1 * b
      turn b x = grind arith

      times_same : (p a c b : ℕ) → a % p ≡ c % p → (a * b) % p ≡ (c * b) % p
      times_same p a c b same = ap (λ s. s % p) (flip a b) ∙ (mul_same p b a c same ∙ ap (λ s. s % p) (flip b c))
        where
          flip : (a b : ℕ) → a * b ≡ b * a
          flip a b = grind arith

      same_small : (p a b : ℕ) → a < p → b < p → a % p ≡ b % p → a ≡ b
      same_small p a b first second same = sym (mod-eq_of_lt first) ∙ (same ∙ mod-eq_of_lt second)

      -- b more on both sides: p - 1 times b still more makes p times b
      drop_same : (p r x b : ℕ) → 1 ≤ p → (r + 1 * b) % p ≡ (x + 1 * b) % p → r % p ≡ x % p
      drop_same p r x b some same =
          sym (add-mul-mod_self_left r p b) ∙ (ap (λ s. s % p) (fill p r b some) ∙ (add_same p (r + 1 * b) (x + 1 * b) ((p - 1) * b) ((p - 1) * b) same refl ∙ (ap (λ s. s % p) (sym (fill p x b some)) ∙ add-mul-mod_self_left x p b)))
        where
          fill : (p r b : ℕ) → 1 ≤ p → r + p * b ≡ r + 1 * b + (p - 1) * b
          fill zero r b some = absurd (omega arith)
          fill (suc q) r b some = by q (suc q - 1) r b (omega arith)
            where
              by : (q k r b : ℕ) → k ≡ q → r + suc q * b ≡ r + 1 * b + k * b
              by q k r b same = rw same (grind arith)
