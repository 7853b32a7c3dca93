-- The equations of the places without pivot have exactly the rows of an affine set as solutions.
use Rattle.std.proofs.Common.{◌≡◌, ◌≢◌, ℕ, zero, suc, ◌+◌, ◌-◌, ◌*◌, ◌%◌, ◌<◌, ◌≤◌, List, [], ◌∷◌, ◌++◌, length, get_or, map, All, Any, Contains, refl, sym, ap, ◌∙◌, subst, arith}
use Rattle.std.proofs.Math.Nat.{mul-mod_right, mod-eq_of_lt, zero-mod}
use Rattle.std.proofs.lemmas.List.{length_push, length-map, get_or-map, get_or_default, get_or_at, get_or_append_left}
use Rattle.std.proofs.lemmas.List.Elements.{All-contains, All-contains_itself, All-head}
use Rattle.pol_modp.specs.Equations.{EquationView, dot, MeetsEquation}
use Rattle.pol_modp.proofs.Modular.{add_same}
use Rattle.pol_modp.proofs.DotLemmas.{dot-comm, dot-append}
use Rattle.pol_base.specs.Tuples.{IsTuple}
use Rattle.pol_modp.specs.AffineSets.{IsAffineSet}
use Rattle.pol_modp.specs.Rows.{Vanishes, PivotView, whole, no_equation, IsBasis}
use Rattle.pol_modp.specs.Nulls.{IsContradiction, HasNulls}
use Rattle.pol_modp.proofs.Solution.{from_minus}
use Rattle.pol_modp.specs.Nulls.{row_equation}
use Rattle.pol_modp.proofs.AffineRows.{complete, dot-of-zeros}

module _ (p n : ℕ) (some : 2 ≤ p) where
  value : (x : List ℕ) (e : EquationView) → length x ≡ n → length e.coefs ≡ n → dot (whole (row_equation p x)) (whole e ++ 0 ∷ []) ≡ dot e.coefs x + e.right * (p - 1)
  value x e long as_long =
      dot-append (x ++ (p - 1) ∷ []) (0 ∷ []) (whole e) (0 ∷ []) (omega (arith, length_push x (p - 1), length_push e.coefs e.right, long, as_long))
      ∙ (ap (λ s. s + (0 * 0 + 0)) (dot-append x ((p - 1) ∷ []) e.coefs (e.right ∷ []) (long ∙ sym as_long))
      ∙ (ap (λ s. s + ((p - 1) * e.right + 0) + (0 * 0 + 0)) (dot-comm x e.coefs) ∙ turn (dot e.coefs x) (p - 1) e.right))
    where
      turn : (s q r : ℕ) → s + (q * r + 0) + (0 * 0 + 0) ≡ s + r * q
      turn s q r = grind arith

  meets_from_null : (x : List ℕ) (e : EquationView) → length x ≡ n → length e.coefs ≡ n → Vanishes p (whole (row_equation p x)) (whole e ++ 0 ∷ []) → MeetsEquation p x e
  meets_from_null x e long as_long gone = from_minus p (dot e.coefs x) e.right (omega (arith, some)) (sym (ap (λ s. s % p) (value x e long as_long)) ∙ gone)

  null_from_meets : (x : List ℕ) (e : EquationView) → length x ≡ n → length e.coefs ≡ n → MeetsEquation p x e → Vanishes p (whole (row_equation p x)) (whole e ++ 0 ∷ [])
  null_from_meets x e long as_long meets =
      ap (λ s. s % p) (value x e long as_long) ∙ (add_same p (dot e.coefs x) e.right (e.right * (p - 1)) (e.right * (p - 1)) meets refl ∙ (ap (λ s. s % p) (all p e.right (omega (arith, some))) ∙ mul-mod_right p e.right))
    where
      all : (p r : ℕ) → 1 ≤ p → r + r * (p - 1) ≡ p * r
      all zero r some = absurd (omega arith)
      all (suc q) r some = by q (suc q - 1) r (omega arith)
        where
          by : (q k r : ℕ) → k ≡ q → r + r * k ≡ suc q * r
          by q k r same = rw same (grind arith)

  module _ (rows : List (List ℕ)) (vectors : All (IsTuple p n) rows) (basis : List PivotView) (is : IsBasis p (n + 1) (map (row_equation p) rows) (length (map (row_equation p) rows)) basis)
      (equations : List EquationView) (nulls : HasNulls p n basis (n + 1) equations) where
    -- each row meets each equation
    pub rows_meet : All (λ x. All (MeetsEquation p x) equations) rows
    rows_meet = λ j d inside i e within.
        let null = nulls.each i e within in
        let at = null.null in
        let known : j < length (map (row_equation p) rows) = omega (arith, inside, length-map rows (row_equation p)) in
        let gone = is.implies (whole (get_or equations i e) ++ 0 ∷ []) at.free.long at.free.vanish j known in
        meets_from_null (get_or rows j d) (get_or equations i e) (vectors j d inside).long at.is_equation.long
        (subst (λ (f : EquationView). Vanishes p (whole f) (whole (get_or equations i e) ++ 0 ∷ [])) (get_or-map (row_equation p) rows j d no_equation inside) gone)

    -- and in an affine set of these rows nothing else does
    pub only_rows : (S : List ℕ → Type 0) → IsAffineSet p n S → All S rows → (base : List ℕ) → S base → (x : List ℕ) → IsTuple p n x → All (MeetsEquation p x) equations → S x
    only_rows S affine rows_in base base_in x is_x meets =
        complete p n some rows vectors basis is x is_x (λ f low free.
        let found = nulls.all f low free in
        (whole found.equation ++ 0 ∷ [], found.null.free, null_from_meets x found.equation is_x.long found.null.is_equation.long (All-contains (MeetsEquation p x) equations found.equation meets found.among)))
        S affine rows_in base base_in

    -- without rows no place is a pivot, and the equation of the last one says 0 = 1
    pub contradiction : rows ≡ [] → Any (IsContradiction p n) equations
    contradiction none =
        let found = nulls.all n (omega arith) free in
        let e = found.equation in
        let ys = whole e ++ 0 ∷ [] in
        let long = found.null.is_equation.long in
        let whole_long : length (whole e) ≡ n + 1 = omega (arith, length_push e.coefs e.right, long) in
        let right : e.right ≡ 1 = sym (get_or_append_left (whole e) (0 ∷ []) 0 n (omega (arith, whole_long)) ∙ get_or_at e.coefs e.right [] 0 n long) ∙ found.null.free.one in (
          found.among.0,
          e,
          found.among.1,
          found.among.2,
          record {
            long = long;
            zeros = λ v d inside.
                let differs : v ≢ n = omega (arith, inside, long) in
                let here = found.null.free.zeros v differs (λ j b low. absurd (omega (arith, low, no_pivot))) in
                get_or_default e.coefs v d 0 inside ∙ (sym (get_or_append_left (whole e) (0 ∷ []) 0 v (omega (arith, whole_long, inside, long)) ∙ get_or_append_left e.coefs (e.right ∷ []) 0 v inside) ∙ here);
            nonzero = λ vanishes. absurd (one_nonzero e.right p some right vanishes);
          },
        )
      where
        no_pivot : length basis ≡ 0
        no_pivot = by basis is.sources
          where
            by : (bs : List PivotView) → All (λ (b : PivotView). b.source < length (map (row_equation p) rows)) bs → length bs ≡ 0
            by [] low = refl
            by (b ∷ bs) low = absurd (omega (arith, All-head (λ (c : PivotView). c.source < length (map (row_equation p) rows)) b bs low, length-map rows (row_equation p), ap length none))

        free : All (λ (b : PivotView). b.pivot ≢ n) basis
        free = λ j b low. absurd (omega (arith, low, no_pivot))

        one_nonzero : (r p : ℕ) → 2 ≤ p → r ≡ 1 → r % p ≡ 0 → ⊥
        one_nonzero r p some one vanishes = let small : r < p = omega (arith, some, one) in absurd (omega (arith, sym (mod-eq_of_lt small) ∙ vanishes, one))

    -- which nothing meets
    pub nothing_meets : rows ≡ [] → (x : List ℕ) → All (MeetsEquation p x) equations → ⊥
    nothing_meets none x meets =
        let found = contradiction none in
        let e = found.1 in
        let at = found.4 in
        let met : MeetsEquation p x e = All-contains (MeetsEquation p x) equations e meets (found.0, found.2, found.3) in
        at.nonzero (sym met ∙ (ap (λ s. s % p) (dot-comm e.coefs x ∙ dot-of-zeros x e.coefs at.zeros) ∙ zero-mod p))

    -- if the rows are an affine set, nothing but the rows meets the equations
    pub rows_alone : IsAffineSet p n (Contains rows) → (x : List ℕ) → IsTuple p n x → All (MeetsEquation p x) equations → Contains rows x
    rows_alone affine x is_x meets = by rows refl
      where
        by : (some_rows : List (List ℕ)) → rows ≡ some_rows → Contains rows x
        by [] same = absurd (nothing_meets same x meets)
        by (base ∷ others) same =
            only_rows (Contains rows) affine (All-contains_itself rows) base (subst (λ (all : List (List ℕ)). Contains all base) (sym same) (0, omega arith, refl)) x is_x meets
