-- From rows that vanish to values that meet the equations, and from a row that can't vanish to multipliers.
use Rattle.std.proofs.Common.{◌≡◌, ℕ, zero, suc, ◌+◌, ◌-◌, ◌*◌, ◌%◌, ◌<◌, ◌≤◌, List, [], ◌∷◌, ◌++◌, length, get_or, set, take, drop, map, All, refl, sym, ap, ◌∙◌, subst, arith}
use Rattle.std.specs.Prelude.{replicate}
use Rattle.std.proofs.Math.Nat.{zero-mod, mul-mod_right, add-mul-mod_self_left}
use Rattle.std.proofs.lemmas.Nat.{mod_below}
use Rattle.std.proofs.lemmas.List.{get_or_default, get_or_at, get_or_append_left, get_or_push, length-set, length-map, length-take-le, get_or-map, get_or-take, take-append-drop, take_more, take_all}
use Rattle.std.proofs.lemmas.List.Elements.{All-head, All-tail, All-take, All-set}
use Rattle.pol_modp.specs.Equations.{EquationView, IsEquation, dot, MeetsEquation, coefs_at, rights_of, IsClash, IsCommonSolution}
use Rattle.pol_modp.proofs.Modular.{add_same, left_zero, right_zero, small_zero}
use Rattle.pol_modp.proofs.DotLemmas.{dot-comm, dot-append, dot-last, dot-raise, unit, length-unit, dot-unit}
use Rattle.pol_modp.specs.Rows.{Vanishes, PivotView, AllVanish, whole, long_row, equation_at, no_equation, SourcesVanish, IsBasis, IsReduced}
use Rattle.pol_modp.proofs.BasisLemmas.{length-whole}
use Rattle.pol_modp.proofs.Spreading.{dot-push}

-- a + b (p - 1) = 0 modulo p says that a is b
pub from_minus : (p a b : ℕ) → 1 ≤ p → (a + b * (p - 1)) % p ≡ 0 → a % p ≡ b % p
from_minus p a b some zeros =
    sym (add-mul-mod_self_left a p b) ∙ (ap (λ s. s % p) (turn p a b some) ∙ (add_same p (a + b * (p - 1)) 0 b b (zeros ∙ sym (zero-mod p)) refl ∙ ap (λ s. s % p) (plain b)))
  where
    plain : (b : ℕ) → 0 + b ≡ b
    plain b = omega arith

    turn : (p a b : ℕ) → 1 ≤ p → a + p * b ≡ a + b * (p - 1) + b
    turn zero a b some = absurd (omega arith)
    turn (suc q) a b some = by q (suc q - 1) a b (omega arith)
      where
        by : (q r a b : ℕ) → r ≡ q → a + suc q * b ≡ a + b * r + b
        by q r a b same = rw same (grind arith)

pub meets_from_vanish : (p n : ℕ) (e : EquationView) (ys : List ℕ) → 1 ≤ p → IsEquation p n e → length ys ≡ n + 1 → get_or ys n 0 ≡ p - 1 → Vanishes p (whole e) ys → MeetsEquation p (take n ys) e
meets_from_vanish p n e ys some is long last gone =
    from_minus p (dot e.coefs (take n ys)) e.right some
    (sym (ap (λ s. s % p) (ap (dot (whole e)) split ∙ (dot-append e.coefs (e.right ∷ []) (take n ys) ((p - 1) ∷ []) (omega (arith, is.long, length-take-le n ys (omega (arith, long)))) ∙ plain (dot e.coefs (take n ys)) (e.right * (p - 1))))) ∙ gone)
  where
    plain : (a b : ℕ) → a + (b + 0) ≡ a + b
    plain a b = omega arith

    split : ys ≡ take n ys ++ (p - 1) ∷ []
    split = sym (take_all (n + 1) ys (omega (arith, long))) ∙ (take_more ys n 0 (omega (arith, long)) ∙ ap (λ a. take n ys ++ a ∷ []) last)

pub common_solution : (p n : ℕ) (equations : List EquationView) (basis : List PivotView) (ys values : List ℕ) → 1 ≤ p → All (IsEquation p n) equations → IsBasis p n equations (length equations) basis
    → length ys ≡ n + 1 → All (λ v. v < p) ys → get_or ys n 0 ≡ p - 1 → AllVanish p basis ys → values ≡ take n ys → IsCommonSolution p n equations values
common_solution p n equations basis ys values some are is long below last vanish same =
    subst (λ (some : List ℕ). IsCommonSolution p n equations some) (sym same)
    (record {
      long = length-take-le n ys (omega (arith, long));
      below = All-take (λ v. v < p) n ys below;
      meets = λ k d inside.
          subst (λ (e : EquationView). MeetsEquation p (take n ys) e) (get_or_default equations k no_equation d inside)
          (meets_from_vanish p n (equation_at equations k) ys some (are k no_equation inside) long last (is.implies ys long vanish k inside));
    })

-- the columns of whole equations

abbrev column : ℕ → List EquationView → List ℕ
column v equations = map (λ (e : EquationView). get_or (whole e) v 0) equations

module _ (p n : ℕ) (equations : List EquationView) (are : All (IsEquation p n) equations) where
  column-coefs : (v : ℕ) → v < n → column v equations ≡ coefs_at v equations
  column-coefs v low = by equations are
    where
      by : (equations : List EquationView) → All (IsEquation p n) equations → column v equations ≡ coefs_at v equations
      by [] are = refl
      by (e ∷ es) are =
          let is = All-head (IsEquation p n) e es are in
          let inside : v < length e.coefs = omega (arith, is.long, low) in
          ap (λ a. a ∷ column v es) (get_or_append_left e.coefs (e.right ∷ []) 0 v inside) ∙ ap (λ rest. get_or e.coefs v 0 ∷ rest) (by es (All-tail (IsEquation p n) e es are))

  column-rights : column n equations ≡ rights_of equations
  column-rights = by equations are
    where
      by : (equations : List EquationView) → All (IsEquation p n) equations → column n equations ≡ rights_of equations
      by [] are = refl
      by (e ∷ es) are =
          let is = All-head (IsEquation p n) e es are in
          ap (λ a. a ∷ column n es) (get_or_at e.coefs e.right [] 0 n is.long) ∙ ap (λ rest. e.right ∷ rest) (by es (All-tail (IsEquation p n) e es are))

  module _ (some : 2 ≤ p) (i : ℕ) (basis : List PivotView) (row : List ℕ) (few : i ≤ length equations) (e : EquationView) (is_e : IsEquation p n e) (is : IsBasis p n equations i basis) (reduced : IsReduced p n e basis row) where
    k : ℕ
    k = length basis

    -- what the sources have at a column, and the equation behind them
    abbrev picked : ℕ → List ℕ
    picked v = map (λ (b : PivotView). get_or (whole (equation_at equations b.source)) v 0) basis ++ get_or (whole e) v 0 ∷ []

    abbrev probe : ℕ → List ℕ
    probe v = unit (n + 1) v ++ picked v

    -- -1 times what the equation has there, and once more what it has there
    long_row-vanishes : (f : EquationView) (j v : ℕ) → IsEquation p n f → v < n + 1 → get_or (picked v) j 0 ≡ get_or (whole f) v 0 → Vanishes p (long_row p f j) (probe v)
    long_row-vanishes f j v is_f low reads =
        let a = get_or (whole f) v 0 in
        let tail = replicate j 0 ++ (p - 1) ∷ [] in
        let front_long : length (whole f) ≡ length (unit (n + 1) v) = length-whole p n f is_f ∙ sym (length-unit (n + 1) v) in
        ap (λ s. s % p) (dot-append (whole f) tail (unit (n + 1) v) (picked v) front_long
        ∙ (ap (λ s. s + dot tail (picked v)) (dot-unit (whole f) (n + 1) v low)
        ∙ (ap (λ s. a + s) (dot-last j (p - 1) (picked v))
        ∙ (ap (λ b. a + (p - 1) * b) reads
        ∙ turn p a (omega (arith, some))))))
        ∙ mul-mod_right p a
      where
        turn : (p a : ℕ) → 1 ≤ p → a + (p - 1) * a ≡ p * a
        turn zero a some = absurd (omega arith)
        turn (suc q) a some = by q (suc q - 1) a (omega arith)
          where
            by : (q r a : ℕ) → r ≡ q → a + r * a ≡ suc q * a
            by q r a same = rw same (grind arith)

    sources-vanish : (v : ℕ) → v < n + 1 → SourcesVanish p equations basis (probe v)
    sources-vanish v low j d inside =
        let s = (get_or basis j d).source in
        let source_known : s < length equations = omega (arith, is.sources j d inside, few) in
        long_row-vanishes (equation_at equations s) j v (are s no_equation source_known) low
        (get_or_append_left (map (λ (b : PivotView). get_or (whole (equation_at equations b.source)) v 0) basis) (get_or (whole e) v 0 ∷ []) 0 j (omega (arith, inside, length-map basis (λ (b : PivotView). get_or (whole (equation_at equations b.source)) v 0)))
        ∙ get_or-map (λ (b : PivotView). get_or (whole (equation_at equations b.source)) v 0) basis j d 0 inside)

    own-vanishes : (v : ℕ) → v < n + 1 → Vanishes p (long_row p e (length basis)) (probe v)
    own-vanishes v low =
        long_row-vanishes e (length basis) v is_e low
        (get_or_push (map (λ (b : PivotView). get_or (whole (equation_at equations b.source)) v 0) basis) (get_or (whole e) v 0) 0 (length basis) (length-map basis (λ (b : PivotView). get_or (whole (equation_at equations b.source)) v 0)))

    -- so the reduced row says what its multipliers make of the sources
    pub row-says : (v : ℕ) → v < n + 1 → (get_or row v 0 + dot (drop (n + 1) row) (picked v)) % p ≡ 0
    row-says v low =
        let all_vanish = is.derived (probe v) (sources-vanish v low) in
        let gone = (reduced.same (probe v) all_vanish).0 (own-vanishes v low) in
        let front = take (n + 1) row in
        let front_long : length front ≡ length (unit (n + 1) v) = length-take-le (n + 1) row (omega (arith, reduced.long)) ∙ sym (length-unit (n + 1) v) in
        sym (ap (λ s. s % p) (ap (λ some. dot some (probe v)) (sym (take-append-drop (n + 1) row)) ∙ (dot-append front (drop (n + 1) row) (unit (n + 1) v) (picked v) front_long
        ∙ ap (λ s. s + dot (drop (n + 1) row) (picked v)) (dot-unit front (n + 1) v low ∙ get_or-take (n + 1) row v 0 low))))
        ∙ gone

    -- the multipliers of all equations, from those of the sources and from that of equation i
    module _ (known : i < length equations) (own_equation : e ≡ equation_at equations i) (own out out_all : List ℕ) (own_is : own ≡ drop (n + 1) row) (out_long : length out ≡ length equations) (out_below : All (λ m. m < p) out)
        (spread : (values : List ℕ) → dot values out % p ≡ dot own (map (λ (b : PivotView). get_or values b.source 0) basis) % p)
        (out_all_is : out_all ≡ set out i ((get_or out i 0 + 1 * get_or own (length basis) 0) % p)) where
      picked-values : (v : ℕ) → map (λ (b : PivotView). get_or (column v equations) b.source 0) basis ≡ map (λ (b : PivotView). get_or (whole (equation_at equations b.source)) v 0) basis
      picked-values v = by basis is.sources
        where
          by : (bs : List PivotView) → All (λ (b : PivotView). b.source < i) bs → map (λ (b : PivotView). get_or (column v equations) b.source 0) bs ≡ map (λ (b : PivotView). get_or (whole (equation_at equations b.source)) v 0) bs
          by [] low = refl
          by (b ∷ bs) low =
              let here : b.source < length equations = omega (arith, All-head (λ (b : PivotView). b.source < i) b bs low, known) in
              ap (λ a. a ∷ map (λ (b : PivotView). get_or (column v equations) b.source 0) bs) (get_or-map (λ (e : EquationView). get_or (whole e) v 0) equations b.source no_equation 0 here)
              ∙ ap (λ rest. get_or (whole (equation_at equations b.source)) v 0 ∷ rest) (by bs (All-tail (λ (b : PivotView). b.source < i) b bs low))

      -- the sum at a column
      sum-at : (v : ℕ) → dot (column v equations) out_all % p ≡ dot own (picked v) % p
      sum-at v =
          let values = column v equations in
          let f : PivotView → ℕ = λ (b : PivotView). get_or (whole (equation_at equations b.source)) v 0 in
          let m = get_or own (length basis) 0 in
          let a = get_or (whole e) v 0 in
          let reads : get_or values i 0 ≡ a = get_or-map (λ (e : EquationView). get_or (whole e) v 0) equations i no_equation 0 known ∙ ap (λ (f : EquationView). get_or (whole f) v 0) (sym own_equation) in
          let before : dot values out % p ≡ dot own (map f basis) % p = spread values ∙ ap (λ some. dot own some % p) (picked-values v) in
          let many : length (map f basis) ≡ length basis = length-map basis f in
          ap (λ some. dot values some % p) out_all_is
          ∙ (dot-raise p values out i (1 * m) (omega (arith, known, out_long))
          ∙ (add_same p (dot values out) (dot own (map f basis)) (get_or values i 0 * (1 * m)) (m * a) before (ap (λ s. s % p) (turn (get_or values i 0) m a reads))
          ∙ (ap (λ j. (dot own (map f basis) + get_or own j 0 * a) % p) (sym many)
          ∙ sym (ap (λ s. s % p) (dot-push own (map f basis) a)))))
        where
          turn : (b m a : ℕ) → b ≡ a → b * (1 * m) ≡ m * a
          turn b m a same = rw same (grind arith)

      total : (v : ℕ) → v < n + 1 → (get_or row v 0 + dot out_all (column v equations)) % p ≡ 0
      total v low =
          let known_sum : dot out_all (column v equations) % p ≡ dot (drop (n + 1) row) (picked v) % p = ap (λ s. s % p) (dot-comm out_all (column v equations)) ∙ (sum-at v ∙ ap (λ some. dot some (picked v) % p) own_is) in
          add_same p (get_or row v 0) (get_or row v 0) (dot out_all (column v equations)) (dot (drop (n + 1) row) (picked v)) refl known_sum ∙ row-says v low

      pub clash : ((c : ℕ) → c < n → get_or row c 0 ≡ 0) → 1 ≤ get_or row n 0 → IsClash p n equations out_all
      clash zeros right = record {
        long = ap length out_all_is ∙ (length-set out i ((get_or out i 0 + 1 * get_or own (length basis) 0) % p) ∙ out_long);
        below = subst (λ (some : List ℕ). All (λ m. m < p) some) (sym out_all_is) (All-set (λ m. m < p) out i ((get_or out i 0 + 1 * get_or own (length basis) 0) % p) (mod_below (get_or out i 0 + 1 * get_or own (length basis) 0) p (omega (arith, some))) out_below);
        coefs_zero = λ v low.
            ap (λ some. dot out_all some % p) (sym (column-coefs v low))
            ∙ right_zero p (get_or row v 0) (dot out_all (column v equations)) (total v (omega (arith, low))) (ap (λ a. a % p) (zeros v low) ∙ zero-mod p);
        right_nonzero = λ zero_sum.
            let sum_zero : dot out_all (column n equations) % p ≡ 0 = ap (λ some. dot out_all some % p) column-rights ∙ zero_sum in
            let row_zero = left_zero p (get_or row n 0) (dot out_all (column n equations)) (total n (omega arith)) sum_zero in
            let small : get_or row n 0 < p = reduced.below n 0 (omega (arith, reduced.long)) in
            let none : get_or row n 0 ≡ 0 = small_zero p (get_or row n 0) small row_zero in
            absurd (omega (arith, none, right));
      }
