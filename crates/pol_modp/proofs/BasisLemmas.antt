-- How a basis grows by one equation: a row more, or none where the equation is reduced to nothing.
use Rattle.std.proofs.Common.{◌≡◌, ◌≢◌, ℕ, suc, ◌+◌, ◌-◌, ◌*◌, ◌%◌, ◌<◌, ◌≤◌, ◌⊎◌, inl, inr, List, [], ◌∷◌, ◌++◌, length, get_or, take, All, refl, sym, ap, ◌∙◌, subst, arith}
use Rattle.std.specs.Prelude.{replicate}
use Rattle.std.proofs.Math.Nat.{zero-mod, mod-eq_of_lt}
use Rattle.std.proofs.lemmas.Bool.{cases_eq}
use Rattle.std.proofs.lemmas.List.{take-append-le, take_at, get_or_append_left, get_or_push, length_push, length-append, length-replicate, length-map}
use Rattle.std.proofs.lemmas.List.Elements.{All-push, All-append, All-replicate, All-weaker}
use Rattle.pol_modp.specs.Equations.{EquationView, IsEquation, IsSmallPrime, dot}
use Rattle.pol_modp.proofs.Modular.{mul_zero, cancel}
use Rattle.pol_modp.proofs.DotLemmas.{dot-front}
use Rattle.pol_modp.specs.Rows.{multiple, Vanishes, PivotView, AllVanish, IsPivotRow, IsEchelon, whole, long_row, equation_at, no_equation, SourcesVanish, IsBasis, IsReduced, IsNormal}
use Rattle.pol_modp.proofs.RowLemmas.{get_or-multiple, below-multiple, dot-multiple}

pub at_least_two : (p : ℕ) → IsSmallPrime p → 2 ≤ p
at_least_two p (inl two) = omega (arith, two)
at_least_two p (inr (inl three)) = omega (arith, three)
at_least_two p (inr (inr five)) = omega (arith, five)

pub normal : (p : ℕ) (row : List ℕ) (pivot source factor : ℕ) (b : PivotView) → 2 ≤ p → b.cells ≡ multiple p factor row → b.pivot ≡ pivot → b.source ≡ source → (factor * get_or row pivot 0) % p ≡ 1 → IsNormal p row pivot source b
normal p row pivot source factor b some cells_are pivot_is source_is inverse = record {
  is_pivot = pivot_is;
  is_source = source_is;
  long = ap length cells_are ∙ length-map row (λ a. (0 + factor * a) % p);
  below = subst (λ (cells : List ℕ). All (λ v. v < p) cells) (sym cells_are) (below-multiple p factor row (omega (arith, some)));
  one = ap (λ cells. get_or cells pivot 0) cells_are ∙ (get_or-multiple p factor row pivot ∙ (ap (λ s. s % p) (plain (factor * get_or row pivot 0)) ∙ inverse));
  zeros = λ c zeros. ap (λ cells. get_or cells c 0) cells_are ∙ (get_or-multiple p factor row c ∙ (ap (λ s. s % p) (nothing factor (get_or row c 0) zeros) ∙ zero-mod p));
  same = λ ys.
      let scaled = ap (λ cells. dot cells ys % p) cells_are ∙ dot-multiple p factor row ys in
      ((λ h. scaled ∙ mul_zero p factor (dot row ys) h), (λ h. cancel p factor (get_or row pivot 0) (dot row ys) (inverse ∙ sym (one_small p some)) (sym scaled ∙ h)));
}
  where
    plain : (s : ℕ) → 0 + s ≡ s
    plain s = omega arith

    nothing : (f a : ℕ) → a ≡ 0 → 0 + f * a ≡ 0
    nothing f a zeros = rw zeros (grind arith)

    one_small : (p : ℕ) → 2 ≤ p → 1 % p ≡ 1
    one_small p some = let small : 1 < p = omega arith in mod-eq_of_lt small

pub length-whole : (p n : ℕ) (e : EquationView) → IsEquation p n e → length (whole e) ≡ n + 1
length-whole p n e is = omega (arith, length_push e.coefs e.right, is.long)

pub length-long_row : (p n : ℕ) (e : EquationView) (k : ℕ) → IsEquation p n e → length (long_row p e k) ≡ n + 1 + (k + 1)
length-long_row p n e k is =
    let front = length-whole p n e is in
    let tail = length_push (replicate k 0) (p - 1) in
    let zeros = length-replicate {A = ℕ} k 0 in
    let all = length-append (whole e) (replicate k 0 ++ (p - 1) ∷ []) in
    omega (arith, front, tail, zeros, all)

pub below-long_row : (p n : ℕ) (e : EquationView) (k : ℕ) → 1 ≤ p → IsEquation p n e → All (λ v. v < p) (long_row p e k)
below-long_row p n e k some is =
    let Below : ℕ → Type 0 = λ v. v < p in
    All-append Below (whole e) (replicate k 0 ++ (p - 1) ∷ []) (All-push Below e.coefs e.right is.below is.right_below)
    (All-push Below (replicate k 0) (p - 1) (All-replicate Below k 0 (omega (arith, some))) (omega (arith, some)))

-- on lists of n + 1 numbers the long row is the equation
pub dot-long_row : (p n : ℕ) (e : EquationView) (k : ℕ) (ys : List ℕ) → IsEquation p n e → length ys ≡ n + 1 → dot (long_row p e k) ys ≡ dot (whole e) ys
dot-long_row p n e k ys is long = dot-front (whole e) (replicate k 0 ++ (p - 1) ∷ []) ys (omega (arith, long, length-whole p n e is))

-- a list of numbers that begins with zeros, as far as the other list goes
dot-nothing : (xs ys : List ℕ) → ((c : ℕ) → c < length ys → get_or xs c 0 ≡ 0) → dot xs ys ≡ 0
dot-nothing [] ys zeros = refl
dot-nothing (x ∷ xs) [] zeros = refl
dot-nothing (x ∷ xs) (y ∷ ys) zeros = by x y (dot xs ys) (zeros 0 (omega arith)) (dot-nothing xs ys (λ c inside. zeros (suc c) (omega arith)))
  where
    by : (x y s : ℕ) → x ≡ 0 → s ≡ 0 → x * y + s ≡ 0
    by x y s first second = rw (first, second) (grind arith)

module _ (p n : ℕ) (equations : List EquationView) (are : All (IsEquation p n) equations) (i : ℕ) (basis : List PivotView) (row : List ℕ) (known : i < length equations) (is : IsBasis p n equations i basis) (reduced : IsReduced p n (equation_at equations i) basis row) where
  equation : EquationView
  equation = equation_at equations i

  is_equation : IsEquation p n equation
  unfolding equation
  is_equation = are i no_equation known

  -- what says all that the reduced row says, says equation i too
  implied : (ys : List ℕ) → length ys ≡ n + 1 → AllVanish p basis ys → Vanishes p row ys → Vanishes p (whole (equation_at equations i)) ys
  unfolding equation
  implied ys long vanish gone = sym (ap (λ s. s % p) (dot-long_row p n equation (length basis) ys is_equation long)) ∙ (reduced.same ys vanish).1 gone

  more : (ys : List ℕ) → length ys ≡ n + 1 → AllVanish p basis ys → Vanishes p row ys → (e : ℕ) → e < i + 1 → Vanishes p (whole (equation_at equations e)) ys
  more ys long vanish gone e before = by (cases_eq e i)
    where
      by : (e ≡ i) ⊎ (e ≢ i) → Vanishes p (whole (equation_at equations e)) ys
      by (inl same) = subst (λ (m : ℕ). Vanishes p (whole (equation_at equations m)) ys) (sym same) (implied ys long vanish gone)
      by (inr differs) = is.implies ys long vanish e (omega (arith, before, differs))

  -- nothing is left of the equation
  pub basis-skip : ((c : ℕ) → c < n → get_or row c 0 ≡ 0) → get_or row n 0 ≡ 0 → IsBasis p n equations (i + 1) basis
  basis-skip zeros right = record {
    echelon = is.echelon;
    sources = All-weaker (λ (b : PivotView). b.source < i) (λ (b : PivotView). b.source < i + 1) (λ b less. omega (arith, less)) basis is.sources;
    derived = is.derived;
    implies = λ ys long vanish e before. more ys long vanish (ap (λ s. s % p) (dot-nothing row ys (all_zero ys long)) ∙ zero-mod p) e before;
  }
    where
      all_zero : (ys : List ℕ) → length ys ≡ n + 1 → (c : ℕ) → c < length ys → get_or row c 0 ≡ 0
      all_zero ys long c inside = by (cases_eq c n)
        where
          by : (c ≡ n) ⊎ (c ≢ n) → get_or row c 0 ≡ 0
          by (inl same) = ap (λ k. get_or row k 0) same ∙ right
          by (inr differs) = zeros c (omega (arith, inside, long, differs))

  module _ (pivot : ℕ) (b : PivotView) (low : pivot < n) (made : IsNormal p row pivot i b) where
    at_end : (d : PivotView) → get_or (basis ++ b ∷ []) (length basis) d ≡ b
    at_end d = get_or_push basis b d (length basis) refl

    is_pivot_row : IsPivotRow p n basis b
    is_pivot_row = record {
      long = made.long ∙ reduced.long;
      below = made.below;
      pivot_below = omega (arith, low, made.is_pivot);
      one = ap (λ c. get_or b.cells c 0) made.is_pivot ∙ made.one;
      zeros = λ k d inside. made.zeros (get_or basis k d).pivot (reduced.zeros k d inside);
    }

    echelon-push : IsEchelon p n (basis ++ b ∷ [])
    echelon-push j d inside = by (cases_eq j (length basis))
      where
        by : (j ≡ length basis) ⊎ (j ≢ length basis) → IsPivotRow p n (take j (basis ++ b ∷ [])) (get_or (basis ++ b ∷ []) j d)
        by (inl same) =
            subst (λ (m : ℕ). IsPivotRow p n (take m (basis ++ b ∷ [])) (get_or (basis ++ b ∷ []) m d)) (sym same)
            (subst (λ (front : List PivotView). IsPivotRow p n front (get_or (basis ++ b ∷ []) (length basis) d)) (sym (take_at basis (b ∷ []) (length basis) refl))
            (subst (λ (c : PivotView). IsPivotRow p n basis c) (sym (at_end d)) is_pivot_row))
        by (inr differs) =
            let before : j < length basis = omega (arith, inside, differs, length_push basis b) in
            subst (λ (front : List PivotView). IsPivotRow p n front (get_or (basis ++ b ∷ []) j d)) (sym (take-append-le j basis (b ∷ []) (omega (arith, before))))
            (subst (λ (c : PivotView). IsPivotRow p n (take j basis) c) (sym (get_or_append_left basis (b ∷ []) d j before)) (is.echelon j d before))

    sources-front : (ys : List ℕ) → SourcesVanish p equations (basis ++ b ∷ []) ys → SourcesVanish p equations basis ys
    sources-front ys vanish j d inside = subst (λ (c : PivotView). Vanishes p (long_row p (equation_at equations c.source) j) ys) (get_or_append_left basis (b ∷ []) d j inside) (vanish j d (omega (arith, inside, length_push basis b)))

    sources-last : (ys : List ℕ) → SourcesVanish p equations (basis ++ b ∷ []) ys → Vanishes p (long_row p (equation_at equations i) (length basis)) ys
    sources-last ys vanish =
        subst (λ (s : ℕ). Vanishes p (long_row p (equation_at equations s) (length basis)) ys) made.is_source
        (subst (λ (c : PivotView). Vanishes p (long_row p (equation_at equations c.source) (length basis)) ys) (at_end b) (vanish (length basis) b (omega (arith, length_push basis b))))

    pub basis-push : IsBasis p n equations (i + 1) (basis ++ b ∷ [])
    basis-push = record {
      echelon = echelon-push;
      sources = All-push (λ (c : PivotView). c.source < i + 1) basis b (All-weaker (λ (c : PivotView). c.source < i) (λ (c : PivotView). c.source < i + 1) (λ c less. omega (arith, less)) basis is.sources) (omega (arith, made.is_source));
      derived = λ ys vanish.
          let before = is.derived ys (sources-front ys vanish) in
          All-push (λ (c : PivotView). Vanishes p c.cells ys) basis b before ((made.same ys).0 ((reduced.same ys before).0 (sources-last ys vanish)));
      implies = λ ys long vanish e before.
          let front = λ (k : ℕ) (d : PivotView) (inside : k < length basis). subst (λ (c : PivotView). Vanishes p c.cells ys) (get_or_append_left basis (b ∷ []) d k inside) (vanish k d (omega (arith, inside, length_push basis b))) in
          let last = subst (λ (c : PivotView). Vanishes p c.cells ys) (at_end b) (vanish (length basis) b (omega (arith, length_push basis b))) in
          more ys long front ((made.same ys).1 last) e before;
    }
