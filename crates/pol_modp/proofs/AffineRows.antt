-- Vectors that meet every equation that the rows of an affine set meet are in the set.
use Rattle.std.proofs.Common.{◌≡◌, ◌≢◌, ℕ, zero, suc, ◌+◌, ◌-◌, ◌*◌, ◌%◌, ◌<◌, ◌≤◌, ◌⊎◌, inl, inr, List, [], ◌∷◌, ◌++◌, length, get_or, take, drop, map, All, refl, sym, ap, ◌∙◌, subst, arith}
use Rattle.std.specs.Prelude.{replicate}
use Rattle.std.proofs.Math.Nat.{zero-mod, mul-mod_right}
use Rattle.std.proofs.lemmas.Bool.{cases_eq}
use Rattle.std.proofs.lemmas.List.{get_or_at, get_or_append_left, get_or-drop, get_or-append-add, take_all, get_or_push, get_or-map, length_push, length-map, length-take-le, length-drop, length-replicate}
use Rattle.std.proofs.lemmas.List.Elements.{All-head, All-tail, All-map, All-cons, All-nil, All-push}
use Rattle.pol_modp.specs.Equations.{EquationView, IsEquation, dot}
use Rattle.pol_modp.proofs.Modular.{add_same, left_zero, right_zero, small_zero}
use Rattle.pol_base.specs.Tuples.{IsTuple}
use Rattle.pol_modp.specs.AffineSets.{IsAffineSet}
use Rattle.pol_modp.proofs.AffineSums.{places, sum_of, sum_in}
use Rattle.pol_modp.specs.Rows.{plus_multiple, Vanishes, PivotView, IsEchelon, whole, long_row, equation_at, no_equation, IsBasis, IsReduced}
use Rattle.pol_modp.specs.Nulls.{IsFreeAt, row_equation}
use Rattle.pol_modp.proofs.DotLemmas.{dot-take}
use Rattle.pol_modp.proofs.Spreading.{dot-push}
use Rattle.pol_modp.proofs.BasisLemmas.{length-long_row, below-long_row, length-whole, dot-long_row}
use Rattle.pol_modp.proofs.Echelon.{IsReducing, reducing-none, reducing-take}
use Rattle.pol_modp.proofs.Solution.{from_minus, row-says}

-- a sum of products with one term
dot-one : (xs ys : List ℕ) (c : ℕ) → c < length ys → ((k : ℕ) → k < length ys → k ≢ c → (get_or xs k 0 ≡ 0) ⊎ (get_or ys k 0 ≡ 0)) → dot xs ys ≡ get_or xs c 0 * get_or ys c 0
dot-one [] ys c inside apart = by (get_or ys c 0)
  where
    by : (a : ℕ) → 0 ≡ 0 * a
    by a = grind arith
dot-one (x ∷ xs) [] c inside apart = absurd (omega arith)
dot-one (x ∷ xs) (y ∷ ys) zero inside apart = step (x * y) (dot xs ys) (none xs ys (λ k low. apart (suc k) (omega arith) (omega arith)))
  where
    step : (a b : ℕ) → b ≡ 0 → a + b ≡ a
    step a b zeros = omega arith

    none : (xs ys : List ℕ) → ((k : ℕ) → k < length ys → (get_or xs k 0 ≡ 0) ⊎ (get_or ys k 0 ≡ 0)) → dot xs ys ≡ 0
    none [] ys either = refl
    none (x ∷ xs) [] either = refl
    none (x ∷ xs) (y ∷ ys) either = by x y (dot xs ys) (either 0 (omega arith)) (none xs ys (λ k low. either (suc k) (omega arith)))
      where
        by : (x y s : ℕ) → (x ≡ 0) ⊎ (y ≡ 0) → s ≡ 0 → x * y + s ≡ 0
        by x y s (inl first) rest = rw (first, rest) (grind arith)
        by x y s (inr second) rest = rw (second, rest) (grind arith)
dot-one (x ∷ xs) (y ∷ ys) (suc c) inside apart =
    step x y (dot xs ys) (get_or xs c 0 * get_or ys c 0) (apart 0 (omega arith) (omega arith)) (dot-one xs ys c (omega arith) (λ k low differs. apart (suc k) (omega arith) (λ same. differs (omega (arith, same)))))
  where
    step : (x y s t : ℕ) → (x ≡ 0) ⊎ (y ≡ 0) → s ≡ t → x * y + s ≡ t
    step x y s t (inl first) same = rw first (grind arith)
    step x y s t (inr second) same = rw second (grind arith)

get_or-plus_multiple-behind : (p k : ℕ) (row other : List ℕ) (c : ℕ) → length other ≤ c → get_or (plus_multiple p row k other) c 0 ≡ get_or row c 0
get_or-plus_multiple-behind p k [] other c behind = refl
get_or-plus_multiple-behind p k (a ∷ row) [] c behind = refl
get_or-plus_multiple-behind p k (a ∷ row) (b ∷ other) zero behind = absurd (omega arith)
get_or-plus_multiple-behind p k (a ∷ row) (b ∷ other) (suc c) behind = get_or-plus_multiple-behind p k row other c (omega arith)

-- every row can be reduced, and keeps what stands behind the rows of the echelon
record HasReduction (p : ℕ) (basis : List PivotView) (old : List ℕ) (last j : ℕ) : Type 0 where
  row : List ℕ
  reducing : IsReducing p basis old row j
  kept : get_or row last 0 ≡ get_or old last 0

reduction : (p N : ℕ) (basis : List PivotView) (old : List ℕ) (last j : ℕ) → 1 ≤ p → IsEchelon p N basis → length old ≡ N + 1 + (length basis + 1) → All (λ v. v < p) old → N + 1 + length basis ≤ last → j ≤ length basis → HasReduction p basis old last j
reduction p N basis old last zero some echelon long below behind within = record { row = old; reducing = reducing-none p basis old below; kept = refl }
reduction p N basis old last (suc j) some echelon long below behind within =
    let d : PivotView = record { cells = []; pivot = 0; source = 0 } in
    let inside : j < length basis = omega (arith, within) in
    let before = reduction p N basis old last j some echelon long below behind (omega (arith, within)) in
    let b = get_or basis j d in
    let is = echelon j d inside in
    let place : b.pivot < length before.row = omega (arith, is.pivot_below, before.reducing.long, long) in
    let cell = get_or before.row b.pivot 0 in
    let small : cell < p = before.reducing.below b.pivot 0 place in
    let whole : cell + (p - cell) ≡ p = omega (arith, small) in
    let next : j + 1 ≡ suc j = omega arith in
    let cells_long : length b.cells ≡ N + 1 + (j + 1) = is.long ∙ ap (λ k. N + 1 + (k + 1)) (length-take-le j basis (omega (arith, inside))) in
    record {
      row = plus_multiple p before.row (p - cell) b.cells;
      reducing = subst (λ (m : ℕ). IsReducing p basis old (plus_multiple p before.row (p - cell) b.cells) m) next (reducing-take p N basis echelon some old before.row long j d inside before.reducing (p - cell) whole);
      kept = get_or-plus_multiple-behind p (p - cell) before.row b.cells last (omega (arith, cells_long, behind, inside)) ∙ before.kept;
    }

pub row_equation-is : (p n : ℕ) (x : List ℕ) → 1 ≤ p → IsTuple p n x → IsEquation p (n + 1) (row_equation p x)
row_equation-is p n x some is = record {
  long = length_push x (p - 1) ∙ ap (λ k. k + 1) is.long;
  below = All-push (λ v. v < p) x (p - 1) is.below (omega (arith, some));
  right_below = omega (arith, some);
}

pub row_equations-are : (p n : ℕ) (rows : List (List ℕ)) → 1 ≤ p → All (IsTuple p n) rows → All (IsEquation p (n + 1)) (map (row_equation p) rows)
row_equations-are p n rows some tuples = All-map (IsEquation p (n + 1)) (row_equation p) rows (λ j d inside. row_equation-is p n (get_or rows j d) some (tuples j d inside))

pub row_equations-homogeneous : (p : ℕ) (rows : List (List ℕ)) → All (λ (e : EquationView). e.right ≡ 0) (map (row_equation p) rows)
row_equations-homogeneous p rows = All-map (λ (e : EquationView). e.right ≡ 0) (row_equation p) rows (λ j d inside. refl)

module _ (p n : ℕ) (some : 2 ≤ p) (rows : List (List ℕ)) (vectors : All (IsTuple p n) rows) (basis : List PivotView) (is : IsBasis p (n + 1) (map (row_equation p) rows) (length (map (row_equation p) rows)) basis)
    (x : List ℕ) (is_x : IsTuple p n x) (meets : (f : ℕ) → f < n + 1 → All (λ (b : PivotView). b.pivot ≢ f) basis → (ys : List ℕ) × IsFreeAt p (n + 1) basis f ys × Vanishes p (whole (row_equation p x)) ys) where
  some_p : 1 ≤ p
  some_p = omega (arith, some)

  abbrev N : ℕ
  N = n + 1

  abbrev equations : List EquationView
  equations = map (row_equation p) rows

  abbrev e : EquationView
  e = row_equation p x

  abbrev k : ℕ
  k = length basis

  e_is : IsEquation p N e
  e_is = row_equation-is p n x some_p is_x

  abbrev old : List ℕ
  old = long_row p e k

  found : HasReduction p basis old (N + 1 + k) k
  found = reduction p N basis old (N + 1 + k) k some_p is.echelon (length-long_row p N e k e_is) (below-long_row p N e k some_p e_is) (omega arith) (omega arith)

  is_reduced : (h : HasReduction p basis old (N + 1 + k) k) → IsReduced p N e basis h.row
  is_reduced h = record {
    long = h.reducing.long ∙ length-long_row p N e k e_is;
    below = h.reducing.below;
    zeros = subst (λ (rows : List PivotView). All (λ (b : PivotView). get_or h.row b.pivot 0 ≡ 0) rows) (take_all k basis (omega arith)) h.reducing.zeros;
    same = h.reducing.same;
  }

  are : All (IsEquation p N) equations
  are = row_equations-are p n rows some_p vectors

  -- a place is a pivot, or it is not
  pivot_or_free : (c : ℕ) → ((j : ℕ) × (j < length basis) × ((d : PivotView) → (get_or basis j d).pivot ≡ c)) ⊎ All (λ (b : PivotView). b.pivot ≢ c) basis
  pivot_or_free c = by basis
    where
      by : (bs : List PivotView) → ((j : ℕ) × (j < length bs) × ((d : PivotView) → (get_or bs j d).pivot ≡ c)) ⊎ All (λ (b : PivotView). b.pivot ≢ c) bs
      by [] = inr (All-nil (λ (b : PivotView). b.pivot ≢ c))
      by (b ∷ bs) = here (cases_eq b.pivot c) (by bs)
        where
          here : (b.pivot ≡ c) ⊎ (b.pivot ≢ c) → ((j : ℕ) × (j < length bs) × ((d : PivotView) → (get_or bs j d).pivot ≡ c)) ⊎ All (λ (b : PivotView). b.pivot ≢ c) bs → ((j : ℕ) × (j < length (b ∷ bs)) × ((d : PivotView) → (get_or (b ∷ bs) j d).pivot ≡ c)) ⊎ All (λ (b : PivotView). b.pivot ≢ c) (b ∷ bs)
          here (inl same) rest = inl (0, omega arith, λ d. same)
          here (inr differs) (inl at) = inl (suc at.0, omega (arith, at.1), at.2)
          here (inr differs) (inr free) = inr (All-cons (λ (b : PivotView). b.pivot ≢ c) b bs differs free)

  -- nothing is left of x
  nothing_left : (h : HasReduction p basis old (N + 1 + k) k) → (c : ℕ) → c < N → get_or h.row c 0 ≡ 0
  nothing_left h c low = by (pivot_or_free c)
    where
      reduced : IsReduced p N e basis h.row
      reduced = is_reduced h

      by : ((j : ℕ) × (j < length basis) × ((d : PivotView) → (get_or basis j d).pivot ≡ c)) ⊎ All (λ (b : PivotView). b.pivot ≢ c) basis → get_or h.row c 0 ≡ 0
      by (inl at) = let d : PivotView = record { cells = []; pivot = 0; source = 0 } in ap (λ m. get_or h.row m 0) (sym (at.2 d)) ∙ reduced.zeros at.0 d at.1
      by (inr free) =
          let null = meets c low free in
          let ys = null.0 in
          let gone = (reduced.same ys null.1.vanish).0 (ap (λ s. s % p) (dot-long_row p N e k ys e_is null.1.long) ∙ null.2) in
          let single = dot-one h.row ys c (omega (arith, low, null.1.long)) (λ m inside differs. either m differs ys null.1 (pivot_or_free m)) in
          small_zero p (get_or h.row c 0) (reduced.below c 0 (omega (arith, reduced.long, low)))
          (sym (ap (λ s. s % p) (single ∙ (ap (λ a. get_or h.row c 0 * a) null.1.one ∙ times (get_or h.row c 0)))) ∙ gone)
        where
          times : (a : ℕ) → a * 1 ≡ a
          times a = grind arith

          either : (m : ℕ) → m ≢ c → (ys : List ℕ) → IsFreeAt p (n + 1) basis c ys → ((j : ℕ) × (j < length basis) × ((d : PivotView) → (get_or basis j d).pivot ≡ m)) ⊎ All (λ (b : PivotView). b.pivot ≢ m) basis → (get_or h.row m 0 ≡ 0) ⊎ (get_or ys m 0 ≡ 0)
          either m differs ys free_at (inl at) = let d : PivotView = record { cells = []; pivot = 0; source = 0 } in inl (ap (λ i. get_or h.row i 0) (sym (at.2 d)) ∙ reduced.zeros at.0 d at.1)
          either m differs ys free_at (inr other) = inr (free_at.zeros m differs other)

  abbrev chosen : List (List ℕ)
  chosen = map (λ (b : PivotView). get_or rows b.source []) basis

  -- what the multipliers make of the sources is x, at each place
  sum-says : (h : HasReduction p basis old (N + 1 + k) k) → (v : ℕ) → v < N → dot (take k (drop (N + 1) h.row)) (map (λ (b : PivotView). get_or (whole (equation_at equations b.source)) v 0) basis) % p ≡ get_or (whole e) v 0 % p
  sum-says h v low =
      let own = drop (N + 1) h.row in
      let front = map (λ (b : PivotView). get_or (whole (equation_at equations b.source)) v 0) basis in
      let a = get_or (whole e) v 0 in
      let many : length front ≡ k = length-map basis (λ (b : PivotView). get_or (whole (equation_at equations b.source)) v 0) in
      let says = row-says p N equations are some (length equations) basis h.row (omega arith) e e_is is (is_reduced h) v (omega (arith, low)) in
      let rest = right_zero p (get_or h.row v 0) (dot own (front ++ a ∷ [])) says (ap (λ s. s % p) (nothing_left h v low) ∙ zero-mod p) in
      let last : get_or own (length front) 0 ≡ p - 1 = ap (λ m. get_or own m 0) many ∙ (get_or-drop (N + 1) h.row k 0 ∙ (h.kept ∙ last_is)) in
      ap (λ s. s % p) (dot-take k own front (omega (arith, many)))
      ∙ from_minus p (dot own front) a some_p (sym (ap (λ s. s % p) (dot-push own front a ∙ (ap (λ m. dot own front + m * a) last ∙ flip (dot own front) a (p - 1)))) ∙ rest)
    where
      flip : (s a m : ℕ) → s + m * a ≡ s + a * m
      flip s a m = grind arith

      last_is : get_or old (N + 1 + k) 0 ≡ p - 1
      last_is =
          let front_long = length-whole p N e e_is in
          ap (λ m. get_or old (m + k) 0) (sym front_long) ∙ (get_or-append-add (whole e) (replicate k 0 ++ (p - 1) ∷ []) k 0 ∙ get_or_push (replicate k 0) (p - 1) 0 k (length-replicate {A = ℕ} k 0))

  -- the columns of the sources
  source_of : (b : PivotView) → b.source < length equations → equation_at equations b.source ≡ row_equation p (get_or rows b.source [])
  source_of b known = get_or-map (row_equation p) rows b.source [] no_equation (omega (arith, known, length-map rows (row_equation p)))

  whole-front : (y : List ℕ) (v : ℕ) → length y ≡ n → v < n → get_or (whole (row_equation p y)) v 0 ≡ get_or y v 0
  whole-front y v long low = get_or_append_left (y ++ (p - 1) ∷ []) (0 ∷ []) 0 v (omega (arith, length_push y (p - 1), long, low)) ∙ get_or_append_left y ((p - 1) ∷ []) 0 v (omega (arith, long, low))

  whole-last : (y : List ℕ) → length y ≡ n → get_or (whole (row_equation p y)) n 0 ≡ p - 1
  whole-last y long = get_or_append_left (y ++ (p - 1) ∷ []) (0 ∷ []) 0 n (omega (arith, length_push y (p - 1), long)) ∙ get_or_at y (p - 1) [] 0 n long

  row_long : (b : PivotView) → b.source < length equations → length (get_or rows b.source []) ≡ n
  row_long b known = (vectors b.source [] (omega (arith, known, length-map rows (row_equation p)))).long

  column-front : (v : ℕ) → v < n → map (λ (b : PivotView). get_or (whole (equation_at equations b.source)) v 0) basis ≡ places v chosen
  column-front v low = by basis is.sources
    where
      by : (bs : List PivotView) → All (λ (b : PivotView). b.source < length equations) bs → map (λ (b : PivotView). get_or (whole (equation_at equations b.source)) v 0) bs ≡ places v (map (λ (b : PivotView). get_or rows b.source []) bs)
      by [] known = refl
      by (b ∷ bs) known =
          let here = All-head (λ (b : PivotView). b.source < length equations) b bs known in
          ap (λ a. a ∷ map (λ (b : PivotView). get_or (whole (equation_at equations b.source)) v 0) bs) (ap (λ (f : EquationView). get_or (whole f) v 0) (source_of b here) ∙ whole-front (get_or rows b.source []) v (row_long b here) low)
          ∙ ap (λ rest. get_or (get_or rows b.source []) v 0 ∷ rest) (by bs (All-tail (λ (b : PivotView). b.source < length equations) b bs known))

  sum-last : (ms : List ℕ) (bs : List PivotView) → length ms ≡ length bs → All (λ (b : PivotView). b.source < length equations) bs → dot ms (map (λ (b : PivotView). get_or (whole (equation_at equations b.source)) n 0) bs) ≡ (p - 1) * sum_of ms
  sum-last [] [] long known = by (p - 1)
    where
      by : (a : ℕ) → 0 ≡ a * 0
      by a = grind arith
  sum-last [] (b ∷ bs) long known = absurd (omega arith)
  sum-last (m ∷ ms) [] long known = absurd (omega arith)
  sum-last (m ∷ ms) (b ∷ bs) long known =
      let here = All-head (λ (b : PivotView). b.source < length equations) b bs known in
      let rest = sum-last ms bs (omega arith) (All-tail (λ (b : PivotView). b.source < length equations) b bs known) in
      step m (get_or (whole (equation_at equations b.source)) n 0) (dot ms (map (λ (b : PivotView). get_or (whole (equation_at equations b.source)) n 0) bs)) (p - 1) (sum_of ms) (ap (λ (f : EquationView). get_or (whole f) n 0) (source_of b here) ∙ whole-last (get_or rows b.source []) (row_long b here)) rest
    where
      step : (m a s q t : ℕ) → a ≡ q → s ≡ q * t → m * a + s ≡ q * (m + t)
      step m a s q t first second = rw (first, second) (grind arith)

  -- x is in every affine set that has the rows
  pub complete : (S : List ℕ → Type 0) → IsAffineSet p n S → All S rows → (base : List ℕ) → S base → S x
  complete S affine rows_in base base_in =
      let ms = take k (drop (N + 1) found.row) in
      let reduced = is_reduced found in
      let long : length ms ≡ length basis = length-take-le k (drop (N + 1) found.row) (omega (arith, length-drop (N + 1) found.row, reduced.long)) in
      let xs_in : All S chosen = All-map S (λ (b : PivotView). get_or rows b.source []) basis (λ j d inside. rows_in (get_or basis j d).source [] (omega (arith, is.sources j d inside, length-map rows (row_equation p)))) in
      let last = sum-says found n (omega arith) in
      sum_in p n some_p S affine base base_in ms chosen x (long ∙ sym (length-map basis (λ (b : PivotView). get_or rows b.source []))) xs_in is_x
      (one_from p (sum_of ms) some_p (sym (ap (λ s. s % p) (sum-last ms basis long is.sources)) ∙ (last ∙ ap (λ s. s % p) (whole-last x is_x.long))))
      (λ v low. sym (ap (λ some. dot ms some % p) (sym (column-front v low)) ∙ (sum-says found v (omega (arith, low)) ∙ ap (λ s. s % p) (whole-front x v is_x.long low))))
    where
      -- from - s = -1 to s = 1
      one_from : (p s : ℕ) → 1 ≤ p → ((p - 1) * s) % p ≡ (p - 1) % p → s % p ≡ 1 % p
      one_from p s some same = from_minus p s 1 some (ap (λ a. a % p) (turn s (p - 1)) ∙ (add_same p (p - 1) ((p - 1) * s) s s (sym same) refl ∙ (ap (λ a. a % p) (all p s some) ∙ mul-mod_right p s)))
        where
          turn : (s q : ℕ) → s + 1 * q ≡ q + s
          turn s q = grind arith

          all : (p s : ℕ) → 1 ≤ p → (p - 1) * s + s ≡ p * s
          all zero s some = absurd (omega arith)
          all (suc q) s some = by q (suc q - 1) s (omega arith)
            where
              by : (q r s : ℕ) → r ≡ q → r * s + s ≡ suc q * s
              by q r s same = rw same (grind arith)

-- where no equation has a right side, none is left in the reduced row: so row_equation equations never clash
pub dot-of-zeros : (xs ys : List ℕ) → All (λ y. y ≡ 0) ys → dot xs ys ≡ 0
dot-of-zeros [] ys zeros = refl
dot-of-zeros (x ∷ xs) [] zeros = refl
dot-of-zeros (x ∷ xs) (y ∷ ys) zeros = step x y (dot xs ys) (All-head (λ y. y ≡ 0) y ys zeros) (dot-of-zeros xs ys (All-tail (λ y. y ≡ 0) y ys zeros))
  where
    step : (x y s : ℕ) → y ≡ 0 → s ≡ 0 → x * y + s ≡ 0
    step x y s first second = rw (first, second) (grind arith)

pub right_stays_zero : (p n : ℕ) (equations : List EquationView) (are : All (IsEquation p n) equations) → 2 ≤ p → All (λ (e : EquationView). e.right ≡ 0) equations → (i : ℕ) (basis : List PivotView) (row : List ℕ) → i < length equations → IsBasis p n equations i basis → IsReduced p n (equation_at equations i) basis row → get_or row n 0 ≡ 0
right_stays_zero p n equations are some rights i basis row known is reduced =
    let says = row-says p n equations are some i basis row (omega (arith, known)) (equation_at equations i) (are i no_equation known) is reduced n (omega arith) in
    let zeros = dot-of-zeros (drop (n + 1) row) _ (All-push (λ y. y ≡ 0) (map (λ (b : PivotView). get_or (whole (equation_at equations b.source)) n 0) basis) (get_or (whole (equation_at equations i)) n 0)
    (All-map (λ y. y ≡ 0) (λ (b : PivotView). get_or (whole (equation_at equations b.source)) n 0) basis (λ j d inside. right_at (get_or basis j d).source (omega (arith, is.sources j d inside, known))))
    (right_at i known)) in
    small_zero p (get_or row n 0) (reduced.below n 0 (omega (arith, reduced.long))) (left_zero p (get_or row n 0) (dot (drop (n + 1) row) _) says (ap (λ s. s % p) zeros ∙ zero-mod p))
  where
    right_at : (s : ℕ) → s < length equations → get_or (whole (equation_at equations s)) n 0 ≡ 0
    right_at s inside = get_or_at (equation_at equations s).coefs (equation_at equations s).right [] 0 n (are s no_equation inside).long ∙ rights s no_equation inside
