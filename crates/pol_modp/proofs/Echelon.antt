-- Reducing a row by an echelon, and substituting from its last row to the first.
use Rattle.std.proofs.Common.{◌≡◌, ◌≢◌, ◌↔◌, ℕ, ◌+◌, ◌-◌, ◌*◌, ◌%◌, ◌<◌, ◌≤◌, ◌⊎◌, inl, inr, List, length, get_or, set, take, All, refl, sym, ap, ◌∙◌, subst, arith}
use Rattle.std.proofs.Math.Nat.{zero-mod, mod_self, mod-add-mod}
use Rattle.std.proofs.lemmas.Bool.{cases_eq}
use Rattle.std.proofs.lemmas.List.{get_or-take, length-take-le, get_or_default}
use Rattle.std.proofs.lemmas.List.Elements.{All-more, All-nil}
use Rattle.pol_modp.specs.Equations.{dot}
use Rattle.pol_modp.proofs.Modular.{add_zero, mul_zero, left_zero}
use Rattle.pol_modp.proofs.DotLemmas.{dot-raise}
use Rattle.pol_modp.specs.Rows.{plus_multiple, Vanishes, PivotView, AllVanish, IsEchelon}
use Rattle.pol_modp.proofs.RowLemmas.{length-plus_multiple, below-plus_multiple, get_or-plus_multiple, dot-plus_multiple}

-- multiples of the first j rows are taken away
pub record IsReducing (p : ℕ) (basis : List PivotView) (old row : List ℕ) (j : ℕ) : Type 0 where
  pub long : length row ≡ length old
  pub below : All (λ v. v < p) row
  pub zeros : All (λ (b : PivotView). get_or row b.pivot 0 ≡ 0) (take j basis)
  pub same : (ys : List ℕ) → AllVanish p basis ys → (Vanishes p old ys ↔ Vanishes p row ys)

pub reducing-none : (p : ℕ) (basis : List PivotView) (row : List ℕ) → All (λ v. v < p) row → IsReducing p basis row row 0
reducing-none p basis row below = record { long = refl; below = below; zeros = All-nil (λ (b : PivotView). get_or row b.pivot 0 ≡ 0); same = λ ys vanish. ((λ h. h), (λ h. h)) }

module _ (p n : ℕ) (basis : List PivotView) (echelon : IsEchelon p n basis) where
  -- the pivot of an earlier row, at a later one
  pub later_zero : (i j : ℕ) (d e : PivotView) → i < j → j < length basis → get_or (get_or basis j d).cells (get_or basis i e).pivot 0 ≡ 0
  later_zero i j d e before inside =
      subst (λ (b : PivotView). get_or (get_or basis j d).cells b.pivot 0 ≡ 0) (get_or-take j basis i e before)
      ((echelon j d inside).zeros i e (omega (arith, before, inside, length-take-le j basis)))

  module _ (some : 1 ≤ p) (old row : List ℕ) (long : length old ≡ n + 1 + (length basis + 1)) (j : ℕ) (d : PivotView) (inside : j < length basis) (so_far : IsReducing p basis old row j) where
    cells_long : length (get_or basis j d).cells ≡ n + 1 + (j + 1)
    cells_long = (echelon j d inside).long ∙ ap (λ k. n + 1 + (k + 1)) (length-take-le j basis (omega (arith, inside)))

    pub cells_within : length (get_or basis j d).cells ≤ length row
    cells_within = omega (arith, cells_long, so_far.long, long, inside)

    pub pivot_within : (get_or basis j d).pivot < length row
    pivot_within = omega (arith, (echelon j d inside).pivot_below, so_far.long, long)

    pub reducing-skip : get_or row (get_or basis j d).pivot 0 ≡ 0 → IsReducing p basis old row (j + 1)
    reducing-skip here = record {
      long = so_far.long;
      below = so_far.below;
      zeros = All-more (λ (b : PivotView). get_or row b.pivot 0 ≡ 0) basis j d inside so_far.zeros here;
      same = so_far.same;
    }

    pub reducing-take : (k : ℕ) → get_or row (get_or basis j d).pivot 0 + k ≡ p → IsReducing p basis old (plus_multiple p row k (get_or basis j d).cells) (j + 1)
    reducing-take k whole =
        let b = get_or basis j d in
        let new = plus_multiple p row k b.cells in
        let is = echelon j d inside in
        let reads = λ (c : ℕ) (low : c < n). get_or-plus_multiple p k row b.cells c cells_within (omega (arith, low, cells_long)) in
        record {
          long = length-plus_multiple p k row b.cells ∙ so_far.long;
          below = below-plus_multiple p k row b.cells some so_far.below;
          zeros = All-more (λ (e : PivotView). get_or new e.pivot 0 ≡ 0) basis j d inside
              (λ i e less.
              let before : i < j = omega (arith, less, length-take-le j basis (omega (arith, inside))) in
              let e_is = get_or-take j basis i e before in
              subst (λ (f : PivotView). get_or new f.pivot 0 ≡ 0) (sym e_is)
              (reads (get_or basis i e).pivot (echelon i e (omega (arith, before, inside))).pivot_below
              ∙ zeros_at p (get_or row (get_or basis i e).pivot 0) k (get_or b.cells (get_or basis i e).pivot 0) (subst (λ (f : PivotView). get_or row f.pivot 0 ≡ 0) e_is (so_far.zeros i e less)) (later_zero i j d e before inside)))
              (reads b.pivot is.pivot_below ∙ here p (get_or row b.pivot 0) k (get_or b.cells b.pivot 0) is.one whole);
          same = λ ys vanish.
              let sum = dot-plus_multiple p k row b.cells ys cells_within in
              let gone = mul_zero p k (dot b.cells ys) (vanish j d inside) in
              let old_same = so_far.same ys vanish in
              ((λ h. sum ∙ add_zero p (dot row ys) (k * dot b.cells ys) (old_same.0 h) gone), (λ h. old_same.1 (left_zero p (dot row ys) (k * dot b.cells ys) (sym sum ∙ h) gone)));
        }
      where
        zeros_at : (p a k b : ℕ) → a ≡ 0 → b ≡ 0 → (a + k * b) % p ≡ 0
        zeros_at p a k b first second = ap (λ s. s % p) (by a k b first second) ∙ zero-mod p
          where
            by : (a k b : ℕ) → a ≡ 0 → b ≡ 0 → a + k * b ≡ 0
            by a k b first second = rw (first, second) (grind arith)

        here : (p a k b : ℕ) → b ≡ 1 → a + k ≡ p → (a + k * b) % p ≡ 0
        here p a k b one all = ap (λ s. s % p) (by a k b p one all) ∙ mod_self p
          where
            by : (a k b p : ℕ) → b ≡ 1 → a + k ≡ p → a + k * b ≡ p
            by a k b p one all = rw one (grind arith)

    -- as the code comes by them
    pub reducing-took : (cells new : List ℕ) (pivot k : ℕ) → cells ≡ (get_or basis j d).cells → pivot ≡ (get_or basis j d).pivot → k ≡ p - get_or row pivot 0 → new ≡ plus_multiple p row k cells → IsReducing p basis old new (j + 1)
    reducing-took cells new pivot k cells_are pivot_is rest made =
        let cell = get_or row (get_or basis j d).pivot 0 in
        let small : cell < p = so_far.below (get_or basis j d).pivot 0 pivot_within in
        let rest_is : k ≡ p - cell = rest ∙ ap (λ c. p - get_or row c 0) pivot_is in
        let whole : cell + k ≡ p = omega (arith, rest_is, small) in
        subst (λ (some : List ℕ). IsReducing p basis old some (j + 1)) (sym (made ∙ ap (plus_multiple p row k) cells_are)) (reducing-take k whole)

    pub reducing-skipped : (new : List ℕ) (pivot : ℕ) → pivot ≡ (get_or basis j d).pivot → get_or row pivot 0 ≡ 0 → new ≡ row → IsReducing p basis old new (j + 1)
    reducing-skipped new pivot pivot_is zeros same_row =
        subst (λ (some : List ℕ). IsReducing p basis old some (j + 1)) (sym same_row) (reducing-skip (ap (λ c. get_or row c 0) (sym pivot_is) ∙ zeros))

  -- substitution

  -- the rows from j on vanish
  abbrev pub VanishFrom : ℕ → List ℕ → Type 0
  VanishFrom j ys = (i : ℕ) (d : PivotView) → j ≤ i → i < length basis → Vanishes p (get_or basis i d).cells ys

  module _ (some : 1 ≤ p) (ys : List ℕ) (long : length ys ≡ n + 1) (j : ℕ) (e : PivotView) (inside : j < length basis) (k : ℕ) (whole : dot (get_or basis j e).cells ys % p + k ≡ p) where
    abbrev c : ℕ
    c = (get_or basis j e).pivot

    abbrev raised : List ℕ
    raised = set ys c ((get_or ys c 0 + 1 * k) % p)

    raise : (row : List ℕ) → dot row raised % p ≡ (dot row ys + get_or row c 0 * (1 * k)) % p
    raise row = dot-raise p row ys c (1 * k) (omega (arith, (echelon j e inside).pivot_below, long))

    pub substituted-more : VanishFrom (j + 1) ys → VanishFrom j raised
    substituted-more vanish i d from within = by (cases_eq i j)
      where
        own : dot (get_or basis j d).cells raised % p ≡ 0
        own =
            let b = get_or basis j d in
            let same_row : b ≡ get_or basis j e = get_or_default basis j d e inside in
            raise b.cells ∙ (ap (λ s. (dot b.cells ys + s) % p) (by_one (get_or b.cells c 0) k (ap (λ (f : PivotView). get_or b.cells f.pivot 0) (sym same_row) ∙ (echelon j d inside).one))
            ∙ fills p (dot b.cells ys) k (ap (λ (f : PivotView). dot f.cells ys % p + k) same_row ∙ whole))
          where
            by_one : (a k : ℕ) → a ≡ 1 → a * (1 * k) ≡ k
            by_one a k one = rw one (grind arith)

            fills : (p s k : ℕ) → s % p + k ≡ p → (s + k) % p ≡ 0
            fills p s k all = sym (mod-add-mod s p k) ∙ (ap (λ t. t % p) all ∙ mod_self p)

        by : (i ≡ j) ⊎ (i ≢ j) → Vanishes p (get_or basis i d).cells raised
        by (inl same) = subst (λ (m : ℕ). dot (get_or basis m d).cells raised % p ≡ 0) (sym same) own
        by (inr differs) =
            let before : j < i = omega (arith, from, differs) in
            let b = get_or basis i d in
            raise b.cells ∙ (ap (λ s. (dot b.cells ys + s) % p) (nothing (get_or b.cells c 0) k (later_zero j i d e before within)) ∙ (ap (λ s. s % p) (plain (dot b.cells ys)) ∙ vanish i d (omega (arith, before)) within))
          where
            nothing : (a k : ℕ) → a ≡ 0 → a * (1 * k) ≡ 0
            nothing a k zeros = rw zeros (grind arith)

            plain : (s : ℕ) → s + 0 ≡ s
            plain s = omega arith
