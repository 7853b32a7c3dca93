-- A near unanimity operation of four arguments and a Mal'tsev operation make a majority operation.
use Rattle.std.proofs.Common.{◌≡◌, ℕ, ◌+◌, ◌^◌, ◌<◌, ◌≤◌, List, [], ◌∷◌, length, map, get_or, All, Contains, Option, Some, None, Bool, true, false, refl, sym, ap, ◌∙◌, subst, arith}
use Rattle.std.specs.Prelude.{◌==◌, count_by, IsNone, IsSome, option_map}
use Rattle.std.specs.List.{range_with_len}
use Rattle.std.proofs.lemmas.Bool.{true≢false}
use Rattle.std.proofs.lemmas.Bool.Decides.{Decides-eqb}
use Rattle.std.proofs.lemmas.List.Elements.{All-nil, All-cons, All-contains, All-from_get_or}
use Rattle.std.proofs.lemmas.List.FromFn.{get_or-map-range_with_len, length-map-range_with_len, fill_by_all}
use Rattle.pol_base.specs.Tuples.{IsTuple, cell_of, digits_of}
use Rattle.pol_base.specs.Least.{AnswersLeast}
use Rattle.pol_base.proofs.CellLemmas.{cell_of-IsTuple, digits_of-IsTuple, digits_of-cell_of-IsTuple}
use Rattle.pol_relation.specs.Relations.{RelationView, LanguageView, IsLanguage}
use Rattle.pol_optable.specs.Operations.{Operation, IsOperation, Preserves, operation_of, value_at, column, image}
use Rattle.pol_optable.specs.Identities.{IsNearUnanimity, IsMaltsev}
use Rattle.pol_optable.specs.ClassLines.{IsTable}
use Rattle.pol_identity.proofs.MaltsevLemmas.{three}

-- ---- operations by their values

-- the cells of the operation of K arguments with these values
abbrev cells_by : (d K : ℕ) → (List ℕ → ℕ) → List ℕ
cells_by d K value = map (λ cell. value (digits_of d K cell)) (range_with_len 0 (d ^ K))

module _ (d K : ℕ) (value : List ℕ → ℕ) where
  -- its value at arguments of the domain
  value_by : (arguments : List ℕ) → IsTuple d K arguments → value_at (operation_of d K (cells_by d K value)) arguments ≡ value arguments
  value_by arguments tuple =
      let cell = cell_of d arguments in
      get_or-map-range_with_len (λ c. value (digits_of d K c)) 0 (d ^ K) cell cell 0 (cell_of-IsTuple d K arguments tuple) (omega arith)
      ∙ ap value (digits_of-cell_of-IsTuple d K arguments tuple)

  -- it is one where these values are values of the domain
  operation_by :
      1 ≤ d
      → 1 ≤ K
      → ((arguments : List ℕ) → IsTuple d K arguments → value arguments < d)
      → IsOperation (operation_of d K (cells_by d K value))
  operation_by some some_arguments below = record {
    some_arguments = some_arguments;
    all_cells = all;
    below = All-from_get_or (λ v. v < d) (cells_by d K value) 0 (λ cell inside.
        let known : cell < d ^ K = omega (arith, inside, all) in
        let here = get_or-map-range_with_len (λ c. value (digits_of d K c)) 0 (d ^ K) cell cell 0 known (omega arith) in
        subst (λ v. v < d) (sym here) (below (digits_of d K cell) (digits_of-IsTuple d K cell some known)));
  }
    where
      all : length (cells_by d K value) ≡ d ^ K
      all = length-map-range_with_len (λ c. value (digits_of d K c)) 0 (d ^ K)

-- the value of an operation is one of its domain
value_below : (f : Operation) → IsOperation f → (arguments : List ℕ) → IsTuple f.domain f.arity arguments → value_at f arguments < f.domain
value_below f is arguments tuple =
    is.below (cell_of f.domain arguments) 0 (rw is.all_cells (cell_of-IsTuple f.domain f.arity arguments tuple))

-- ---- four arguments

four : (d w x y z : ℕ) → w < d → x < d → y < d → z < d → IsTuple d 4 (w ∷ x ∷ y ∷ z ∷ [])
four d w x y z w_below x_below y_below z_below =
    let Below : ℕ → Type 0 = λ v. v < d in
    record {
      long = refl;
      below = All-cons Below w (x ∷ y ∷ z ∷ []) w_below (three d x y z x_below y_below z_below).below;
    }

-- three of the four arguments are x
same_value : (x : ℕ) → (x == x) ≡ true
same_value x = (Decides-eqb x x).1 refl

all_but_first : (x y : ℕ) → 4 ≤ count_by (λ z. z == x) (y ∷ x ∷ x ∷ x ∷ []) + 1
all_but_first x y = rw (same_value x) (grind arith)

all_but_second : (x y : ℕ) → 4 ≤ count_by (λ z. z == x) (x ∷ y ∷ x ∷ x ∷ []) + 1
all_but_second x y = rw (same_value x) (grind arith)

all_but_third : (x y : ℕ) → 4 ≤ count_by (λ z. z == x) (x ∷ x ∷ y ∷ x ∷ []) + 1
all_but_third x y = rw (same_value x) (grind arith)

all_but_fourth : (x y : ℕ) → 4 ≤ count_by (λ z. z == x) (x ∷ x ∷ x ∷ y ∷ []) + 1
all_but_fourth x y = rw (same_value x) (grind arith)

-- which two of three arguments are x
data TwoOfThree (x a b c : ℕ) : Type 0 where
  first_two : a ≡ x → b ≡ x → TwoOfThree x a b c
  outer_two : a ≡ x → c ≡ x → TwoOfThree x a b c
  last_two : b ≡ x → c ≡ x → TwoOfThree x a b c

two_of_three : (x a b c : ℕ) → 3 ≤ count_by (λ y. y == x) (a ∷ b ∷ c ∷ []) + 1 → TwoOfThree x a b c
two_of_three x a b c most = by (a == x) (b == x) (c == x) refl refl refl
  where
    by : (p q r : Bool) → (a == x) ≡ p → (b == x) ≡ q → (c == x) ≡ r → TwoOfThree x a b c
    by true true r a_is b_is c_is = first_two ((Decides-eqb a x).0 a_is) ((Decides-eqb b x).0 b_is)
    by true false true a_is b_is c_is = outer_two ((Decides-eqb a x).0 a_is) ((Decides-eqb c x).0 c_is)
    by false true true a_is b_is c_is = last_two ((Decides-eqb b x).0 b_is) ((Decides-eqb c x).0 c_is)
    by true false false a_is b_is c_is = absurd (omega (arith, rw (a_is, b_is, c_is) at most))
    by false true false a_is b_is c_is = absurd (omega (arith, rw (a_is, b_is, c_is) at most))
    by false false true a_is b_is c_is = absurd (omega (arith, rw (a_is, b_is, c_is) at most))
    by false false false a_is b_is c_is = absurd (omega (arith, rw (a_is, b_is, c_is) at most))

-- ---- the majority operation

module _ (d : ℕ) (near maltsev : List ℕ) where
  abbrev f : Operation
  f = operation_of d 4 near

  abbrev p : Operation
  p = operation_of d 3 maltsev

  -- p(f(x, x, y, z), f(x, x, z, z), f(x, y, z, z))
  abbrev composed : ℕ → ℕ → ℕ → ℕ
  composed x y z =
      value_at p (value_at f (x ∷ x ∷ y ∷ z ∷ []) ∷ value_at f (x ∷ x ∷ z ∷ z ∷ []) ∷ value_at f (x ∷ y ∷ z ∷ z ∷ []) ∷ [])

  abbrev composed_at : List ℕ → ℕ
  composed_at arguments = composed (get_or arguments 0 0) (get_or arguments 1 0) (get_or arguments 2 0)

  -- the cells of that operation
  abbrev pub composed_cells : List ℕ
  composed_cells = cells_by d 3 composed_at

  abbrev m : Operation
  m = operation_of d 3 composed_cells

  module _ (f_is : IsOperation f) where
    f_below : (w x y z : ℕ) → w < d → x < d → y < d → z < d → value_at f (w ∷ x ∷ y ∷ z ∷ []) < d
    f_below w x y z w_below x_below y_below z_below =
        value_below f f_is (w ∷ x ∷ y ∷ z ∷ []) (four d w x y z w_below x_below y_below z_below)

    composed_below : IsOperation p → (x y z : ℕ) → x < d → y < d → z < d → composed x y z < d
    composed_below p_is x y z x_below y_below z_below =
        let a = value_at f (x ∷ x ∷ y ∷ z ∷ []) in
        let b = value_at f (x ∷ x ∷ z ∷ z ∷ []) in
        let c = value_at f (x ∷ y ∷ z ∷ z ∷ []) in
        value_below p p_is (a ∷ b ∷ c ∷ [])
        (three d a b c (f_below x x y z x_below x_below y_below z_below) (f_below x x z z x_below x_below z_below z_below)
        (f_below x y z z x_below y_below z_below z_below))

    composed_is : 1 ≤ d → IsOperation p → IsOperation m
    composed_is some p_is = operation_by d 3 composed_at some (omega arith) below
      where
        below : (arguments : List ℕ) → IsTuple d 3 arguments → composed_at arguments < d
        below arguments tuple =
            composed_below p_is (get_or arguments 0 0) (get_or arguments 1 0) (get_or arguments 2 0)
            (tuple.below 0 0 (omega (arith, tuple.long)))
            (tuple.below 1 0 (omega (arith, tuple.long)))
            (tuple.below 2 0 (omega (arith, tuple.long)))

    -- ---- its identities

    module _ (f_near : IsNearUnanimity f) (p_maltsev : IsMaltsev p) where
      f_first : (x y : ℕ) → x < d → y < d → value_at f (y ∷ x ∷ x ∷ x ∷ []) ≡ x
      f_first x y x_below y_below =
          f_near.most (y ∷ x ∷ x ∷ x ∷ []) x (four d y x x x y_below x_below x_below x_below) x_below (all_but_first x y)

      f_second : (x y : ℕ) → x < d → y < d → value_at f (x ∷ y ∷ x ∷ x ∷ []) ≡ x
      f_second x y x_below y_below =
          f_near.most (x ∷ y ∷ x ∷ x ∷ []) x (four d x y x x x_below y_below x_below x_below) x_below (all_but_second x y)

      f_third : (x y : ℕ) → x < d → y < d → value_at f (x ∷ x ∷ y ∷ x ∷ []) ≡ x
      f_third x y x_below y_below =
          f_near.most (x ∷ x ∷ y ∷ x ∷ []) x (four d x x y x x_below x_below y_below x_below) x_below (all_but_third x y)

      f_fourth : (x y : ℕ) → x < d → y < d → value_at f (x ∷ x ∷ x ∷ y ∷ []) ≡ x
      f_fourth x y x_below y_below =
          f_near.most (x ∷ x ∷ x ∷ y ∷ []) x (four d x x x y x_below x_below x_below y_below) x_below (all_but_fourth x y)

      -- p(x, f(x, x, y, y), f(x, x, y, y)) = x
      m_last : (x y : ℕ) → x < d → y < d → composed x x y ≡ x
      m_last x y x_below y_below =
          let b = value_at f (x ∷ x ∷ y ∷ y ∷ []) in
          ap (λ v. value_at p (v ∷ b ∷ b ∷ [])) (f_fourth x y x_below y_below)
          ∙ p_maltsev.right x b x_below (f_below x x y y x_below x_below y_below y_below)

      -- p(x, x, x) = x
      m_middle : (x y : ℕ) → x < d → y < d → composed x y x ≡ x
      m_middle x y x_below y_below =
          let b = value_at f (x ∷ x ∷ x ∷ x ∷ []) in
          let c = value_at f (x ∷ y ∷ x ∷ x ∷ []) in
          ap (λ v. value_at p (v ∷ b ∷ c ∷ [])) (f_third x y x_below y_below)
          ∙ (ap (λ v. value_at p (x ∷ v ∷ c ∷ [])) (f_first x x x_below x_below)
          ∙ (ap (λ v. value_at p (x ∷ x ∷ v ∷ [])) (f_second x y x_below y_below)
          ∙ p_maltsev.right x x x_below x_below))

      -- p(f(y, y, x, x), f(y, y, x, x), x) = x
      m_first : (x y : ℕ) → x < d → y < d → composed y x x ≡ x
      m_first x y x_below y_below =
          let a = value_at f (y ∷ y ∷ x ∷ x ∷ []) in
          ap (λ v. value_at p (a ∷ a ∷ v ∷ [])) (f_first x y x_below y_below)
          ∙ p_maltsev.left x a x_below (f_below y y x x y_below y_below x_below x_below)

      composed_most :
          (a b c x : ℕ)
          → a < d
          → b < d
          → c < d
          → TwoOfThree x a b c
          → composed a b c ≡ x
      composed_most a b c x a_below b_below c_below (first_two a_is b_is) =
          subst (λ w. composed a w c ≡ x) (sym b_is)
          (subst (λ v. composed v x c ≡ x) (sym a_is) (m_last x c (subst (λ v. v < d) a_is a_below) c_below))
      composed_most a b c x a_below b_below c_below (outer_two a_is c_is) =
          subst (λ w. composed a b w ≡ x) (sym c_is)
          (subst (λ v. composed v b x ≡ x) (sym a_is) (m_middle x b (subst (λ v. v < d) a_is a_below) b_below))
      composed_most a b c x a_below b_below c_below (last_two b_is c_is) =
          subst (λ w. composed a b w ≡ x) (sym c_is)
          (subst (λ v. composed a v x ≡ x) (sym b_is) (m_first x a (subst (λ v. v < d) b_is b_below) a_below))

      most_at : (arguments : List ℕ) (x : ℕ) → IsTuple d 3 arguments → 3 ≤ count_by (λ y. y == x) arguments + 1 → composed_at arguments ≡ x
      most_at [] x tuple most = absurd (omega (arith, tuple.long))
      most_at (a ∷ []) x tuple most = absurd (omega (arith, tuple.long))
      most_at (a ∷ b ∷ []) x tuple most = absurd (omega (arith, tuple.long))
      most_at (a ∷ b ∷ c ∷ []) x tuple most =
          composed_most a b c x
          (tuple.below 0 0 (omega arith))
          (tuple.below 1 0 (omega arith))
          (tuple.below 2 0 (omega arith))
          (two_of_three x a b c most)
      most_at (a ∷ b ∷ c ∷ e ∷ rest) x tuple most = absurd (omega (arith, tuple.long))

      composed_near : IsNearUnanimity m
      composed_near = record {
        most = λ arguments x tuple below most.
            value_by d 3 composed_at arguments tuple ∙ most_at arguments x tuple most;
      }

  -- ---- the relations that it preserves

  module _ (r : RelationView) (same : r.domain ≡ d) (tuples : All (IsTuple r.domain r.arity) r.rows) where
    abbrev n : ℕ
    n = r.arity

    row_below : (row : List ℕ) → Contains r.rows row → (place : ℕ) → place < n → get_or row place 0 < d
    row_below row member place here =
        let t = All-contains (IsTuple r.domain n) r.rows row tuples member in
        subst (λ e. get_or row place 0 < e) same (t.below place 0 (omega (arith, here, t.long)))

    module _ (f_preserves : Preserves f r) (p_preserves : Preserves p r) where
      f_row :
          (s t u v : List ℕ)
          → Contains r.rows s
          → Contains r.rows t
          → Contains r.rows u
          → Contains r.rows v
          → Contains r.rows (image f n (s ∷ t ∷ u ∷ v ∷ []))
      f_row s t u v s_in t_in u_in v_in =
          let Row : List ℕ → Type 0 = Contains r.rows in
          f_preserves (s ∷ t ∷ u ∷ v ∷ []) refl
          (All-cons Row s (t ∷ u ∷ v ∷ []) s_in (All-cons Row t (u ∷ v ∷ []) t_in (All-cons Row u (v ∷ []) u_in (All-cons Row v [] v_in (All-nil Row)))))

      p_row : (s t u : List ℕ) → Contains r.rows s → Contains r.rows t → Contains r.rows u → Contains r.rows (image p n (s ∷ t ∷ u ∷ []))
      p_row s t u s_in t_in u_in =
          let Row : List ℕ → Type 0 = Contains r.rows in
          p_preserves (s ∷ t ∷ u ∷ []) refl
          (All-cons Row s (t ∷ u ∷ []) s_in (All-cons Row t (u ∷ []) t_in (All-cons Row u [] u_in (All-nil Row))))

      -- its image of three rows is made by the two operations
      composed_image :
          (s t u : List ℕ)
          → Contains r.rows s
          → Contains r.rows t
          → Contains r.rows u
          → image p n (image f n (s ∷ s ∷ t ∷ u ∷ []) ∷ image f n (s ∷ s ∷ u ∷ u ∷ []) ∷ image f n (s ∷ t ∷ u ∷ u ∷ []) ∷ [])
          ≡ image m n (s ∷ t ∷ u ∷ [])
      composed_image s t u s_in t_in u_in =
          fill_by_all (λ place. value_at m (column (s ∷ t ∷ u ∷ []) place)) (image p n parts) n 0
          (length-map-range_with_len (λ place. value_at p (column parts place)) 0 n) at
        where
          parts : List (List ℕ)
          parts = image f n (s ∷ s ∷ t ∷ u ∷ []) ∷ image f n (s ∷ s ∷ u ∷ u ∷ []) ∷ image f n (s ∷ t ∷ u ∷ u ∷ []) ∷ []

          part_at : (rows : List (List ℕ)) (place : ℕ) → place < n → get_or (image f n rows) place 0 ≡ value_at f (column rows place)
          part_at rows place here =
              get_or-map-range_with_len (λ j. value_at f (column rows j)) 0 n place place 0 here (omega arith)

          at : (place : ℕ) → place < n → get_or (image p n parts) place 0 ≡ value_at m (column (s ∷ t ∷ u ∷ []) place)
          at place here =
              let x = get_or s place 0 in
              let y = get_or t place 0 in
              let z = get_or u place 0 in
              let one = part_at (s ∷ s ∷ t ∷ u ∷ []) place here in
              let two = part_at (s ∷ s ∷ u ∷ u ∷ []) place here in
              let other = part_at (s ∷ t ∷ u ∷ u ∷ []) place here in
              let tuple = three d x y z (row_below s s_in place here) (row_below t t_in place here) (row_below u u_in place here) in
              get_or-map-range_with_len (λ j. value_at p (column parts j)) 0 n place place 0 here (omega arith)
              ∙ (ap (λ a. value_at p (a ∷ get_or (image f n (s ∷ s ∷ u ∷ u ∷ [])) place 0 ∷ get_or (image f n (s ∷ t ∷ u ∷ u ∷ [])) place 0 ∷ [])) one
              ∙ (ap (λ b. value_at p (value_at f (x ∷ x ∷ y ∷ z ∷ []) ∷ b ∷ get_or (image f n (s ∷ t ∷ u ∷ u ∷ [])) place 0 ∷ [])) two
              ∙ (ap (λ c. value_at p (value_at f (x ∷ x ∷ y ∷ z ∷ []) ∷ value_at f (x ∷ x ∷ z ∷ z ∷ []) ∷ c ∷ [])) other
              ∙ sym (value_by d 3 composed_at (x ∷ y ∷ z ∷ []) tuple))))

      composed_preserves : Preserves m r
      composed_preserves [] long members = absurd (omega (arith, long))
      composed_preserves (s ∷ []) long members = absurd (omega (arith, long))
      composed_preserves (s ∷ t ∷ []) long members = absurd (omega (arith, long))
      composed_preserves (s ∷ t ∷ u ∷ []) long members =
          let s_in = members 0 s (omega arith) in
          let t_in = members 1 t (omega arith) in
          let u_in = members 2 u (omega arith) in
          let made = p_row (image f n (s ∷ s ∷ t ∷ u ∷ [])) (image f n (s ∷ s ∷ u ∷ u ∷ [])) (image f n (s ∷ t ∷ u ∷ u ∷ []))
          (f_row s s t u s_in s_in t_in u_in) (f_row s s u u s_in s_in u_in u_in) (f_row s t u u s_in t_in u_in u_in) in
          subst (λ row. Contains r.rows row) (composed_image s t u s_in t_in u_in) made
      composed_preserves (s ∷ t ∷ u ∷ v ∷ rest) long members = absurd (omega (arith, long))

-- a table of near unanimity of four arguments and a Mal'tsev table make a majority table
pub majority_of :
    (lang : LanguageView) (near maltsev : List ℕ)
    → IsLanguage lang
    → IsTable IsNearUnanimity 4 lang near
    → IsTable IsMaltsev 3 lang maltsev
    → IsTable IsNearUnanimity 3 lang (composed_cells lang.domain near maltsev)
majority_of lang near maltsev is near_table maltsev_table = record {
  is_operation = composed_is lang.domain near maltsev near_table.is_operation is.domain_is.some maltsev_table.is_operation;
  satisfies = composed_near lang.domain near maltsev near_table.is_operation near_table.satisfies maltsev_table.satisfies;
  preserves = λ k none inside.
      let over = is.relations_are k none inside in
      composed_preserves lang.domain near maltsev (get_or lang.relations k none).relation over.same_domain over.is_relation.tuples
      (near_table.preserves k none inside) (maltsev_table.preserves k none inside);
}

-- so beside a Mal'tsev table there is no table of near unanimity of four arguments where there is none of majority
pub no_near_unanimity :
    (lang : LanguageView) (majority maltsev : Option Operation)
    → IsLanguage lang
    → AnswersLeast (IsTable IsNearUnanimity 3 lang) (option_map (λ t. t.cells) majority)
    → AnswersLeast (IsTable IsMaltsev 3 lang) (option_map (λ t. t.cells) maltsev)
    → IsNone majority
    → IsSome maltsev
    → (cells : List ℕ)
    → ¬ IsTable IsNearUnanimity 4 lang cells
no_near_unanimity lang None None is none found absent held cells table = true≢false (sym held)
no_near_unanimity lang None (Some maltsev) is none found absent held cells table =
    none (composed_cells lang.domain cells maltsev.cells) (majority_of lang cells maltsev.cells is table found.holds)
no_near_unanimity lang (Some majority) maltsev is found one absent held cells table = true≢false absent
