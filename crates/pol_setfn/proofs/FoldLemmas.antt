-- A semilattice operation folded over values: one fold for the same members, and it preserves what the operation preserves.
use Rattle.std.proofs.Common.{◌≡◌, ℕ, ◌^◌, ◌<◌, ◌≤◌, inl, inr, List, [], ◌∷◌, length, map, get_or, All, Contains, refl, sym, ap, ◌∙◌, subst, arith}
use Rattle.std.specs.Prelude.{IsBitSet}
use Rattle.std.proofs.lemmas.List.{length-map, get_or-map, ext_get_or}
use Rattle.std.proofs.lemmas.List.Elements.{All-nil, All-cons, All-head, All-tail, All-contains, Contains-get_or}
use Rattle.std.proofs.lemmas.List.FromFn.{get_or-map-range_with_len}
use Rattle.pol_base.specs.Tuples.{IsTuple, cell_of}
use Rattle.pol_base.specs.Masks.{mask_of}
use Rattle.pol_base.proofs.CellLemmas.{cell_of-below}
use Rattle.pol_base.proofs.MemberLemmas.{Contains-cons_cases, Contains-nil}
use Rattle.pol_relation.specs.Relations.{RelationView}
use Rattle.pol_optable.specs.Operations.{Operation, value_at, column, image, Preserves}
use Rattle.pol_optable.specs.SetFunctions.{SetFunctionView, value_of_set, projection, PreservesSets}
use Rattle.pol_optable.specs.Tables.{IsOpTable}
use Rattle.pol_optable.specs.Identities.{IsSemilattice}
use Rattle.pol_optable.proofs.SetLemmas.{set_mask, mask_set}
use Rattle.pol_optable.proofs.ProjectionLemmas.{length-projection, projection_at, column_below}
use Rattle.pol_setfn.specs.Folds.{fold_of, IsFold}

module _ (f : Operation) (table : IsOpTable 2 f) (s : IsSemilattice f) where
  abbrev Below : ℕ → Type 0
  Below v = v < f.domain

  abbrev meet : ℕ → ℕ → ℕ
  meet a b = value_at f (a ∷ b ∷ [])

  meet_below : (a b : ℕ) → Below a → Below b → Below (meet a b)
  meet_below a b a_below b_below =
      let both : All (λ v. v < f.domain) (a ∷ b ∷ []) = All-cons (λ v. v < f.domain) a (b ∷ []) a_below (All-cons (λ v. v < f.domain) b [] b_below (All-nil (λ v. v < f.domain))) in
      let long : length f.cells ≡ f.domain ^ 2 = subst (λ k. length f.cells ≡ f.domain ^ k) table.arity_is table.is_operation.all_cells in
      table.is_operation.below (cell_of f.domain (a ∷ b ∷ [])) 0 (rw long (cell_of-below f.domain (a ∷ b ∷ []) both))

  pub fold_below : (values : List ℕ) → 1 ≤ length values → All (λ v. v < f.domain) values → Below (fold_of f values)
  fold_below [] some below = absurd (omega (arith, some))
  fold_below (v ∷ []) some below = All-head (λ v. v < f.domain) v [] below
  fold_below (v ∷ w ∷ values) some below =
      meet_below v (fold_of f (w ∷ values)) (All-head (λ v. v < f.domain) v (w ∷ values) below) (fold_below (w ∷ values) (omega arith) (All-tail (λ v. v < f.domain) v (w ∷ values) below))

  -- the fold is not above a member: b is not above a where meet a b = b
  fold_lower : (values : List ℕ) → All (λ v. v < f.domain) values → (v : ℕ) → Contains values v → meet v (fold_of f values) ≡ fold_of f values
  fold_lower [] below v member = absurd (Contains-nil v member)
  fold_lower (w ∷ []) below v member =
      elim (Contains-cons_cases w v [] member) [
        | inl same ↦ subst (λ x. meet x w ≡ w) same (s.idempotent w (All-head (λ v. v < f.domain) w [] below))
        | inr there ↦ absurd (Contains-nil v there)
      ]
  fold_lower (w ∷ x ∷ values) below v member =
      let w_below : w < f.domain = All-head (λ v. v < f.domain) w (x ∷ values) below in
      let rest : All (λ v. v < f.domain) (x ∷ values) = All-tail (λ v. v < f.domain) w (x ∷ values) below in
      let folded = fold_of f (x ∷ values) in
      let folded_below : folded < f.domain = fold_below (x ∷ values) (omega arith) rest in
      let behind = fold_lower (x ∷ values) rest v in
      let v_below : v < f.domain = All-contains (λ v. v < f.domain) (w ∷ x ∷ values) v below member in
      elim (Contains-cons_cases w v (x ∷ values) member) [
        | inl same ↦ subst (λ y. meet y (meet w folded) ≡ meet w folded) same (s.associative w w folded w_below w_below folded_below ∙ ap (λ y. meet y folded) (s.idempotent w w_below))
        | inr there ↦ s.associative v w folded v_below w_below folded_below
            ∙ (ap (λ y. meet y folded) (s.commutative v w v_below w_below)
            ∙ (sym (s.associative w v folded w_below v_below folded_below)
            ∙ ap (λ y. meet w y) (behind there)))
      ]

  -- and not below what is not above any member
  fold_greatest : (values : List ℕ) → 1 ≤ length values → All (λ v. v < f.domain) values → (z : ℕ) → z < f.domain
      → All (λ v. meet v z ≡ z) values → meet (fold_of f values) z ≡ z
  fold_greatest [] some below z z_below lower = absurd (omega (arith, some))
  fold_greatest (w ∷ []) some below z z_below lower = All-head (λ v. meet v z ≡ z) w [] lower
  fold_greatest (w ∷ x ∷ values) some below z z_below lower =
      let w_below : w < f.domain = All-head (λ v. v < f.domain) w (x ∷ values) below in
      let rest : All (λ v. v < f.domain) (x ∷ values) = All-tail (λ v. v < f.domain) w (x ∷ values) below in
      let behind = fold_greatest (x ∷ values) (omega arith) rest z z_below (All-tail (λ v. meet v z ≡ z) w (x ∷ values) lower) in
      sym (s.associative w (fold_of f (x ∷ values)) z w_below (fold_below (x ∷ values) (omega arith) rest) z_below)
      ∙ (ap (λ y. meet w y) behind ∙ All-head (λ v. meet v z ≡ z) w (x ∷ values) lower)

  below_other : (xs ys : List ℕ) → 1 ≤ length xs → 1 ≤ length ys → All (λ v. v < f.domain) xs → All (λ v. v < f.domain) ys
      → All (Contains ys) xs → meet (fold_of f xs) (fold_of f ys) ≡ fold_of f ys
  below_other xs ys xs_some ys_some xs_below ys_below within =
      fold_greatest xs xs_some xs_below (fold_of f ys) (fold_below ys ys_some ys_below) (λ k e inside. fold_lower ys ys_below (get_or xs k e) (within k e inside))

  -- lists with the same members have one fold
  fold_same : (xs ys : List ℕ) → 1 ≤ length xs → 1 ≤ length ys → All (λ v. v < f.domain) xs → All (λ v. v < f.domain) ys
      → All (Contains ys) xs → All (Contains xs) ys → fold_of f xs ≡ fold_of f ys
  fold_same xs ys xs_some ys_some xs_below ys_below within back =
      sym (below_other ys xs ys_some xs_some ys_below xs_below back)
      ∙ (s.commutative (fold_of f ys) (fold_of f xs) (fold_below ys ys_some ys_below) (fold_below xs xs_some xs_below)
      ∙ below_other xs ys xs_some ys_some xs_below ys_below within)

  -- so a mask has one fold
  pub fold_of_mask : (xs ys : List ℕ) → 1 ≤ length xs → 1 ≤ length ys → All (λ v. v < f.domain) xs → All (λ v. v < f.domain) ys
      → mask_of xs ≡ mask_of ys → fold_of f xs ≡ fold_of f ys
  fold_of_mask xs ys xs_some ys_some xs_below ys_below same =
      fold_same xs ys xs_some ys_some xs_below ys_below (members xs ys same) (members ys xs (sym same))
    where
      members : (ps qs : List ℕ) → mask_of ps ≡ mask_of qs → All (Contains qs) ps
      members ps qs equal = λ k e inside.
          mask_set qs (get_or ps k e) (subst (λ mask. IsBitSet mask (get_or ps k e)) equal (set_mask ps (get_or ps k e) (Contains-get_or ps k e inside)))

-- ---- rows

-- the rows folded, place by place
abbrev fold_rows : Operation → ℕ → List (List ℕ) → List ℕ
fold_rows f n [] = []
fold_rows f n (row ∷ []) = row
fold_rows f n (row ∷ next ∷ rows) = image f n (row ∷ fold_rows f n (next ∷ rows) ∷ [])

module _ (f : Operation) (r : RelationView) (two : f.arity ≡ 2) (preserves : Preserves f r) (tuples : All (IsTuple r.domain r.arity) r.rows) where
  folded_member : (rows : List (List ℕ)) → 1 ≤ length rows → All (Contains r.rows) rows → Contains r.rows (fold_rows f r.arity rows)
  folded_member [] some members = absurd (omega (arith, some))
  folded_member (row ∷ []) some members = All-head (Contains r.rows) row [] members
  folded_member (row ∷ next ∷ rows) some members =
      let rest = folded_member (next ∷ rows) (omega arith) (All-tail (Contains r.rows) row (next ∷ rows) members) in
      let folded = fold_rows f r.arity (next ∷ rows) in
      preserves (row ∷ folded ∷ []) (sym two) (All-cons (Contains r.rows) row (folded ∷ []) (All-head (Contains r.rows) row (next ∷ rows) members) (All-cons (Contains r.rows) folded [] rest (All-nil (Contains r.rows))))

  folded_at : (rows : List (List ℕ)) → 1 ≤ length rows → (place : ℕ) → place < r.arity → get_or (fold_rows f r.arity rows) place 0 ≡ fold_of f (column rows place)
  folded_at [] some place here = absurd (omega (arith, some))
  folded_at (row ∷ []) some place here = refl
  folded_at (row ∷ next ∷ rows) some place here =
      let rest = folded_at (next ∷ rows) (omega arith) place here in
      get_or-map-range_with_len (λ at. value_at f (column (row ∷ fold_rows f r.arity (next ∷ rows) ∷ []) at)) 0 r.arity place place 0 here (omega arith)
      ∙ ap (λ v. value_at f (get_or row place 0 ∷ v ∷ [])) rest

  value_below : (rows : List (List ℕ)) → All (Contains r.rows) rows → f.domain ≡ r.domain → (place : ℕ) → place < r.arity → All (λ row. get_or row place 0 < f.domain) rows
  value_below rows members same place here i none within =
      let t : IsTuple r.domain r.arity (get_or rows i none) = All-contains (IsTuple r.domain r.arity) r.rows (get_or rows i none) tuples (members i none within) in
      subst (λ d. get_or (get_or rows i none) place 0 < d) (sym same) (t.below place 0 (omega (arith, here, t.long)))

  -- the fold preserves what the operation preserves
  pub fold_preserves : (g : SetFunctionView) → IsFold f g → f.domain ≡ r.domain → PreservesSets g r
  fold_preserves g fold same rows some members = subst (λ t. Contains r.rows t) (ext_get_or 0 folded image_of (long ∙ sym long_image) at) member
    where
      folded : List ℕ
      folded = fold_rows f r.arity rows

      image_of : List ℕ
      image_of = map (λ mask. value_of_set g mask) (projection r.arity rows)

      member : Contains r.rows folded
      member = folded_member rows some members

      long : length folded ≡ r.arity
      long = (All-contains (IsTuple r.domain r.arity) r.rows folded tuples member).long

      long_image : length image_of ≡ r.arity
      long_image = length-map (projection r.arity rows) (λ mask. value_of_set g mask) ∙ length-projection r.arity rows

      at : (place : ℕ) → place < length folded → get_or folded place 0 ≡ get_or image_of place 0
      at place inside =
          let here : place < r.arity = omega (arith, inside, long) in
          let values = column_below f.domain place rows (value_below rows members same place here) in
          let filled : 1 ≤ length (column rows place) = omega (arith, some, length-map rows (λ row. get_or row place 0)) in
          let read = get_or-map (λ mask. value_of_set g mask) (projection r.arity rows) place 0 0 (omega (arith, here, length-projection r.arity rows)) in
          folded_at rows some place here
          ∙ (sym (fold.folds (column rows place) filled values)
          ∙ sym (read ∙ ap (λ mask. value_of_set g mask) (projection_at r.arity rows place here)))
