-- A constant operation and a semilattice operation make set functions that preserve what they preserve.
use Rattle.std.proofs.Common.{◌≡◌, ℕ, ◌+◌, ◌-◌, ◌^◌, ◌<◌, ◌≤◌, inl, inr, List, [], ◌∷◌, length, map, take, filter, replicate, get_or, All, Contains, Option, Some, None, true, false, refl, sym, ap, ◌∙◌, subst, arith, lit≤}
use Rattle.std.specs.Prelude.{◌==◌, IsBitSet, IsNone, option_map}
use Rattle.std.specs.Int.{bit_at}
use Rattle.std.specs.List.{range_with_len}
use Rattle.std.proofs.lemmas.Bool.Decides.{Decides-eqb}
use Rattle.std.proofs.lemmas.Bool.{true≢false}
use Rattle.std.proofs.lemmas.List.{length-map, get_or-map, get_or-replicate, length-replicate, ext_get_or}
use Rattle.std.proofs.lemmas.List.Elements.{All-contains, All-weaker, All-replicate, filter_passes}
use Rattle.std.proofs.lemmas.List.FromFn.{get_or-map-range_with_len, length-map-range_with_len, get_or-range_with_len, length-range_with_len}
use Rattle.pol_base.specs.Tuples.{IsTuple}
use Rattle.pol_base.specs.Least.{AnswersLeast}
use Rattle.pol_base.specs.Masks.{mask_of}
use Rattle.pol_base.proofs.BitLemmas.{at_set, set_at, set_below}
use Rattle.pol_base.proofs.MemberLemmas.{Contains-nil, in_filter}
use Rattle.pol_relation.specs.Relations.{RelationView, LanguageView, IsLanguage}
use Rattle.pol_optable.specs.Operations.{Operation, Preserves, operation_of, column}
use Rattle.pol_optable.specs.Tables.{IsOpTable}
use Rattle.pol_optable.specs.Identities.{IsConstant, IsSemilattice}
use Rattle.pol_optable.specs.Constants.{HoldsConstant}
use Rattle.pol_optable.specs.SetFunctions.{SetFunctionView, IsSetFunction, PreservesSets, value_of_set, projection, set_image}
use Rattle.pol_optable.specs.ClassLines.{IsTable, IsSetTable}
use Rattle.pol_optable.proofs.ConstantLemmas.{IsTableValue, table_value}
use Rattle.pol_optable.proofs.SetLemmas.{set_mask, mask_set, same_masks}
use Rattle.pol_optable.proofs.ProjectionLemmas.{length-projection, projection_at, column_below, mask_below, mask_some}
use Rattle.pol_setfn.specs.Folds.{fold_of, IsFoldAt}
use Rattle.pol_setfn.specs.Sought.{IsSought}
use Rattle.pol_setfn.proofs.FoldLemmas.{fold_below, fold_of_mask, fold_preserves}
use Rattle.pol_setfn.proofs.FoldingLemmas.{front_function, front_fold}
use Rattle.pol_classify.proofs.SizeLemmas.{few_of_two}

-- any set function is sought where none is to be idempotent
sought : (lang : LanguageView) (cells : List ℕ) → IsSetTable lang cells → IsSought lang false cells
sought lang cells table = record { table = table; idempotent_is = λ yes. absurd (true≢false (sym yes)) }

-- ---- the set function with one value everywhere

module _ (d a : ℕ) where
  abbrev pub constant_sets : List ℕ
  constant_sets = replicate (2 ^ d - 1) a

  abbrev always : SetFunctionView
  always = record { domain = d; cells = constant_sets }

  always_is : a < d → IsSetFunction always
  always_is below = record {
    all_cells = length-replicate (2 ^ d - 1) a;
    below = All-replicate (λ v. v < d) (2 ^ d - 1) a below;
  }

  always_at : (values : List ℕ) → 1 ≤ length values → All (λ v. v < d) values → value_of_set always (mask_of values) ≡ a
  always_at values some below =
      let positive = mask_some values some in
      let small = mask_below d values below in
      get_or-replicate (2 ^ d - 1) (mask_of values - 1) a 0 (omega (arith, positive, small))

  module _ (r : RelationView) (same : r.domain ≡ d) (tuples : All (IsTuple r.domain r.arity) r.rows) (rows : List (List ℕ)) (some : 1 ≤ length rows) (members : All (Contains r.rows) rows) where
    values_below : (place : ℕ) → place < r.arity → All (λ row. get_or row place 0 < d) rows
    values_below place here i none inside =
        let t = All-contains (IsTuple r.domain r.arity) r.rows (get_or rows i none) tuples (members i none inside) in
        subst (λ e. get_or (get_or rows i none) place 0 < e) same (t.below place 0 (omega (arith, here, t.long)))

    always_image : set_image always r.arity rows ≡ replicate r.arity a
    always_image = ext_get_or 0 (set_image always r.arity rows) (replicate r.arity a) (long ∙ sym (length-replicate r.arity a)) at
      where
        long : length (set_image always r.arity rows) ≡ r.arity
        long = length-map (projection r.arity rows) (λ mask. value_of_set always mask) ∙ length-projection r.arity rows

        at : (place : ℕ) → place < length (set_image always r.arity rows) → get_or (set_image always r.arity rows) place 0 ≡ get_or (replicate r.arity a) place 0
        at place inside =
            let here : place < r.arity = omega (arith, inside, long) in
            let filled : 1 ≤ length (column rows place) = omega (arith, some, length-map rows (λ row. get_or row place 0)) in
            get_or-map (λ mask. value_of_set always mask) (projection r.arity rows) place 0 0 (omega (arith, here, length-projection r.arity rows))
            ∙ (ap (λ mask. value_of_set always mask) (projection_at r.arity rows place here)
            ∙ (always_at (column rows place) filled (column_below d place rows (values_below place here))
            ∙ sym (get_or-replicate r.arity place a 0 here)))

    some_row : r.rows ≡ [] → ⊥
    some_row empty =
        let first = get_or rows 0 [] in
        Contains-nil first (subst (λ all. Contains all first) empty (members 0 [] some))

    always_row : HoldsConstant r a → Contains r.rows (set_image always r.arity rows)
    always_row (inl empty) = absurd (some_row empty)
    always_row (inr holds) = subst (λ row. Contains r.rows row) (sym always_image) holds

-- a table of `constant` makes a table of set functions
pub set_of_constant :
    (lang : LanguageView) (cells : List ℕ)
    → IsLanguage lang
    → IsTable IsConstant 1 lang cells
    → IsSetTable lang (constant_sets lang.domain (get_or cells 0 0))
set_of_constant lang cells is table = by (table_value lang cells is table)
  where
    by : IsTableValue lang cells → IsSetTable lang (constant_sets lang.domain (get_or cells 0 0))
    by value = record {
      is_set_function = always_is lang.domain (get_or cells 0 0) value.below;
      preserves = λ k none inside rows some members.
          let over = is.relations_are k none inside in
          always_row lang.domain (get_or cells 0 0) (get_or lang.relations k none).relation over.same_domain over.is_relation.tuples rows some members
          (value.closed k none inside);
    }

-- ---- the values in a mask

abbrev members_of : ℕ → ℕ → List ℕ
members_of d mask = filter (λ v. bit_at mask v == 1) (range_with_len 0 d)

module _ (d mask : ℕ) (small : mask < 2 ^ d) where
  in_members : (v : ℕ) → IsBitSet mask v → Contains (members_of d mask) v
  in_members v set =
      let below = set_below d mask v small set in
      in_filter (λ w. bit_at mask w == 1) (range_with_len 0 d) v
      (v, omega (arith, below, length-range_with_len 0 d), get_or-range_with_len 0 d v v below ∙ omega arith)
      ((Decides-eqb (bit_at mask v) 1).1 (at_set mask v set))

  members_set : All (IsBitSet mask) (members_of d mask)
  members_set =
      All-weaker (λ v. (bit_at mask v == 1) ≡ true) (IsBitSet mask) (λ v one. set_at mask v ((Decides-eqb (bit_at mask v) 1).0 one))
      (members_of d mask) (filter_passes (λ v. bit_at mask v == 1) (range_with_len 0 d))

  members_below : All (λ v. v < d) (members_of d mask)
  members_below = All-weaker (IsBitSet mask) (λ v. v < d) (λ v set. set_below d mask v small set) (members_of d mask) members_set

  mask_members : mask_of (members_of d mask) ≡ mask
  mask_members =
      same_masks (mask_of (members_of d mask)) mask
      (λ v set. All-contains (IsBitSet mask) (members_of d mask) v members_set (mask_set (members_of d mask) v set))
      (λ v set. set_mask (members_of d mask) v (in_members v set))

  members_some : 0 < mask → 1 ≤ length (members_of d mask)
  members_some positive = by (members_of d mask) mask_members
    where
      by : (values : List ℕ) → mask_of values ≡ mask → 1 ≤ length values
      by [] same = absurd (omega (arith, positive, same))
      by (v ∷ values) same = omega arith

-- ---- the set function that folds a semilattice operation

module _ (f : Operation) where
  abbrev count : ℕ
  count = 2 ^ f.domain - 1

  abbrev folds : List ℕ
  folds = map (λ cell. fold_of f (members_of f.domain (cell + 1))) (range_with_len 0 count)

  many : length folds ≡ count
  many = length-map-range_with_len (λ cell. fold_of f (members_of f.domain (cell + 1))) 0 count

  folds_at : (k : ℕ) → k < count → get_or folds k 0 ≡ fold_of f (members_of f.domain (k + 1))
  folds_at k inside =
      get_or-map-range_with_len (λ cell. fold_of f (members_of f.domain (cell + 1))) 0 count k k 0 inside (omega arith)

  mask_small : (k : ℕ) → k < count → k + 1 < 2 ^ f.domain
  mask_small k inside = omega (arith, inside)

  room : count ≤ length folds
  room = omega (arith, many)

  -- its cells
  abbrev pub folded_cells : List ℕ
  folded_cells = take count folds

  abbrev folded : SetFunctionView
  folded = record { domain = f.domain; cells = folded_cells }

  module _ (table : IsOpTable 2 f) (s : IsSemilattice f) where
    folds_below : (k : ℕ) → k < count → get_or folds k 0 < f.domain
    folds_below k inside =
        let small = mask_small k inside in
        subst (λ v. v < f.domain) (sym (folds_at k inside))
        (fold_below f table s (members_of f.domain (k + 1)) (members_some f.domain (k + 1) small (omega arith)) (members_below f.domain (k + 1) small))

    folds_are : (k : ℕ) → k < count → IsFoldAt f (k + 1) (get_or folds k 0)
    folds_are k inside = λ values some below same.
        let small = mask_small k inside in
        folds_at k inside
        ∙ fold_of_mask f table s (members_of f.domain (k + 1)) values (members_some f.domain (k + 1) small (omega arith)) some
        (members_below f.domain (k + 1) small) below (mask_members f.domain (k + 1) small ∙ sym same)

    folded_is : IsSetFunction folded
    folded_is = front_function f f.domain count folds refl refl room folds_below

    folded_preserves : (r : RelationView) → Preserves f r → All (IsTuple r.domain r.arity) r.rows → f.domain ≡ r.domain → PreservesSets folded r
    folded_preserves r preserves tuples same =
        fold_preserves f r table.arity_is preserves tuples folded (front_fold f f.domain count folds refl refl room folds_below folds_are) same

-- a table of `semilattice` makes a table of set functions
pub set_of_semilattice :
    (lang : LanguageView) (cells : List ℕ)
    → IsLanguage lang
    → IsTable IsSemilattice 2 lang cells
    → IsSetTable lang (folded_cells (operation_of lang.domain 2 cells))
set_of_semilattice lang cells is table = record {
  is_set_function = folded_is (operation_of lang.domain 2 cells) small table.satisfies;
  preserves = λ k none inside.
      let over = is.relations_are k none inside in
      folded_preserves (operation_of lang.domain 2 cells) small table.satisfies (get_or lang.relations k none).relation
      (table.preserves k none inside) over.is_relation.tuples (sym over.same_domain);
}
  where
    small : IsOpTable 2 (operation_of lang.domain 2 cells)
    small = record {
      arity_is = refl;
      domain_is = is.domain_is;
      is_operation = table.is_operation;
      few_cells = few_of_two lang is;
      few_arguments = lit≤ tt;
    }

-- so where there is no set function there is no table of `constant`
pub no_constant :
    (lang : LanguageView) (sets : Option SetFunctionView)
    → IsLanguage lang
    → AnswersLeast (IsSought lang false) (option_map (λ g. g.cells) sets)
    → IsNone sets
    → (cells : List ℕ)
    → ¬ IsTable IsConstant 1 lang cells
no_constant lang None is none absent cells table =
    none (constant_sets lang.domain (get_or cells 0 0)) (sought lang (constant_sets lang.domain (get_or cells 0 0)) (set_of_constant lang cells is table))
no_constant lang (Some sets) is found absent cells table = true≢false absent

-- and none of `semilattice`
pub no_semilattice :
    (lang : LanguageView) (sets : Option SetFunctionView)
    → IsLanguage lang
    → AnswersLeast (IsSought lang false) (option_map (λ g. g.cells) sets)
    → IsNone sets
    → (cells : List ℕ)
    → ¬ IsTable IsSemilattice 2 lang cells
no_semilattice lang None is none absent cells table =
    let made = folded_cells (operation_of lang.domain 2 cells) in
    none made (sought lang made (set_of_semilattice lang cells is table))
no_semilattice lang (Some sets) is found absent cells table = true≢false absent
