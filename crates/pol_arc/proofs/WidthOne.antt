-- The values that a set function gives to arc-consistent masks are a solution.
use Rattle.pol_base.specs.Masks.{mask_of}
use Rattle.pol_relation.specs.Relations.{LanguageView, RelationView, IsLanguage, IsRelationOver, no_named, relation_of}
use Rattle.pol_relation.specs.Instances.{InstanceView, ConstraintView, FitsAt, Fits, constraint_of, no_constraint, IsSolution, Meets, read_at}
use Rattle.pol_optable.specs.SetFunctions.{SetFunctionView, IsSetFunction, value_of_set, projection, set_image, PreservesSets, IsSetPolymorphism}
use Rattle.pol_optable.specs.Operations.{column}
use Rattle.pol_base.proofs.BitLemmas.{set_below}
use Rattle.pol_arc.specs.Arcs.{LiesIn, IsSupported, IsArcConsistent, AreMasksOf}
use Rattle.pol_arc.proofs.Sifting.{Decidable, all_below, implied, sift, Sifted}
use Rattle.std.proofs.lemmas.Bool.{cases_eq}
use Rattle.std.proofs.lemmas.List.Elements.{Contains-get_or, All-map}
use Rattle.std.proofs.Common.{refl, ◌≡◌, ◌≢◌, ℕ, ◌-◌, ◌^◌, ◌<◌, ◌≤◌, inl, inr, List, [], length, get_or, All, Contains, sym, ap, ◌∙◌, subst, arith}
use Rattle.std.proofs.lemmas.List.{get_or-map, length-map, ext_get_or, get_or_default}
use Rattle.std.proofs.lemmas.List.FromFn.{get_or-map-range_with_len, length-map-range_with_len}
use Rattle.std.proofs.Math.Nat.{pow-le-pow_right}
use Rattle.std.specs.Prelude.{map, IsBitSet}
use Rattle.pol_optable.proofs.SetLemmas.{some_bit, same_masks, set_or_clear, set_mask, mask_set}

-- a row that reads one value for each repeated variable and lies in the masks
pub record IsOpen (masks scope row : List ℕ) : Type 0 where
  pub one_value : (j k : ℕ) → j < length scope → k < length scope → get_or scope j 0 ≡ get_or scope k 0 → get_or row j 0 ≡ get_or row k 0
  pub lies : LiesIn masks scope row

open_or_not : (masks scope row : List ℕ) → Decidable (IsOpen masks scope row)
open_or_not masks scope row = by one_value lies
  where
    one_value : Decidable ((j : ℕ) → j < length scope → (k : ℕ) → k < length scope → get_or scope j 0 ≡ get_or scope k 0 → get_or row j 0 ≡ get_or row k 0)
    one_value =
        all_below (λ j. (k : ℕ) → k < length scope → get_or scope j 0 ≡ get_or scope k 0 → get_or row j 0 ≡ get_or row k 0)
        (λ j. all_below (λ k. get_or scope j 0 ≡ get_or scope k 0 → get_or row j 0 ≡ get_or row k 0)
        (λ k. implied (get_or scope j 0 ≡ get_or scope k 0) (get_or row j 0 ≡ get_or row k 0) (cases_eq (get_or scope j 0) (get_or scope k 0)) (cases_eq (get_or row j 0) (get_or row k 0))) (length scope)) (length scope)

    lies : Decidable (LiesIn masks scope row)
    lies = all_below (λ j. IsBitSet (get_or masks (get_or scope j 0) 0) (get_or row j 0)) (λ j. set_or_clear (get_or masks (get_or scope j 0) 0) (get_or row j 0)) (length scope)

    by : Decidable ((j : ℕ) → j < length scope → (k : ℕ) → k < length scope → get_or scope j 0 ≡ get_or scope k 0 → get_or row j 0 ≡ get_or row k 0) → Decidable (LiesIn masks scope row) → Decidable (IsOpen masks scope row)
    by (inr fails) second = inr (λ is. fails (λ j inside k within same. is.one_value j k inside within same))
    by (inl one) (inr fails) = inr (λ is. fails is.lies)
    by (inl one) (inl all) = inl (record { one_value = λ j k inside within same. one j inside k within same; lies = all })

-- a member of a column comes from a row
column_row : (rows : List (List ℕ)) (j a : ℕ) → Contains (column rows j) a → (row : List ℕ) × Contains rows row × (get_or row j 0 ≡ a)
column_row rows j a (k, inside, same) =
    let within : k < length rows = omega (arith, length-map rows (λ row. get_or row j 0)) in
    (get_or rows k [], Contains-get_or rows k [] within, sym (get_or-map (λ row. get_or row j 0) rows k [] a within) ∙ same)

row_column : (rows : List (List ℕ)) (j : ℕ) (row : List ℕ) → Contains rows row → Contains (column rows j) (get_or row j 0)
row_column rows j row (k, inside, same) =
    (k, omega (arith, inside, length-map rows (λ row. get_or row j 0)), get_or-map (λ row. get_or row j 0) rows k row (get_or row j 0) inside ∙ ap (λ (some : List ℕ). get_or some j 0) same)

-- each value in the mask of a variable of the scope is supported
abbrev pub AllSupported : (d : ℕ) (rows : List (List ℕ)) (masks scope : List ℕ) → Type 0
AllSupported d rows masks scope = (j a : ℕ) → j < length scope → a < d → IsBitSet (get_or masks (get_or scope j 0) 0) a → IsSupported rows masks scope (get_or scope j 0) a

module _ (d : ℕ) (rows : List (List ℕ)) (masks scope : List ℕ) (below : All (λ m. m < 2 ^ d) masks) (known : All (λ x. x < length masks) scope) (supported : AllSupported d rows masks scope) where
  -- the row that supports a value is open
  support_kept : (s : Sifted (IsOpen masks scope) rows) → (j a : ℕ) → j < length scope → IsBitSet (get_or masks (get_or scope j 0) 0) a → (row : List ℕ) × Contains s.kept row × (get_or row j 0 ≡ a)
  support_kept s j a inside bit =
      let low : a < d = set_below d (get_or masks (get_or scope j 0) 0) a (below (get_or scope j 0) 0 (known j 0 inside)) bit in
      let found : IsSupported rows masks scope (get_or scope j 0) a = supported j a inside low bit in (
        found.row,
        s.whole found.row found.listed (record { one_value = found.supports.one_value; lies = found.supports.lies }),
        found.supports.at_variable j inside refl,
      )

  -- at each place the open rows have the values of the mask
  sets_of_open : (s : Sifted (IsOpen masks scope) rows) → (j : ℕ) → j < length scope → mask_of (column s.kept j) ≡ get_or masks (get_or scope j 0) 0
  sets_of_open s j inside =
      same_masks (mask_of (column s.kept j)) (get_or masks (get_or scope j 0) 0)
      (λ a has. there a (column_row s.kept j a (mask_set (column s.kept j) a has)))
      (λ a has. set_mask (column s.kept j) a (back a (support_kept s j a inside has)))
    where
      there : (a : ℕ) → (row : List ℕ) × Contains s.kept row × (get_or row j 0 ≡ a) → IsBitSet (get_or masks (get_or scope j 0) 0) a
      there a (row, listed, at) = subst (IsBitSet (get_or masks (get_or scope j 0) 0)) at ((s.sound row listed).1.lies j inside)

      back : (a : ℕ) → (row : List ℕ) × Contains s.kept row × (get_or row j 0 ≡ a) → Contains (column s.kept j) a
      back a (row, listed, at) = subst (Contains (column s.kept j)) at (row_column s.kept j row listed)

  -- where the mask of the first place has a value, a row is open
  some_open : (s : Sifted (IsOpen masks scope) rows) → 1 ≤ length scope → d ≤ 5 → All (λ m. m ≢ 0) masks → 1 ≤ length s.kept
  some_open s places few full =
      let x : ℕ = get_or scope 0 0 in
      let top : get_or masks x 0 < 2 ^ d = below x 0 (known 0 0 (omega arith)) in
      let up : 2 ^ d ≤ 2 ^ 128 = pow-le-pow_right {n = 2} (omega arith) {i = d} {j = 128} (omega arith) in
      let has = some_bit (get_or masks x 0) (omega arith) (full x 0 (known 0 0 (omega arith))) in
      from (support_kept s 0 has.bit (omega arith) has.set)
    where
      from : {a : ℕ} → (row : List ℕ) × Contains s.kept row × (get_or row 0 0 ≡ a) → 1 ≤ length s.kept
      from (row, (k, inside, same), at) = omega arith

-- a constraint is met by the values of a set function that preserves its relation
pub width_one_meets : (g : SetFunctionView) (r : RelationView) → PreservesSets g r → (masks scope : List ℕ) → length scope ≡ r.arity → 1 ≤ r.arity → g.domain ≤ 5
    → All (λ x. x < length masks) scope → All (λ m. m < 2 ^ g.domain) masks → All (λ m. m ≢ 0) masks → AllSupported g.domain r.rows masks scope
    → Contains r.rows (read_at (map (value_of_set g) masks) scope)
width_one_meets g r keeps masks scope long places few known below full supported =
    subst (Contains r.rows) same (keeps s.kept some (λ i d inside. (s.sound (get_or s.kept i d) (Contains-get_or s.kept i d inside)).0))
  where
    s : Sifted (IsOpen masks scope) r.rows
    s = sift (IsOpen masks scope) (open_or_not masks scope) r.rows

    some : 1 ≤ length s.kept
    some = some_open g.domain r.rows masks scope below known supported s (omega arith) few full

    n : ℕ
    n = r.arity

    at : (j : ℕ) → j < n → get_or (set_image g n s.kept) j 0 ≡ get_or (read_at (map (value_of_set g) masks) scope) j 0
    at j less =
        let inside : j < length scope = omega arith in
        let many : j < length (projection n s.kept) = omega (arith, less, length-map-range_with_len (λ place. mask_of (column s.kept place)) 0 n) in
        get_or-map (value_of_set g) (projection n s.kept) j 0 0 many
        ∙ (ap (value_of_set g) (get_or-map-range_with_len (λ place. mask_of (column s.kept place)) 0 n j j 0 less (omega arith))
        ∙ (ap (value_of_set g) (sets_of_open g.domain r.rows masks scope below known supported s j inside)
        ∙ (sym (get_or-map (value_of_set g) masks (get_or scope j 0) 0 0 (known j 0 inside))
        ∙ sym (get_or-map (λ x. get_or (map (value_of_set g) masks) x 0) scope j 0 0 inside))))

    same : set_image g n s.kept ≡ read_at (map (value_of_set g) masks) scope
    same =
        let first : length (set_image g n s.kept) ≡ n = length-map (projection n s.kept) (value_of_set g) ∙ length-map-range_with_len (λ place. mask_of (column s.kept place)) 0 n in
        ext_get_or 0 (set_image g n s.kept) (read_at (map (value_of_set g) masks) scope)
        (first ∙ (sym long ∙ sym (length-map scope (λ x. get_or (map (value_of_set g) masks) x 0))))
        (λ j less. at j (omega arith))

-- and so is every constraint
pub width_one : (lang : LanguageView) (inst : InstanceView) (g : SetFunctionView) → IsLanguage lang → Fits lang inst → IsSetFunction g → g.domain ≡ lang.domain → IsSetPolymorphism g lang
    → (masks : List ℕ) → AreMasksOf lang inst masks → All (λ m. m ≢ 0) masks → IsArcConsistent lang inst masks → IsSolution lang inst (map (value_of_set g) masks)
width_one lang inst g language fits function domain preserves masks are full consistent =
    record {
      assigns = record {
        long = length-map masks (value_of_set g) ∙ are.long;
        below = All-map (λ v. v < lang.domain) (value_of_set g) masks (λ i d inside.
            let m : ℕ = get_or masks i d in
            let top : m < 2 ^ g.domain = all i d inside in
            let some : m ≢ 0 = full i d inside in
            let low : get_or g.cells (m - 1) 0 < g.domain = function.below (m - 1) 0 (omega (arith, function.all_cells, top, some)) in
            omega (arith, low, domain));
      };
      meets = λ i c inside. at i c inside;
    }
  where
    all : All (λ m. m < 2 ^ g.domain) masks
    all = subst (λ (d : ℕ). All (λ m. m < 2 ^ d) masks) (sym domain) are.below

    at : (i : ℕ) (c : ConstraintView) → i < length inst.constraints → Meets lang (get_or inst.constraints i c) (map (value_of_set g) masks)
    at i c inside =
        let this : ConstraintView = constraint_of inst i in
        let fit : FitsAt lang (length inst.variables) this = fits i no_constraint inside in
        let over : IsRelationOver lang.domain (relation_of lang this.relation) = language.relations_are this.relation no_named fit.known in
        let few : g.domain ≤ 5 = omega (arith, domain, language.domain_is.few) in
        subst (λ (k : ConstraintView). Meets lang k (map (value_of_set g) masks)) (get_or_default inst.constraints i no_constraint c inside)
        (width_one_meets g (relation_of lang this.relation) (preserves this.relation no_named fit.known) masks this.scope fit.long over.is_relation.some_places few
        (subst (λ (n : ℕ). All (λ x. x < n) this.scope) (sym are.long) fit.below) all full
        (λ j a known low bit. consistent i inside j a known (omega (arith, domain, low)) bit))
