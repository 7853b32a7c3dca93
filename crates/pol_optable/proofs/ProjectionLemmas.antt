-- The sets at the places of rows, and what it is to preserve them.
use Rattle.std.proofs.Common.{◌≡◌, ℕ, zero, suc, ◌^◌, ◌<◌, ◌≤◌, ◌⊎◌, inl, inr, List, [], ◌∷◌, ◌++◌, length, map, get_or, All, Contains, sym, ap, ◌∙◌, subst, arith, refl}
use Rattle.std.specs.Prelude.{IsBitSet}
use Rattle.std.proofs.lemmas.Bool.{cases_eq}
use Rattle.std.proofs.lemmas.Nat.{pow_pos, pow_below, or_lt}
use Rattle.std.proofs.lemmas.List.{get_or_default, ext_get_or, get_or_append_left, length-append}
use Rattle.std.proofs.lemmas.List.Elements.{All-nil, All-cons, All-head, All-tail, All-contains, All-weaker, Contains-get_or}
use Rattle.std.proofs.lemmas.List.FromFn.{length-map-range_with_len, get_or-map-range_with_len}
use Rattle.pol_base.specs.Masks.{mask_of, IsMask, AreMasks}
use Rattle.pol_base.specs.Tuples.{IsTuple}
use Rattle.pol_base.proofs.BitLemmas.{set_pos}
use Rattle.pol_base.proofs.MaskLemmas.{lowest_set}
use Rattle.pol_base.proofs.MemberLemmas.{Contains-here, Contains-there, Contains-cons_cases, Contains-nil, in_map}
use Rattle.pol_relation.specs.Relations.{RelationView}
use Rattle.pol_optable.specs.Operations.{column}
use Rattle.pol_optable.specs.SetFunctions.{SetFunctionView, value_of_set, projection, set_image, PreservesSets}
use Rattle.pol_optable.specs.Breaks.{rows_at}
use Rattle.pol_optable.specs.SetBreaks.{IsProjection, IsBrokenSets}
use Rattle.pol_optable.specs.ValueWords.{IsRowIn}
use Rattle.pol_optable.proofs.BreakLemmas.{rows_at-rows, row_or_not}
use Rattle.pol_optable.proofs.SetLemmas.{set_mask, mask_set, same_masks}

-- ---- the set at a place

pub length-projection : (n : ℕ) (rows : List (List ℕ)) → length (projection n rows) ≡ n
length-projection n rows = length-map-range_with_len (λ place. mask_of (column rows place)) 0 n

pub projection_at : (n : ℕ) (rows : List (List ℕ)) (place : ℕ) → place < n → get_or (projection n rows) place 0 ≡ mask_of (column rows place)
projection_at n rows place within = get_or-map-range_with_len (λ at. mask_of (column rows at)) 0 n place place 0 within (omega arith)

in_column : (rows : List (List ℕ)) (row : List ℕ) (place : ℕ) → Contains rows row → Contains (column rows place) (get_or row place 0)
in_column rows row place member = in_map (λ row. get_or row place 0) rows row member

-- a value of a column stands in a row
record StandsIn (rows : List (List ℕ)) (place v : ℕ) : Type 0 where
  row : List ℕ
  member : Contains rows row
  value : get_or row place 0 ≡ v

stands_in : (rows : List (List ℕ)) (place v : ℕ) → Contains (column rows place) v → StandsIn rows place v
stands_in [] place v member = absurd (Contains-nil v member)
stands_in (row ∷ rows) place v member =
    let rest = stands_in rows place v in
    elim (Contains-cons_cases (get_or row place 0) v (column rows place) member) [
      | inl same ↦ record { row = row; member = Contains-here row rows; value = same }
      | inr there ↦ behind (rest there)
    ]
  where
    behind : StandsIn rows place v → StandsIn (row ∷ rows) place v
    behind found = record { row = found.row; member = Contains-there row found.row rows found.member; value = found.value }

-- ---- masks of values below d

pub mask_below : (d : ℕ) (values : List ℕ) → All (λ v. v < d) values → mask_of values < 2 ^ d
mask_below d [] below = pow_pos d
mask_below d (v ∷ values) below =
    or_lt d (2 ^ v) (mask_of values) (pow_below v d (All-head (λ x. x < d) v values below))
    (mask_below d values (All-tail (λ x. x < d) v values below))

pub mask_some : (values : List ℕ) → 1 ≤ length values → 0 < mask_of values
mask_some values some =
    let first = get_or values 0 0 in
    set_pos (mask_of values) first (set_mask values first (Contains-get_or values 0 0 some))

pub column_below : (d place : ℕ) (rows : List (List ℕ)) → All (λ row. get_or row place 0 < d) rows → All (λ v. v < d) (column rows place)
column_below d place [] below = All-nil (λ v. v < d)
column_below d place (row ∷ rows) below =
    All-cons (λ v. v < d) (get_or row place 0) (column rows place) (All-head (λ row. get_or row place 0 < d) row rows below)
    (column_below d place rows (All-tail (λ row. get_or row place 0 < d) row rows below))

-- ---- rows that project to masks lie in them, and have all their values

-- a row in the masks with the value at the place
pub record HasRowIn (r : RelationView) (masks : List ℕ) (place v : ℕ) : Type 0 where
  pub row : ℕ
  pub lies : IsRowIn r masks row
  pub value_is : get_or (get_or r.rows row []) place 0 ≡ v

module _ (r : RelationView) (masks : List ℕ) (p : IsProjection r masks) where
  pub projection_long : length masks ≡ r.arity
  projection_long = ap length (sym p.masks_are) ∙ length-projection r.arity p.rows

  mask_at : (place : ℕ) → place < r.arity → get_or masks place 0 ≡ mask_of (column p.rows place)
  mask_at place here = ap (λ ms. get_or ms place 0) (sym p.masks_are) ∙ projection_at r.arity p.rows place here

  lies_within : (row : List ℕ) → Contains p.rows row → (place : ℕ) → place < r.arity → IsBitSet (get_or masks place 0) (get_or row place 0)
  lies_within row member place here =
      subst (λ m. IsBitSet m (get_or row place 0)) (sym (mask_at place here))
      (set_mask (column p.rows place) (get_or row place 0) (in_column p.rows row place member))

  pub projection_reads : (place v : ℕ) → place < r.arity → IsBitSet (get_or masks place 0) v → HasRowIn r masks place v
  projection_reads place v here set =
      let found = stands_in p.rows place v (mask_set (column p.rows place) v (subst (λ m. IsBitSet m v) (mask_at place here) set)) in
      let member : Contains r.rows found.row = All-contains (Contains r.rows) p.rows found.row p.members found.member in
      let same : get_or r.rows member.0 [] ≡ found.row = get_or_default r.rows member.0 [] found.row member.1 ∙ member.2 in
      record {
        row = member.0;
        lies = record {
          known = member.1;
          within = λ at inside. subst (λ row. IsBitSet (get_or masks at 0) (get_or row at 0)) (sym same)
              (lies_within found.row found.member at (omega (arith, inside, projection_long)));
        };
        value_is = ap (λ row. get_or row place 0) same ∙ found.value;
      }

  projection_some : (place : ℕ) → place < r.arity → 0 < get_or masks place 0
  projection_some place here =
      let row = get_or p.rows 0 [] in
      let member : Contains p.rows row = (0, p.some, get_or_default p.rows 0 row [] p.some) in
      set_pos (get_or masks place 0) (get_or row place 0) (lies_within row member place here)

  -- each is a mask of values of the domain
  pub projection_masks : All (IsTuple r.domain r.arity) r.rows → AreMasks r.domain masks
  projection_masks tuples k e inside =
      let here : k < r.arity = omega (arith, inside, projection_long) in
      let value : (row : List ℕ) → Contains r.rows row → get_or row k 0 < r.domain = λ row member.
      (let tuple : IsTuple r.domain r.arity row = All-contains (IsTuple r.domain r.arity) r.rows row tuples member in
      tuple.below k 0 (omega (arith, here, tuple.long))) in
      let below = mask_below r.domain (column p.rows k)
      (column_below r.domain k p.rows (All-weaker (Contains r.rows) (λ row. get_or row k 0 < r.domain) value p.rows p.members)) in
      rw (get_or_default masks k e 0 inside) (record {
        some = projection_some k here;
        below = subst (λ m. m < 2 ^ r.domain) (sym (mask_at k here)) below;
      })

-- the rows that lie in masks lie in the first of them
pub lies_in_front : (r : RelationView) (front rest : List ℕ) (i : ℕ) → IsRowIn r (front ++ rest) i → IsRowIn r front i
lies_in_front r front rest i lies = record {
  known = lies.known;
  within = λ place inside.
      subst (λ m. IsBitSet m (get_or (get_or r.rows i []) place 0)) (get_or_append_left front rest 0 place inside)
      (lies.within place (omega (arith, inside, length-append front rest)));
}

-- ---- where rows in the masks have all their values, the masks are a projection

-- all numbers below one with a property
record Gathered (P : ℕ → Type 0) (n : ℕ) : Type 0 where
  numbers : List ℕ
  each : All P numbers
  complete : (i : ℕ) → i < n → P i → Contains numbers i

gathered : (P : ℕ → Type 0) → ((i : ℕ) → P i ⊎ (P i → ⊥)) → (n : ℕ) → Gathered P n
gathered P decided zero = record { numbers = []; each = All-nil P; complete = λ i none holds. absurd (omega (arith, none)) }
gathered P decided (suc n) = by (gathered P decided n) (decided n)
  where
    by : Gathered P n → P n ⊎ (P n → ⊥) → Gathered P (suc n)
    by before (inl here) = record {
      numbers = n ∷ before.numbers;
      each = All-cons P n before.numbers here before.each;
      complete = λ i low holds. elim (cases_eq i n) [
        | inl same ↦ subst (Contains (n ∷ before.numbers)) (sym same) (Contains-here n before.numbers)
        | inr apart ↦ Contains-there n i before.numbers (before.complete i (omega (arith, low, apart)) holds)
      ];
    }
    by before (inr none) = record {
      numbers = before.numbers;
      each = before.each;
      complete = λ i low holds. elim (cases_eq i n) [
        | inl same ↦ absurd (none (subst P same holds))
        | inr apart ↦ before.complete i (omega (arith, low, apart)) holds
      ];
    }

-- a row of gathered ones has its number among theirs
record HasNumberIn (r : RelationView) (numbers : List ℕ) (row : List ℕ) : Type 0 where
  number : ℕ
  member : Contains numbers number
  same : get_or r.rows number [] ≡ row

number_of : (r : RelationView) (numbers : List ℕ) (row : List ℕ) → Contains (rows_at r numbers) row → HasNumberIn r numbers row
number_of r [] row member = absurd (Contains-nil row member)
number_of r (i ∷ numbers) row member =
    let rest = number_of r numbers row in
    elim (Contains-cons_cases (get_or r.rows i []) row (rows_at r numbers) member) [
      | inl same ↦ record { number = i; member = Contains-here i numbers; same = same }
      | inr there ↦ (let found = rest there in
          record { number = found.number; member = Contains-there i found.number numbers found.member; same = found.same })
    ]

module _ (r : RelationView) (masks : List ℕ)
    (long : length masks ≡ r.arity)
    (places : 1 ≤ r.arity)
    (are : AreMasks 5 masks)
    (decided : (i : ℕ) → IsRowIn r masks i ⊎ (IsRowIn r masks i → ⊥))
    (reads : (place v : ℕ) → place < length masks → IsBitSet (get_or masks place 0) v → HasRowIn r masks place v) where
  in_masks : Gathered (IsRowIn r masks) (length r.rows)
  in_masks = gathered (IsRowIn r masks) decided (length r.rows)

  abbrev rows : List (List ℕ)
  rows = rows_at r in_masks.numbers

  member_of : (place v : ℕ) → (found : HasRowIn r masks place v) → Contains rows (get_or r.rows found.row [])
  member_of place v found =
      in_map (λ i. get_or r.rows i []) in_masks.numbers found.row (in_masks.complete found.row found.lies.known found.lies)

  mask_is : (place : ℕ) → place < r.arity → mask_of (column rows place) ≡ get_or masks place 0
  mask_is place here = same_masks (mask_of (column rows place)) (get_or masks place 0) to from
    where
      inside : place < length masks
      inside = omega (arith, here, long)

      to : (v : ℕ) → IsBitSet (mask_of (column rows place)) v → IsBitSet (get_or masks place 0) v
      to v set =
          let found = stands_in rows place v (mask_set (column rows place) v set) in
          let number = number_of r in_masks.numbers found.row found.member in
          let lies : IsRowIn r masks number.number = All-contains (IsRowIn r masks) in_masks.numbers number.number in_masks.each number.member in
          let same : get_or (get_or r.rows number.number []) place 0 ≡ v = ap (λ row. get_or row place 0) number.same ∙ found.value in
          subst (IsBitSet (get_or masks place 0)) same (lies.within place inside)

      from : (v : ℕ) → IsBitSet (get_or masks place 0) v → IsBitSet (mask_of (column rows place)) v
      from v set =
          let found = reads place v inside set in
          set_mask (column rows place) v
          (subst (Contains (column rows place)) found.value_is (in_column rows (get_or r.rows found.row []) place (member_of place v found)))

  pub reads_projection : IsProjection r masks
  reads_projection =
      let first : IsMask 5 (get_or masks 0 0) = are 0 0 (omega (arith, places, long)) in
      let found = reads 0 _ (omega (arith, places, long)) (lowest_set (get_or masks 0 0) first) in
      let member : Contains rows (get_or r.rows found.row []) = member_of 0 _ found in
      record {
        rows = rows;
        some = (let inside : member.0 < length rows = member.1 in omega (arith, inside));
        members = rows_at-rows r in_masks.numbers
            (All-weaker (IsRowIn r masks) (λ i. i < length r.rows) (λ i lies. lies.known) in_masks.numbers in_masks.each);
        masks_are = ext_get_or 0 (projection r.arity rows) masks (length-projection r.arity rows ∙ sym long) (λ place inside.
            (let here : place < r.arity = omega (arith, inside, length-projection r.arity rows) in
            projection_at r.arity rows place here ∙ mask_is place here));
      }

-- ---- the laws of broken sets

-- where no sets at the places of rows are broken, the set function preserves the relation
pub preserves_without_breaks : (g : SetFunctionView) (r : RelationView) → ((masks : List ℕ) → ¬ IsBrokenSets g r masks) → PreservesSets g r
preserves_without_breaks g r none rows some members = by (row_or_not r (set_image g r.arity rows))
  where
    by : (Contains r.rows (set_image g r.arity rows) → ⊥) ⊎ Contains r.rows (set_image g r.arity rows) → Contains r.rows (set_image g r.arity rows)
    by (inl out) = absurd (none (projection r.arity rows) (record {
      is_projection = record { rows = rows; some = some; members = members; masks_are = refl };
      no_row = out;
    }))
    by (inr inside) = inside

-- broken sets show that it does not
pub break_refutes : (g : SetFunctionView) (r : RelationView) (masks : List ℕ) → IsBrokenSets g r masks → ¬ PreservesSets g r
break_refutes g r masks broken preserves =
    let p = broken.is_projection in
    broken.no_row (subst (λ ms. Contains r.rows (map (λ mask. value_of_set g mask) ms)) p.masks_are (preserves p.rows p.some p.members))
