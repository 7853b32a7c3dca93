-- Masks that are chosen place by place, and the rows in them.
use Rattle.std.proofs.Common.{◌≡◌, ℕ, ◌/◌, ◌%◌, ◌<◌, ◌≤◌, ◌⊎◌, ◌↔◌, inl, inr, List, [], ◌∷◌, ◌++◌, length, map, get_or, sym, ap, ◌∙◌, subst, arith, refl, append_assoc}
use Rattle.std.specs.Prelude.{IsBitSet}
use Rattle.std.proofs.Math.Seq.{get_or-append_seam}
use Rattle.std.proofs.lemmas.Bool.{cases_lt}
use Rattle.std.proofs.lemmas.List.{length-map, get_or_default, ext_get_or, get_or_append_left, length_push, get_or_push, map-append}
use Rattle.std.proofs.lemmas.List.Elements.{All-push}
use Rattle.pol_base.specs.Masks.{IsMask}
use Rattle.pol_base.specs.Tuples.{IsTuple}
use Rattle.pol_base.proofs.MaskLemmas.{masks_more}
use Rattle.pol_relation.specs.Relations.{RelationView, IsRelation}
use Rattle.pol_optable.specs.SetFunctions.{SetFunctionView, value_of_set}
use Rattle.pol_optable.specs.SetBreaks.{IsProjection, IsBrokenSets}
use Rattle.pol_optable.specs.ValueWords.{HasNumber, HasValue, HasValueOf, IsRowIn, BeginsWith, IsReadAt, AreAllRead, AreChosen, HaveImage, word_count}
use Rattle.pol_optable.proofs.SetLemmas.{set_or_clear}
use Rattle.pol_optable.proofs.ProjectionLemmas.{projection_reads, lies_in_front, reads_projection}

-- ---- one mask more is chosen

-- rows that lie in masks and have a value of one more
pub lies_more :
    (r : RelationView) (front : List ℕ) (mask i : ℕ)
    → (IsRowIn r front i × HasValueOf r (length front) mask i) ↔ IsRowIn r (front ++ mask ∷ []) i
lies_more r front mask i = (
  λ both. record {
    known = both.0.known;
    within = λ place inside. by both.0 both.1 place inside (cases_lt place (length front));
  },
  λ lies. (
    lies_in_front r front (mask ∷ []) i lies,
    record {
      known = lies.known;
      in_mask = subst (λ m. IsBitSet m (get_or (get_or r.rows i []) (length front) 0)) (get_or_push front mask 0 (length front) refl)
          (lies.within (length front) (omega (arith, length_push front mask)));
    },
  ),
)
  where
    by : IsRowIn r front i
        → HasValueOf r (length front) mask i
        → (place : ℕ)
        → place < length (front ++ mask ∷ [])
        → (place < length front) ⊎ (length front ≤ place)
        → IsBitSet (get_or (front ++ mask ∷ []) place 0) (get_or (get_or r.rows i []) place 0)
    by lies has place inside (inl low) =
        subst (λ m. IsBitSet m (get_or (get_or r.rows i []) place 0)) (sym (get_or_append_left front (mask ∷ []) 0 place low))
        (lies.within place low)
    by lies has place inside (inr high) =
        let last : place ≡ length front = omega (arith, high, inside, length_push front mask) in
        rw last (subst (λ m. IsBitSet m (get_or (get_or r.rows i []) (length front) 0)) (sym (get_or_push front mask 0 (length front) refl)) has.in_mask)

-- rows that begin with values and have one more behind them
pub begins_more :
    (r : RelationView) (values : List ℕ) (value i : ℕ)
    → (BeginsWith r values i × HasValue r (length values) value i) ↔ BeginsWith r (values ++ value ∷ []) i
begins_more r values value i = (
  λ both. record {
    known = both.0.known;
    same = λ place inside. by both.0 both.1 place inside (cases_lt place (length values));
  },
  λ begins. (
    record {
      known = begins.known;
      same = λ place inside. begins.same place (omega (arith, inside, length_push values value))
          ∙ get_or_append_left values (value ∷ []) 0 place inside;
    },
    record {
      known = begins.known;
      value_is = begins.same (length values) (omega (arith, length_push values value)) ∙ get_or_push values value 0 (length values) refl;
    },
  ),
)
  where
    by : BeginsWith r values i
        → HasValue r (length values) value i
        → (place : ℕ)
        → place < length (values ++ value ∷ [])
        → (place < length values) ⊎ (length values ≤ place)
        → get_or (get_or r.rows i []) place 0 ≡ get_or (values ++ value ∷ []) place 0
    by begins has place inside (inl low) = begins.same place low ∙ sym (get_or_append_left values (value ∷ []) 0 place low)
    by begins has place inside (inr high) =
        let last : place ≡ length values = omega (arith, high, inside, length_push values value) in
        rw last (has.value_is ∙ sym (get_or_push values value 0 (length values) refl))

-- where the masks and some behind them are a projection, the rows in the masks have each of its values
pub projection_read :
    (r : RelationView) (masks rest alive : List ℕ)
    → ((i : ℕ) → IsRowIn r masks i → HasNumber alive i)
    → IsProjection r (masks ++ rest)
    → (place value : ℕ)
    → place < r.arity
    → IsBitSet (get_or (masks ++ rest) place 0) value
    → IsReadAt r alive place value
projection_read r masks rest alive has p place value here set =
    let found = projection_reads r (masks ++ rest) p place value here set in
    record {
      row = found.row;
      has = has found.row (lies_in_front r masks rest found.row found.lies);
      reads = record { known = found.lies.known; value_is = found.value_is };
    }

module _ (r : RelationView) (front : List ℕ) (mask : ℕ) (words below : List ℕ)
    (place : length front < r.arity)
    (chosen : AreChosen r front words)
    (narrowed : (i : ℕ) → HasNumber below i ↔ (HasNumber words i × HasValueOf r (length front) mask i)) where
  within_more : (i : ℕ) → HasNumber below i ↔ IsRowIn r (front ++ mask ∷ []) i
  within_more i = (
    λ has. (let both = (narrowed i).0 has in (lies_more r front mask i).0 ((chosen.rows_are i).0 both.0, both.1)),
    λ lies. (let both = (lies_more r front mask i).1 lies in (narrowed i).1 ((chosen.rows_are i).1 both.0, both.1)),
  )

  -- where rows do not have each value of the front any more, the masks begin no projection
  pub unread_no_projection :
      (AreAllRead r below front → ⊥)
      → (behind : List ℕ)
      → IsProjection r ((front ++ mask ∷ []) ++ behind)
      → ⊥
  unread_no_projection unread behind p = unread (λ at value inside set.
      (let low : at < length (front ++ mask ∷ []) = omega (arith, inside, length_push front mask) in
      let there : get_or ((front ++ mask ∷ []) ++ behind) at 0 ≡ get_or front at 0 =
      get_or_append_left (front ++ mask ∷ []) behind 0 at low ∙ get_or_append_left front (mask ∷ []) 0 at inside in
      projection_read r (front ++ mask ∷ []) behind below (λ i lies. (within_more i).1 lies) p at value
      (omega (arith, inside, place)) (subst (λ m. IsBitSet m value) (sym there) set)))

  pub chosen_more :
      IsMask r.domain mask
      → ((value : ℕ) → IsBitSet mask value → IsReadAt r words (length front) value)
      → AreAllRead r below front
      → length below ≡ word_count r
      → AreChosen r (front ++ mask ∷ []) below
  chosen_more is_mask all_read read counted = record {
    are_masks = All-push (IsMask r.domain) front mask chosen.are_masks is_mask;
    counted = counted;
    rows_are = within_more;
    are_read = λ at value inside set. reads at value inside set (cases_lt at (length front));
  }
    where
      reads : (at value : ℕ)
          → at < length (front ++ mask ∷ [])
          → IsBitSet (get_or (front ++ mask ∷ []) at 0) value
          → (at < length front) ⊎ (length front ≤ at)
          → IsReadAt r below at value
      reads at value inside set (inl low) =
          read at value low (subst (λ m. IsBitSet m value) (get_or_append_left front (mask ∷ []) 0 at low) set)
      reads at value inside set (inr high) =
          let last : at ≡ length front = omega (arith, high, inside, length_push front mask) in
          let here : IsBitSet mask value = subst (λ m. IsBitSet m value)
          (ap (λ n. get_or (front ++ mask ∷ []) n 0) last ∙ get_or_push front mask 0 (length front) refl) set in
          let found = all_read value here in
          rw last (record {
            row = found.row;
            has = (narrowed found.row).1 (
              found.has,
              record {
                known = found.reads.known;
                in_mask = subst (IsBitSet mask) (sym found.reads.value_is) here;
              },
            );
            reads = found.reads;
          })

-- where a value of the last mask is read by no row, the masks begin no projection
pub closed_no_projection :
    (r : RelationView) (front : List ℕ) (mask : ℕ) (words : List ℕ)
    → length front < r.arity
    → AreChosen r front words
    → (((value : ℕ) → IsBitSet mask value → IsReadAt r words (length front) value) → ⊥)
    → (behind : List ℕ)
    → IsProjection r ((front ++ mask ∷ []) ++ behind)
    → ⊥
closed_no_projection r front mask words place chosen closed behind p =
    let split : (front ++ mask ∷ []) ++ behind ≡ front ++ mask ∷ behind = append_assoc front (mask ∷ []) behind in
    closed (λ value set. projection_read r front (mask ∷ behind) words (λ i lies. (chosen.rows_are i).1 lies)
    (subst (IsProjection r) split p) (length front) value place
    (subst (λ m. IsBitSet m value) (sym (get_or-append_seam front mask behind 0)) set))

-- masks that are chosen for all places are a projection
pub chosen_projection : (r : RelationView) (masks words : List ℕ) → IsRelation r → length masks ≡ r.arity → AreChosen r masks words → IsProjection r masks
chosen_projection r masks words is long chosen =
    reads_projection r masks long is.some_places (masks_more r.domain 5 masks is.domain_is.few chosen.are_masks)
    (λ i. elim (set_or_clear (get_or words (i / 128) 0) (i % 128)) [
      | inl has ↦ inl ((chosen.rows_are i).0 has)
      | inr not ↦ inr (λ lies. not ((chosen.rows_are i).1 lies))
    ])
    (λ place value inside set. (let read = chosen.are_read place value inside set in
    record { row = read.row; lies = (chosen.rows_are read.row).0 read.has; value_is = read.reads.value_is }))

-- ---- the rows that begin with what the set function makes

module _ (g : SetFunctionView) (r : RelationView) (front : List ℕ) (mask : ℕ) (hit : List ℕ)
    (image : HaveImage g r front hit) where
  abbrev values : List ℕ
  values = map (λ m. value_of_set g m) front

  values_long : length values ≡ length front
  values_long = length-map front (λ m. value_of_set g m)

  values_more : map (λ m. value_of_set g m) (front ++ mask ∷ []) ≡ values ++ value_of_set g mask ∷ []
  values_more = map-append (λ m. value_of_set g m) front (mask ∷ [])

  -- the rows of the words with the value of one mask more
  kept_begin : (i : ℕ)
      → (HasNumber hit i × HasValue r (length front) (value_of_set g mask) i)
      ↔ BeginsWith r (map (λ m. value_of_set g m) (front ++ mask ∷ [])) i
  kept_begin i =
      let more = begins_more r values (value_of_set g mask) i in
      rw (values_more, ← values_long) (
        λ both. more.0 ((image.rows_are i).0 both.0, both.1),
        λ begins. (let both = more.1 begins in ((image.rows_are i).1 both.0, both.1)),
      )

  pub image_more :
      (below : List ℕ)
      → ((i : ℕ) → HasNumber below i ↔ (HasNumber hit i × HasValue r (length front) (value_of_set g mask) i))
      → length below ≡ word_count r
      → HaveImage g r (front ++ mask ∷ []) below
  image_more below kept counted = record {
    counted = counted;
    rows_are = λ i. (λ has. (kept_begin i).0 ((kept i).0 has), λ begins. (kept i).1 ((kept_begin i).1 begins));
  }

  module _ (is : IsRelation r) (last : length (front ++ mask ∷ []) ≡ r.arity) where
    abbrev made : List ℕ
    made = map (λ m. value_of_set g m) (front ++ mask ∷ [])

    -- at the last place a row with the value is what the set function makes
    pub read_kept : IsReadAt r hit (length front) (value_of_set g mask) → IsBrokenSets g r (front ++ mask ∷ []) → ⊥
    read_kept read broken =
        let begins = (kept_begin read.row).0 (read.has, read.reads) in
        let tuple : IsTuple r.domain r.arity (get_or r.rows read.row []) = is.tuples read.row [] begins.known in
        let long : length made ≡ r.arity = length-map (front ++ mask ∷ []) (λ m. value_of_set g m) ∙ last in
        let same : get_or r.rows read.row [] ≡ made =
        ext_get_or 0 (get_or r.rows read.row []) made (tuple.long ∙ sym long) (λ place inside.
        begins.same place (omega (arith, inside, tuple.long, long))) in
        broken.no_row (read.row, begins.known, get_or_default r.rows read.row made [] begins.known ∙ same)

    -- and without such a row it makes none
    pub unread_broken :
        (IsReadAt r hit (length front) (value_of_set g mask) → ⊥)
        → IsProjection r (front ++ mask ∷ [])
        → IsBrokenSets g r (front ++ mask ∷ [])
    unread_broken unread p = record {
      is_projection = p;
      no_row = λ row.
          (let same : get_or r.rows row.0 [] ≡ made = get_or_default r.rows row.0 [] made row.1 ∙ row.2 in
          let both = (kept_begin row.0).1 (record { known = row.1; same = λ place inside. ap (λ t. get_or t place 0) same }) in
          unread (record { row = row.0; has = both.0; reads = both.1 }));
    }
