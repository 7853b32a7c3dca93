-- What a restriction leaves, place by place, and the table of all places.
use Rattle.std.proofs.Common.{◌≡◌, ℕ, ◌<◌, ◌≤◌, ◌+◌, List, length, arith, refl, subst, ◌↔◌, ◌∙◌, ◌⊎◌, inl, inr, get_or}
use Rattle.std.specs.Prelude.{slice_index, ◌≢◌}
use Rattle.std.proofs.Math.ListN.{set}
use Rattle.std.proofs.lemmas.Bool.{cases_lt, cases_order}
use Rattle.std.proofs.lemmas.List.{length-set, get_or-set_same, get_or-set_other}
use Rattle.std.proofs.lemmas.List.Elements.{All-contains, All-from_get_or}
use Rattle.pol_optable.specs.Operations.{Operation}
use Rattle.pol_maltsev.specs.Orders.{InFront}
use Rattle.pol_maltsev.specs.Restrictions.{IsMadeEarly, IsMadeLate, IsEarlyClass, AreValues, first_row}
use Rattle.pol_maltsev.specs.Views.{ClassesView, TableView, InTable, IsSoundTable, IsTableView, AreClasses, AreMade, no_classes, row_of, root_of, classes_at, row_in, root_in}
use Rattle.pol_maltsev.specs.Samples.{Restriction, IsKept, IsRestriction, HasSample, AreMoreSamples, AreClosed, SampleRows, HaveKeptRows, AreKeptBefore, AreLateClasses, AreRestricted, AreRestrictedBefore, listed_at}
use Rattle.pol_maltsev.proofs.EarlyLemmas.{early_classes}
use Rattle.pol_maltsev.proofs.MadeLemmas.{made_classes}
use Rattle.pol_maltsev.proofs.RestrictTables.{listed_restricted, IsRestrictedView, restricted_sound}

-- the samples have the values of the rows before, and are closed
pub late_values : (f : Operation) (v : TableView) (r : Restriction) (k : ℕ) (places : List ClassesView) (one two : ClassesView) → v.domain ≡ f.domain →
    ((i : ℕ) → i < k → SampleRows v k (listed_at places (slice_index v.order i)) one) → AreMoreSamples f v r k one two → AreClosed f two →
    AreValues f k (slice_index v.order k) v.order (λ p a. row_of (listed_at places p) a) (λ p a. root_of (listed_at places p) a) (HasSample v.domain two)
late_values f v r k places one two same rows more closed = record {
  of_rows = λ i a low a_low h. more.more (slice_index (row_of (listed_at places (slice_index v.order i)) a) (slice_index v.order k)) (rows i low a (record { below = rw same a_low; root = rw same h }));
  closed = λ a b c ha hb hc. rw same (closed a b c (rw same at ha) (rw same at hb) (rw same at hc));
}

-- at a place before those of the restriction, by the listed rows
pub early_restricted : (f : Operation) (v : TableView) (r : Restriction) (k : ℕ) (places : List ClassesView) (c : ClassesView) → v.domain ≡ f.domain → k < r.first →
    AreMade (IsEarlyClass v.domain r.rows (InFront v.order k) (slice_index v.order k)) v.domain v.width v.domain c → AreRestricted f v r k places c
early_restricted f v r k places c same low made = record {
  classes = made_classes (IsEarlyClass v.domain r.rows (InFront v.order k) (slice_index v.order k)) v.domain v.width c made;
  early = λ _. rw (← same) (early_classes v.domain r.rows (InFront v.order k) (slice_index v.order k) (row_of c) (root_of c) made.each);
  late = λ h. absurd (omega (arith, h, low));
}

-- the rows are kept members
pub kept_before : (f : Operation) (v : TableView) (r : Restriction) (k : ℕ) (places : List ClassesView) → IsRestriction f v r → AreRestrictedBefore f v r k places → AreKeptBefore f v r k places
kept_before f v r k places is before = record { long = before.long; each = λ i low. each i (before.each i low) }
  where
    each : (i : ℕ) → AreRestricted f v r i places (listed_at places (slice_index v.order i)) → HaveKeptRows f v r (listed_at places (slice_index v.order i))
    each i made = record { classes = made.classes; kept = λ a h. kept a h (cases_lt i r.first) }
      where
        c : ClassesView
        c = listed_at places (slice_index v.order i)

        from_early : (a : ℕ) → HasSample v.domain c a → IsMadeEarly f.domain r.rows (InFront v.order i) (slice_index v.order i) (first_row r.rows (slice_index v.order i)) (row_of c) (root_of c) → IsKept f v r (row_of c a)
        from_early a h early =
            let low : a < f.domain = rw is.sound.same_domain at h.below in
            All-contains (IsKept f v r) r.rows (row_of c a) (listed_restricted (InTable f v) r.rows v.order r.first is.inside) (early.listed a low (early.gone a low (rw is.sound.same_domain at h.root)))

        kept : (a : ℕ) → HasSample v.domain c a → (i < r.first) ⊎ (r.first ≤ i) → IsKept f v r (row_of c a)
        kept a h (inl first) = from_early a h (made.early first)
        kept a h (inr after) = (made.late after).samples.made.inside a h.below h

-- what is left at a place turns on the places before it
same_before : (f : Operation) (v : TableView) (r : Restriction) (k : ℕ) (old new : List ClassesView) (c : ClassesView) → ((i : ℕ) → i < k → listed_at new (slice_index v.order i) ≡ listed_at old (slice_index v.order i)) →
    AreRestricted f v r k old c → AreRestricted f v r k new c
same_before f v r k old new c same made = record { classes = made.classes; early = made.early; late = λ h. late (made.late h) }
  where
    late : AreLateClasses f v r k old c → AreLateClasses f v r k new c
    late l = record {
      samples = l.samples;
      values = record {
        of_rows = λ i a low a_low h. rw (same i low) (l.values.of_rows i a low a_low (rw (same i low) at h));
        closed = l.values.closed;
      };
    }

-- of no place
pub restricted_none : (f : Operation) (v : TableView) (r : Restriction) (places : List ClassesView) → length places ≡ v.width → AreRestrictedBefore f v r 0 places
restricted_none f v r places long = record { long = long; each = λ i low. absurd (omega (arith, low)) }

-- of one place more
pub restricted_more : (f : Operation) (v : TableView) (r : Restriction) (k : ℕ) (places : List ClassesView) (c : ClassesView) → IsRestriction f v r → k < v.width → AreRestrictedBefore f v r k places → AreRestricted f v r k places c →
    AreRestrictedBefore f v r (k + 1) (set places (slice_index v.order k) c)
restricted_more f v r k places c is low before made = record {
  long = length-set places (slice_index v.order k) c ∙ before.long;
  each = λ i i_low. at i i_low (cases_order i k);
}
  where
    new : List ClassesView
    new = set places (slice_index v.order k) c

    here : listed_at new (slice_index v.order k) ≡ c
    here = get_or-set_same places (slice_index v.order k) c no_classes (rw before.long (is.sound.table.order.below k low))

    others : (i : ℕ) → i < k → listed_at new (slice_index v.order i) ≡ listed_at places (slice_index v.order i)
    others i i_low = get_or-set_other places (slice_index v.order k) (slice_index v.order i) c no_classes (λ e. absurd (omega (arith, i_low, is.sound.table.order.once i k (omega (arith, i_low, low)) low e)))

    at : (i : ℕ) → i < k + 1 → (i ≡ k) ⊎ ((i < k) ⊎ (k < i)) → AreRestricted f v r i new (listed_at new (slice_index v.order i))
    at i i_low (inl e) = rw (e, here) (same_before f v r k places new c others made)
    at i i_low (inr (inl less)) = rw (others i less)
        (same_before f v r i places new (listed_at places (slice_index v.order i)) (λ h h_low. others h (omega (arith, h_low, less))) (before.each i less))
    at i i_low (inr (inr more)) = absurd (omega (arith, i_low, more))

-- of all places
abbrev pub restricted_table : TableView → List ClassesView → TableView
restricted_table v places = record { domain = v.domain; width = v.width; order = v.order; places = places }

pub restricted_places : (f : Operation) (v : TableView) (r : Restriction) (places : List ClassesView) → IsRestriction f v r → AreRestrictedBefore f v r v.width places → IsTableView (restricted_table v places)
restricted_places f v r places is made = record {
  domain_is = is.sound.view.domain_is;
  some_places = is.sound.view.some_places;
  few_places = is.sound.view.few_places;
  ordered = is.sound.view.ordered;
  below = is.sound.view.below;
  all_places = made.long;
  classes = All-from_get_or (AreClasses v.domain v.width) places no_classes (λ p low. at p (is.sound.table.order.found p (rw made.long at low)));
}
  where
    at : (p : ℕ) → InFront v.order v.width p → AreClasses v.domain v.width (listed_at places p)
    at p h = rw h.place at (made.each h.index h.early).classes

pub restricted_is : (f : Operation) (v : TableView) (r : Restriction) (places : List ClassesView) → IsRestriction f v r → AreRestrictedBefore f v r v.width places →
    IsRestrictedView f r.first r.rows (λ k. HasSample v.domain (listed_at places (slice_index v.order k))) v (restricted_table v places)
restricted_is f v r places is made = record {
  shape = record { domain = refl; width = refl };
  order = refl;
  view = restricted_places f v r places is made;
  early = λ k first low. (made.each k low).early first;
  late = λ k after low. subst (λ d. IsMadeLate d (IsKept f v r) (InFront v.order k) (slice_index v.order k) (HasSample v.domain (listed_at places (slice_index v.order k))) (root_in v (slice_index v.order k))
      (row_of (listed_at places (slice_index v.order k))) (root_of (listed_at places (slice_index v.order k)))) is.sound.same_domain ((made.each k low).late after).samples.made;
  values = λ k after low. ((made.each k low).late after).values;
}

-- it is right, and stands for the kept members
pub record IsRestrictedTable (f : Operation) (v : TableView) (r : Restriction) (new : TableView) : Type 0 where
  pub view : IsTableView new
  pub sound : IsSoundTable f new
  pub set : (t : List ℕ) → InTable f new t ↔ IsKept f v r t

pub restricted_all : (f : Operation) (v : TableView) (r : Restriction) (k d n : ℕ) (ord : List ℕ) (places : List ClassesView) → IsRestriction f v r → 1 ≤ r.first → AreRestrictedBefore f v r k places → v.width ≤ k → k ≤ v.width →
    d ≡ v.domain → n ≡ v.width → ord ≡ v.order → IsRestrictedTable f v r (record { domain = d; width = n; order = ord; places = places })
restricted_all f v r k d n ord places is one made low high same_domain same_width same_order = rw (same_domain, same_width, same_order) (record {
  view = restricted_places f v r places is all;
  sound = sound.0;
  set = sound.1;
})
  where
    end : k ≡ v.width
    end = omega (arith, low, high)

    all : AreRestrictedBefore f v r v.width places
    all = rw end at made

    sound : IsSoundTable f (restricted_table v places) × ((t : List ℕ) → InTable f (restricted_table v places) t ↔ IsKept f v r t)
    sound = restricted_sound f r.first r.rows (λ k. HasSample v.domain (listed_at places (slice_index v.order k))) v (restricted_table v places) is.sound one is.inside is.preserved (restricted_is f v r places is all)
