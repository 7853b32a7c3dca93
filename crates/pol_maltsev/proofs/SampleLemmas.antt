-- The samples of a late place: what a member adds to them, and when they are all.
use Rattle.std.proofs.Common.{◌≡◌, ℕ, zero, suc, ◌<◌, ◌≤◌, ◌+◌, List, [], ◌∷◌, length, arith, sym, refl, ◌∙◌, ◌⊎◌, inl, inr, Bool, true, false, cond, eqb, ltb, get_or}
use Rattle.std.specs.Prelude.{slice_index, ◌≢◌}
use Rattle.std.proofs.lemmas.Bool.{cases_lt, cases_order, cases_eq, lt-ltb, ltb-true}
use Rattle.std.proofs.Math.ListN.{set}
use Rattle.std.proofs.lemmas.List.{length-set, get_or-set_same, get_or-set_other}
use Rattle.std.proofs.lemmas.List.Elements.{All-set}
use Rattle.pol_base.specs.Tuples.{IsTuple}
use Rattle.std.proofs.lemmas.Bool.Decides.{eqb_tells}
use Rattle.pol_rows.specs.Signatures.{sum_below}
use Rattle.pol_rows.proofs.SizeLemmas.{sum_below-le}
use Rattle.pol_optable.specs.Operations.{Operation, image, value_at}
use Rattle.pol_maltsev.specs.Orders.{InFront}
use Rattle.pol_maltsev.specs.Tables.{Agree, SameRoot, IsKnown, step, IsMoved}
use Rattle.pol_maltsev.specs.Restrictions.{IsPart}
use Rattle.pol_maltsev.specs.Views.{ClassesView, TableView, InTable, IsSoundTable, AreClasses, AreMade, row_of, root_of, row_in, root_in}
use Rattle.pol_maltsev.specs.Samples.{Restriction, IsKept, IsLatePlace, HasSample, AreSamples, AreMoreSamples, HaveAll, StaysSame, IsSpread, set_value, IsMissing, AreClosed}
use Rattle.pol_maltsev.proofs.TupleLemmas.{value_below, value-image, value_at_below}
use Rattle.pol_maltsev.proofs.SwapLemmas.{IsFrame, root-sym, root-trans}
use Rattle.pol_maltsev.proofs.OrderLemmas.{front_frame}
use Rattle.pol_maltsev.proofs.MadeLemmas.{made_classes}
use Rattle.pol_maltsev.proofs.SetLemmas.{set_preserved}
use Rattle.pol_maltsev.proofs.WalkLemmas.{member_tuple}
use Rattle.pol_maltsev.proofs.RestrictionLemmas.{spread, part_more}
use Rattle.pol_maltsev.proofs.RestrictTables.{restricted_part}

-- two values are in one class, or not
pub together_or_apart : (d : ℕ) (root : ℕ → ℕ) (a b : ℕ) → root a < d → SameRoot d root a b ⊎ (¬ SameRoot d root a b)
together_or_apart d root a b low = by (eqb_tells (root a) (root b))
  where
    by : ((eqb (root a) (root b) ≡ true) × (root a ≡ root b)) ⊎ ((eqb (root a) (root b) ≡ false) × (root a ≢ root b)) → SameRoot d root a b ⊎ (¬ SameRoot d root a b)
    by (inl e) = inl (record { roots = e.1; present = low })
    by (inr e) = inr (λ h. e.1 h.roots)

-- the first places are below the width
late_frame : (f : Operation) (v : TableView) (r : Restriction) (k : ℕ) → IsLatePlace f v r k → IsFrame f v.width (InTable f v) (InFront v.order k)
late_frame f v r k is =
    front_frame f v.width (InTable f v) v.order k is.sound.maltsev (set_preserved f v is.sound.operation is.sound.same_domain is.sound.view) is.sound.table.order (omega (arith, is.position))

-- they decide what is kept
late_part : (f : Operation) (v : TableView) (r : Restriction) (k : ℕ) → IsLatePlace f v r k → IsPart (InTable f v) (IsKept f v r) (InFront v.order k)
late_part f v r k is = part_more (InTable f v) (IsKept f v r) v.order r.first k is.late (restricted_part (InTable f v) r.rows v.order r.first)

-- the value of a kept member is below the domain
pub kept_low : (f : Operation) (v : TableView) (r : Restriction) (k : ℕ) (t : List ℕ) → IsLatePlace f v r k → IsKept f v r t → slice_index t (slice_index v.order k) < v.domain
kept_low f v r k t is in_t = value_below v.domain v.width t (slice_index v.order k) (member_tuple f v t is.sound in_t.inside) (is.sound.table.order.below k is.position)

-- and has a root in the table
pub kept_present : (f : Operation) (v : TableView) (r : Restriction) (k : ℕ) (t : List ℕ) → IsLatePlace f v r k → IsKept f v r t →
    root_in v (slice_index v.order k) (slice_index t (slice_index v.order k)) < v.domain
kept_present f v r k t is in_t = rw is.sound.same_domain ((is.sound.table.known k is.position).present t in_t.inside)

-- so a kept member has a sampled value, where all are sampled
pub all_sampled : (f : Operation) (v : TableView) (r : Restriction) (k : ℕ) (t : List ℕ) (c : ClassesView) → IsLatePlace f v r k → HaveAll v (slice_index v.order k) c → IsKept f v r t →
    HasSample v.domain c (slice_index t (slice_index v.order k))
all_sampled f v r k t c is all in_t = all (slice_index t (slice_index v.order k)) (kept_low f v r k t is in_t) (kept_present f v r k t is in_t)

-- a step of a kept member to a value of its class is kept
kept_step : (f : Operation) (v : TableView) (r : Restriction) (k a : ℕ) (t : List ℕ) → IsLatePlace f v r k → IsKept f v r t → a < v.domain →
    SameRoot v.domain (root_in v (slice_index v.order k)) (slice_index t (slice_index v.order k)) a →
    IsMoved (IsKept f v r) (InFront v.order k) (slice_index v.order k) a t (step f v.width (slice_index v.order k) (row_in v (slice_index v.order k)) t a)
kept_step f v r k a t is in_t a_low same =
    spread f v.width (InTable f v) (IsKept f v r) (InFront v.order k) (slice_index v.order k) a (row_in v (slice_index v.order k)) (root_in v (slice_index v.order k)) t (late_frame f v r k is)
    (is.sound.table.order.below k is.position) (late_part f v r k is) (is.sound.table.known k is.position) in_t (rw is.sound.same_domain at a_low) (rw is.sound.same_domain at same)

-- the values below m of the class of t have got their steps, and the others are as before
pub record IsSpreadSoFar (f : Operation) (v : TableView) (p : ℕ) (t : List ℕ) (m : ℕ) (old new : ClassesView) : Type 0 where
  pub classes : AreClasses v.domain v.width new
  pub rows : (a : ℕ) → a < m → SameRoot v.domain (root_in v p) (slice_index t p) a → row_of new a ≡ step f v.width p (row_in v p) t a
  pub roots : (a : ℕ) → a < m → SameRoot v.domain (root_in v p) (slice_index t p) a → root_of new a ≡ root_in v p a
  pub others : (a : ℕ) → ¬ SameRoot v.domain (root_in v p) (slice_index t p) a → StaysSame a old new

-- none of them
pub spread_none : (f : Operation) (v : TableView) (p : ℕ) (t : List ℕ) (c : ClassesView) → AreClasses v.domain v.width c → IsSpreadSoFar f v p t 0 c c
spread_none f v p t c is = record {
  classes = is;
  rows = λ a low h. absurd (omega (arith, low));
  roots = λ a low h. absurd (omega (arith, low));
  others = λ a none. record { row = refl; root = refl };
}

-- one more
pub spread_more : (f : Operation) (v : TableView) (p m : ℕ) (t row : List ℕ) (old new : ClassesView) → m < v.domain → IsSpreadSoFar f v p t m old new → SameRoot v.domain (root_in v p) (slice_index t p) m →
    IsTuple v.domain v.width row → row ≡ step f v.width p (row_in v p) t m → root_in v p m ≤ v.domain → IsSpreadSoFar f v p t (m + 1) old (set_value new m row (root_in v p m))
spread_more f v p m t row old new low so_far same tuple is most = record {
  classes = record {
    all_rows = length-set new.rows m row ∙ so_far.classes.all_rows;
    tuples = All-set (IsTuple v.domain v.width) new.rows m row tuple so_far.classes.tuples;
    all_roots = length-set new.roots m (root_in v p m) ∙ so_far.classes.all_roots;
    most = All-set (λ r. r ≤ v.domain) new.roots m (root_in v p m) most so_far.classes.most;
  };
  rows = λ a a_low h. row_at a a_low h (cases_order a m);
  roots = λ a a_low h. root_at a a_low h (cases_order a m);
  others = λ a none. record { row = other_row a none (cases_eq a m); root = other_root a none (cases_eq a m) };
}
  where
    here : get_or (set new.rows m row) m [] ≡ row
    here = get_or-set_same new.rows m row [] (rw so_far.classes.all_rows low)

    here_root : get_or (set new.roots m (root_in v p m)) m 0 ≡ root_in v p m
    here_root = get_or-set_same new.roots m (root_in v p m) 0 (rw so_far.classes.all_roots low)

    row_at : (a : ℕ) → a < m + 1 → SameRoot v.domain (root_in v p) (slice_index t p) a → (a ≡ m) ⊎ ((a < m) ⊎ (m < a)) → get_or (set new.rows m row) a [] ≡ step f v.width p (row_in v p) t a
    row_at a a_low h (inl e) = rw e (here ∙ is)
    row_at a a_low h (inr (inl before)) = get_or-set_other new.rows m a row [] (λ e. absurd (omega (arith, e, before))) ∙ so_far.rows a before h
    row_at a a_low h (inr (inr after)) = absurd (omega (arith, a_low, after))

    root_at : (a : ℕ) → a < m + 1 → SameRoot v.domain (root_in v p) (slice_index t p) a → (a ≡ m) ⊎ ((a < m) ⊎ (m < a)) → get_or (set new.roots m (root_in v p m)) a 0 ≡ root_in v p a
    root_at a a_low h (inl e) = rw e here_root
    root_at a a_low h (inr (inl before)) = get_or-set_other new.roots m a (root_in v p m) 0 (λ e. absurd (omega (arith, e, before))) ∙ so_far.roots a before h
    root_at a a_low h (inr (inr after)) = absurd (omega (arith, a_low, after))

    other_row : (a : ℕ) → ¬ SameRoot v.domain (root_in v p) (slice_index t p) a → (a ≡ m) ⊎ (a ≡ m → ⊥) → get_or (set new.rows m row) a [] ≡ row_of old a
    other_row a none (inl e) = absurd (none (rw e same))
    other_row a none (inr e) = get_or-set_other new.rows m a row [] e ∙ (so_far.others a none).row

    other_root : (a : ℕ) → ¬ SameRoot v.domain (root_in v p) (slice_index t p) a → (a ≡ m) ⊎ (a ≡ m → ⊥) → get_or (set new.roots m (root_in v p m)) a 0 ≡ root_of old a
    other_root a none (inl e) = absurd (none (rw e same))
    other_root a none (inr e) = get_or-set_other new.roots m a (root_in v p m) 0 e ∙ (so_far.others a none).root

-- and none more of the class
pub spread_stays : (f : Operation) (v : TableView) (p m : ℕ) (t : List ℕ) (old new : ClassesView) → IsSpreadSoFar f v p t m old new → ¬ SameRoot v.domain (root_in v p) (slice_index t p) m → IsSpreadSoFar f v p t (m + 1) old new
spread_stays f v p m t old new so_far none = record {
  classes = so_far.classes;
  rows = λ a low h. so_far.rows a (before a low h (cases_order a m)) h;
  roots = λ a low h. so_far.roots a (before a low h (cases_order a m)) h;
  others = so_far.others;
}
  where
    before : (a : ℕ) → a < m + 1 → SameRoot v.domain (root_in v p) (slice_index t p) a → (a ≡ m) ⊎ ((a < m) ⊎ (m < a)) → a < m
    before a low h (inl e) = absurd (none (rw e at h))
    before a low h (inr (inl less)) = less
    before a low h (inr (inr after)) = absurd (omega (arith, low, after))

-- the value of the member has a sample after its spread
pub spread_there : (f : Operation) (v : TableView) (r : Restriction) (k : ℕ) (t : List ℕ) (old new : ClassesView) → IsLatePlace f v r k → IsKept f v r t → IsSpread f v (slice_index v.order k) t old new →
    HasSample v.domain new (slice_index t (slice_index v.order k))
spread_there f v r k t old new is in_t s = record {
  below = kept_low f v r k t is in_t;
  root = rw (s.roots (slice_index t (slice_index v.order k)) (kept_low f v r k t is in_t) (record { roots = refl; present = kept_present f v r k t is in_t })) (kept_present f v r k t is in_t);
}

-- and there are samples for the old values and for the member's class
pub spread_samples : (f : Operation) (v : TableView) (r : Restriction) (k : ℕ) (t : List ℕ) (old new : ClassesView) → IsLatePlace f v r k → IsKept f v r t → AreSamples f v r k old →
    IsSpread f v (slice_index v.order k) t old new → AreMoreSamples f v r k old new
spread_samples f v r k t old new is in_t have s = record {
  samples = record {
    classes = s.classes;
    made = record {
      found = λ a low h. record { below = low; root = h };
      old_root = λ a low h. old_root a low h (cases a);
      classes = λ a b low low' h same. classes a b low low' h same (cases a);
      inside = λ a low h. inside a low h (cases a);
      there = λ a low h. there a low h (cases a);
      together = λ a b low low' h h' same. together a b low low' h h' same (cases a);
    };
  };
  more = λ a h. more a h (cases a);
}
  where
    p : ℕ
    p = slice_index v.order k

    Together : ℕ → Type 0
    Together a = SameRoot v.domain (root_in v p) (slice_index t p) a

    cases : (a : ℕ) → Together a ⊎ (¬ Together a)
    cases a = together_or_apart v.domain (root_in v p) (slice_index t p) a (kept_present f v r k t is in_t)

    moved : (a : ℕ) → a < v.domain → Together a → IsMoved (IsKept f v r) (InFront v.order k) p a t (row_of new a)
    moved a low h = rw (s.rows a low h) (kept_step f v r k a t is in_t low h)

    has : (a : ℕ) → a < v.domain → Together a → HasSample v.domain new a
    has a low h = record { below = low; root = rw (s.roots a low h, ← h.roots) h.present }

    had : (a : ℕ) → ¬ Together a → HasSample v.domain new a → HasSample v.domain old a
    had a none h = record { below = h.below; root = rw (← (s.others a none).root) h.root }

    stays : (a : ℕ) → ¬ Together a → HasSample v.domain old a → HasSample v.domain new a
    stays a none h = record { below = h.below; root = rw (s.others a none).root h.root }

    too : (a b : ℕ) → Together a → SameRoot v.domain (root_in v p) a b → Together b
    too a b h same = root-trans v.domain (root_in v p) (slice_index t p) a b h same

    neither : (a b : ℕ) → ¬ Together a → SameRoot v.domain (root_in v p) a b → ¬ Together b
    neither a b none same h = none (root-trans v.domain (root_in v p) (slice_index t p) b a h (root-sym v.domain (root_in v p) a b same))

    old_root : (a : ℕ) → a < v.domain → HasSample v.domain new a → Together a ⊎ (¬ Together a) → root_of new a ≡ root_in v p a
    old_root a low h (inl with_t) = s.roots a low with_t
    old_root a low h (inr none) = (s.others a none).root ∙ have.made.old_root a low (had a none h)

    classes : (a b : ℕ) → a < v.domain → b < v.domain → HasSample v.domain new a → SameRoot v.domain (root_in v p) a b → Together a ⊎ (¬ Together a) → HasSample v.domain new b
    classes a b low low' h same (inl with_t) = has b low' (too a b with_t same)
    classes a b low low' h same (inr none) = stays b (neither a b none same) (have.made.classes a b low low' (had a none h) same)

    inside : (a : ℕ) → a < v.domain → HasSample v.domain new a → Together a ⊎ (¬ Together a) → IsKept f v r (row_of new a)
    inside a low h (inl with_t) = (moved a low with_t).inside
    inside a low h (inr none) = rw (s.others a none).row (have.made.inside a low (had a none h))

    there : (a : ℕ) → a < v.domain → HasSample v.domain new a → Together a ⊎ (¬ Together a) → slice_index (row_of new a) p ≡ a
    there a low h (inl with_t) = (moved a low with_t).there
    there a low h (inr none) = rw (s.others a none).row (have.made.there a low (had a none h))

    together : (a b : ℕ) → a < v.domain → b < v.domain → HasSample v.domain new a → HasSample v.domain new b → SameRoot v.domain (root_in v p) a b → Together a ⊎ (¬ Together a) →
        Agree (InFront v.order k) (row_of new a) (row_of new b)
    together a b low low' h h' same (inl with_t) = λ j g. (moved a low with_t).same j g ∙ sym ((moved b low' (too a b with_t same)).same j g)
    together a b low low' h h' same (inr none) =
        rw ((s.others a none).row, (s.others b (neither a b none same)).row) (have.made.together a b low low' (had a none h) (had b (neither a b none same) h') same)

    more : (a : ℕ) → HasSample v.domain old a → Together a ⊎ (¬ Together a) → HasSample v.domain new a
    more a h (inl with_t) = has a h.below with_t
    more a h (inr none) = stays a none h

-- with no root there is no sample
pub no_samples_are : (f : Operation) (v : TableView) (r : Restriction) (k : ℕ) (c : ClassesView) → AreMade (λ a row root. root ≡ v.domain) v.domain v.width v.domain c → AreSamples f v r k c
no_samples_are f v r k c made = record {
  classes = made_classes (λ a row root. root ≡ v.domain) v.domain v.width c made;
  made = record {
    found = λ a low h. absurd (none a low h);
    old_root = λ a low h. absurd (none a low h.root);
    classes = λ a b low low' h same. absurd (none a low h.root);
    inside = λ a low h. absurd (none a low h.root);
    there = λ a low h. absurd (none a low h.root);
    together = λ a b low low' h h' same. absurd (none a low h.root);
  };
}
  where
    none : (a : ℕ) → a < v.domain → root_of c a < v.domain → ⊥
    none a low h = omega (arith, h, made.each a low)

-- the same samples
pub more_none : (f : Operation) (v : TableView) (r : Restriction) (k : ℕ) (c : ClassesView) → AreSamples f v r k c → AreMoreSamples f v r k c c
more_none f v r k c have = record { samples = have; more = λ a h. h }

-- more and more
pub more_again : (f : Operation) (v : TableView) (r : Restriction) (k : ℕ) (one two three : ClassesView) → AreMoreSamples f v r k one two → AreMoreSamples f v r k two three → AreMoreSamples f v r k one three
more_again f v r k one two three h g = record { samples = g.samples; more = λ a had. g.more a (h.more a had) }

-- what the operation makes of samples is kept
pub image_kept : (f : Operation) (v : TableView) (r : Restriction) (k x y z : ℕ) (c : ClassesView) → IsLatePlace f v r k → AreSamples f v r k c →
    HasSample v.domain c x → HasSample v.domain c y → HasSample v.domain c z → IsKept f v r (image f v.width (row_of c x ∷ row_of c y ∷ row_of c z ∷ []))
image_kept f v r k x y z c is have hx hy hz =
    is.preserved.keeps (row_of c x) (row_of c y) (row_of c z) (have.made.inside x hx.below hx) (have.made.inside y hy.below hy) (have.made.inside z hz.below hz)

-- and has there the value of the operation
pub image_there : (f : Operation) (v : TableView) (r : Restriction) (k x y z : ℕ) (c : ClassesView) → IsLatePlace f v r k → AreSamples f v r k c →
    HasSample v.domain c x → HasSample v.domain c y → HasSample v.domain c z →
    slice_index (image f v.width (row_of c x ∷ row_of c y ∷ row_of c z ∷ [])) (slice_index v.order k) ≡ value_at f (x ∷ y ∷ z ∷ [])
image_there f v r k x y z c is have hx hy hz =
    value-image f v.width (row_of c x ∷ row_of c y ∷ row_of c z ∷ []) (slice_index v.order k) (is.sound.table.order.below k is.position)
    ∙ rw (have.made.there x hx.below hx, have.made.there y hy.below hy, have.made.there z hz.below hz) refl

-- samples are closed where none is missing
pub closed_none : (f : Operation) (v : TableView) (r : Restriction) (k : ℕ) (c : ClassesView) → IsLatePlace f v r k → ((x y z : ℕ) → ¬ IsMissing f c x y z) → AreClosed f c
closed_none f v r k c is none x y z hx hy hz = by (cases_lt (root_of c (value_at f (x ∷ y ∷ z ∷ []))) f.domain)
  where
    by : (root_of c (value_at f (x ∷ y ∷ z ∷ [])) < f.domain) ⊎ (f.domain ≤ root_of c (value_at f (x ∷ y ∷ z ∷ []))) → HasSample f.domain c (value_at f (x ∷ y ∷ z ∷ []))
    by (inl h) = record { below = value_at_below f x y z is.sound.operation hx.below hy.below hz.below; root = h }
    by (inr h) = absurd (none x y z (record { first = hx; second = hy; third = hz; none = λ g. omega (arith, g.root, h) }))

-- and where all are there
pub closed_all : (f : Operation) (v : TableView) (r : Restriction) (k : ℕ) (c : ClassesView) → IsLatePlace f v r k → AreSamples f v r k c → HaveAll v (slice_index v.order k) c → AreClosed f c
closed_all f v r k c is have all x y z hx hy hz =
    rw is.sound.same_domain at
    (rw (image_there f v r k x y z c is have (back hx) (back hy) (back hz)) at
    (all_sampled f v r k (image f v.width (row_of c x ∷ row_of c y ∷ row_of c z ∷ [])) c is all (image_kept f v r k x y z c is have (back hx) (back hy) (back hz))))
  where
    back : {a : ℕ} → HasSample f.domain c a → HasSample v.domain c a
    back h = rw is.sound.same_domain h

-- how many values have no sample
abbrev pub lacking : ℕ → ClassesView → ℕ
lacking d c = sum_below d (λ a. cond (ltb (root_of c a) d) 0 1)

sum_below-lt : (n j : ℕ) (f g : ℕ → ℕ) → ((k : ℕ) → k < n → f k ≤ g k) → j < n → f j < g j → sum_below n f < sum_below n g
sum_below-lt zero j f g le low less = absurd (omega (arith, low))
sum_below-lt (suc n) j f g le low less = by (cases_order j n) (λ before. sum_below-lt n j f g (λ k k_low. le k (omega (arith, k_low))) before less)
  where
    by : (j ≡ n) ⊎ ((j < n) ⊎ (n < j)) → (j < n → sum_below n f < sum_below n g) → sum_below n f + f n < sum_below n g + g n
    by (inl e) again = omega (arith, sum_below-le n f g (λ k k_low. le k (omega (arith, k_low))), rw e at less)
    by (inr (inl before)) again = omega (arith, again before, le n (omega arith))
    by (inr (inr after)) again = absurd (omega (arith, low, after))

-- fewer than before, where one more has
pub lacking_less : (d a : ℕ) (old new : ClassesView) → ((b : ℕ) → HasSample d old b → HasSample d new b) → ¬ HasSample d old a → HasSample d new a → lacking d new < lacking d old
lacking_less d a old new more none one =
    sum_below-lt d a (λ b. cond (ltb (root_of new b) d) 0 1) (λ b. cond (ltb (root_of old b) d) 0 1) (λ b low. most b low (ltb (root_of old b) d) refl) one.below
    (less (ltb (root_of new a) d) (ltb (root_of old a) d) (lt-ltb (root_of new a) d one.root) (λ e. none (record { below = one.below; root = ltb-true (root_of old a) d e })))
  where
    most : (b : ℕ) → b < d → (had : Bool) → ltb (root_of old b) d ≡ had → cond (ltb (root_of new b) d) 0 1 ≤ cond had 0 1
    most b low true e = rw (lt-ltb (root_of new b) d (more b (record { below = low; root = ltb-true (root_of old b) d e })).root) (omega arith)
    most b low false e = at_most (ltb (root_of new b) d)
      where
        at_most : (test : Bool) → cond test 0 1 ≤ 1
        at_most true = omega arith
        at_most false = omega arith

    less : (now before : Bool) → now ≡ true → (before ≡ true → ⊥) → cond now 0 1 < cond before 0 1
    less now true e none = absurd (none refl)
    less now false e none = rw e (omega arith)

-- what the operation makes of the rows of three values with a missing one
pub record IsMissedMember (f : Operation) (v : TableView) (r : Restriction) (k x y z : ℕ) (t : List ℕ) : Type 0 where
  pub inside : IsKept f v r t
  pub there : slice_index t (slice_index v.order k) ≡ value_at f (x ∷ y ∷ z ∷ [])

pub missed_member : (f : Operation) (v : TableView) (r : Restriction) (k x y z : ℕ) (c : ClassesView) (one two three : List ℕ) → IsLatePlace f v r k → AreSamples f v r k c → IsMissing f c x y z →
    one ≡ row_of c x → two ≡ row_of c y → three ≡ row_of c z → IsMissedMember f v r k x y z (image f (length one) (one ∷ two ∷ three ∷ []))
missed_member f v r k x y z c one two three is have missing is_one is_two is_three = rw (is_one, is_two, is_three, long)
    (record { inside = image_kept f v r k x y z c is have hx hy hz; there = image_there f v r k x y z c is have hx hy hz })
  where
    hx : HasSample v.domain c x
    hx = rw is.sound.same_domain missing.first

    hy : HasSample v.domain c y
    hy = rw is.sound.same_domain missing.second

    hz : HasSample v.domain c z
    hz = rw is.sound.same_domain missing.third

    long : length (row_of c x) ≡ v.width
    long = (have.classes.tuples x [] (rw have.classes.all_rows hx.below)).long

-- with it fewer values are missing
pub missed_less : (f : Operation) (v : TableView) (r : Restriction) (k x y z : ℕ) (t : List ℕ) (old new : ClassesView) → IsLatePlace f v r k → IsMissing f old x y z → IsMissedMember f v r k x y z t →
    AreMoreSamples f v r k old new → HasSample v.domain new (slice_index t (slice_index v.order k)) → lacking v.domain new < lacking v.domain old
missed_less f v r k x y z t old new is missing member more has =
    lacking_less v.domain (value_at f (x ∷ y ∷ z ∷ [])) old new more.more (λ h. missing.none (rw is.sound.same_domain at h)) (rw member.there at has)
