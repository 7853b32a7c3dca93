-- What is made of a table in a swap.
use Rattle.std.proofs.Common.{◌≡◌, ℕ, ◌<◌, ◌≤◌, ◌+◌, List, [], ◌∷◌, refl, ap, sym, subst, ◌∙◌, arith, Bool, true, false, eqb, cond, ◌⊎◌, inl, inr, min}
use Rattle.std.specs.Prelude.{◌≢◌}
use Rattle.std.proofs.Math.ListN.{set}
use Rattle.std.proofs.lemmas.List.{length-set, get_or-set_same, get_or-set_other}
use Rattle.std.proofs.lemmas.List.Elements.{All-set}
use Rattle.std.proofs.lemmas.Bool.{cases_order, cases_lt}
use Rattle.std.specs.Prelude.{slice_index}
use Rattle.pol_base.specs.Tuples.{IsTuple}
use Rattle.pol_optable.specs.Operations.{Operation, image}
use Rattle.pol_optable.specs.Tables.{IsOpTable}
use Rattle.pol_maltsev.specs.Orders.{InFront}
use Rattle.pol_maltsev.specs.Tables.{SameRoot, IsLeastOf, step}
use Rattle.pol_maltsev.specs.Swaps.{Sides, StayTogether, IsLateAt, IsEarlyAt, IsMadeX, IsMadeY, IsLed, LeadsTo, led}
use Rattle.pol_maltsev.specs.Views.{TableView, IsTableView, InTable, IsSoundTable, IsMade, AreMade, IsReplaced, IsSwappedView, ClassesView, AreClasses, no_classes, row_of, root_of, sides_at, row_in}
use Rattle.pol_maltsev.proofs.TupleLemmas.{value_below, image_tuple}
use Rattle.pol_maltsev.proofs.SwapLemmas.{IsSwap, leads, leads_back, finds}
use Rattle.pol_maltsev.proofs.OrderLemmas.{swap_of}
use Rattle.pol_maltsev.proofs.SetLemmas.{set_preserved, row_tuple}

-- what is known before a swap
pub before_swap : (f : Operation) (k : ℕ) (v : TableView) → IsSoundTable f v → k + 1 < v.width → IsSwap f v.width (InTable f v) (InFront v.order k) (sides_at v k)
before_swap f k v is low =
    swap_of f v.width k (InTable f v) v.order _ _ is.maltsev (set_preserved f v is.operation is.same_domain is.view) is.table low

-- a value that a member has stays with itself
pub stays_itself : (f : Operation) (k a : ℕ) (v : TableView) → IsSoundTable f v → k + 1 < v.width → a < f.domain → (sides_at v k).cx a < f.domain → StayTogether f.domain (sides_at v k) a a
stays_itself f k a v is low a_low there = from (before_swap f k v is low)
  where
    from : IsSwap f v.width (InTable f v) (InFront v.order k) (sides_at v k) → StayTogether f.domain (sides_at v k) a a
    from before = record {
      here = record { roots = refl; present = there };
      beyond = record { roots = refl; present = before.known_y.present ((sides_at v k).rx a) (before.known_x.inside a a_low there) };
    }

-- a step makes a tuple
pub step_tuple : (f : Operation) (v : TableView) (p value : ℕ) (t : List ℕ) → IsOpTable 3 f → v.domain ≡ f.domain → IsTableView v → p < v.width → IsTuple v.domain v.width t → value < v.domain →
    IsTuple v.domain v.width (step f v.width p (row_in v p) t value)
step_tuple f v p value t is same view low tuple small = by (eqb (slice_index t p) value)
  where
    from : slice_index t p < v.domain
    from = value_below v.domain v.width t p tuple low

    by : (b : Bool) → IsTuple v.domain v.width (cond b t (image f v.width (t ∷ row_in v p (slice_index t p) ∷ row_in v p value ∷ [])))
    by true = tuple
    by false = rw same (image_tuple f v.width t (row_in v p (slice_index t p)) (row_in v p value) is (rw same at tuple)
        (rw same at (row_tuple v p (slice_index t p) view low from)) (rw same at (row_tuple v p value view low small)))

-- the row and the root of a value at the place that comes later
pub late_made : (f : Operation) (k a root : ℕ) (v : TableView) → IsSoundTable f v → k + 1 < v.width → a < v.domain → IsLeastOf v.domain (StayTogether v.domain (sides_at v k) a) root →
    IsMade (IsLateAt f v.width (sides_at v k)) v.domain v.width a (step f v.width (sides_at v k).y (sides_at v k).ry ((sides_at v k).rx a) (slice_index ((sides_at v k).rx root) (sides_at v k).y)) root
late_made f k a root v is low a_low least = record {
  tuple = step_tuple f v (sides_at v k).y (slice_index ((sides_at v k).rx root) (sides_at v k).y) ((sides_at v k).rx a) is.operation is.same_domain is.view y_low
      (row_tuple v (sides_at v k).x a is.view x_low a_low) (value_below v.domain v.width ((sides_at v k).rx root) (sides_at v k).y (row_tuple v (sides_at v k).x root is.view x_low least.below) y_low);
  most = omega (arith, least.below);
  holds = record {
    gone = λ _. rw is.same_domain at least.holds.here.present;
    chosen = λ _. rw is.same_domain at least;
    moved = λ _. refl;
  };
}
  where
    x_low : (sides_at v k).x < v.width
    x_low = is.view.below k 0 (omega (arith, is.view.ordered, low))

    y_low : (sides_at v k).y < v.width
    y_low = is.view.below (k + 1) 0 (omega (arith, is.view.ordered, low))

-- and of a value that no member has
pub late_none : (f : Operation) (k a : ℕ) (v : TableView) → IsSoundTable f v → k + 1 < v.width → a < v.domain → (sides_at v k).cx a ≡ v.domain →
    IsMade (IsLateAt f v.width (sides_at v k)) v.domain v.width a ((sides_at v k).rx a) v.domain
late_none f k a v is low a_low none = record {
  tuple = row_tuple v (sides_at v k).x a is.view (is.view.below k 0 (omega (arith, is.view.ordered, low))) a_low;
  most = omega arith;
  holds = record {
    gone = λ h. absurd (omega (arith, h, is.same_domain));
    chosen = λ h. absurd (omega (arith, h, none, is.same_domain));
    moved = λ h. absurd (omega (arith, h, none, is.same_domain));
  };
}

-- a value that a member has leads to the root of its own class
pub leads_itself : (f : Operation) (k c : ℕ) (v : TableView) → IsSoundTable f v → k + 1 < v.width → c < f.domain → (sides_at v k).cy c < f.domain → LeadsTo f (sides_at v k) c ((sides_at v k).cy c)
leads_itself f k c v is low c_low there = from (before_swap f k v is low)
  where
    from : IsSwap f v.width (InTable f v) (InFront v.order k) (sides_at v k) → LeadsTo f (sides_at v k) c ((sides_at v k).cy c)
    from before =
        leads f v.width (InTable f v) (InFront v.order k) (sides_at v k) c c before c_low there (record {
          one = (sides_at v k).ry c;
          other = (sides_at v k).ry c;
          one_in = before.known_y.inside c c_low there;
          other_in = before.known_y.inside c c_low there;
          same = λ j h. refl;
          one_at = before.known_y.there c c_low there;
          other_at = before.known_y.there c c_low there;
        })

-- the least root that is led to, of the ways over the values below m
pub record IsLeastSoFar (f : Operation) (s : Sides) (c m least : ℕ) : Type 0 where
  pub leads : LeadsTo f s c least
  pub first : (q : ℕ) → q < m → SameRoot f.domain s.cx (slice_index (s.ry c) s.x) q → least ≤ s.cy (led f s c (slice_index (s.ry c) s.x) q)

-- over no value
pub least_none : (f : Operation) (k c : ℕ) (v : TableView) → IsSoundTable f v → k + 1 < v.width → c < v.domain → (sides_at v k).cy c < v.domain → IsLeastSoFar f (sides_at v k) c 0 ((sides_at v k).cy c)
least_none f k c v is low c_low there = record {
  leads = leads_itself f k c v is low (rw is.same_domain at c_low) (rw is.same_domain at there);
  first = λ q q_low h. absurd (omega (arith, q_low));
}

-- over all values
pub least_led : (f : Operation) (k c least : ℕ) (v : TableView) → IsSoundTable f v → k + 1 < v.width → c < v.domain → (sides_at v k).cy c < v.domain → IsLeastSoFar f (sides_at v k) c v.domain least → IsLeastOf v.domain (LeadsTo f (sides_at v k) c) least
least_led f k c least v is low c_low there so_far = rw is.same_domain (record {
  below = (leads_back f v.width (InTable f v) (InFront v.order k) (sides_at v k) c least (before_swap f k v is low) (rw is.same_domain at c_low) (rw is.same_domain at there) so_far.leads).low;
  holds = so_far.leads;
  first = λ r r_low h. rw h.root_is at (so_far.first h.to (rw is.same_domain h.below) h.may);
})

-- the way over one value more
pub least_more : (f : Operation) (s : Sides) (c q least : ℕ) → q < f.domain → SameRoot f.domain s.cx (slice_index (s.ry c) s.x) q → IsLeastSoFar f s c q least → IsLeastSoFar f s c (q + 1) (min least (s.cy (led f s c (slice_index (s.ry c) s.x) q)))
least_more f s c q least q_low may so_far = record { leads = by (cases_lt least r); first = λ u u_low h. at u u_low h (cases_order u q) }
  where
    r : ℕ
    r = s.cy (led f s c (slice_index (s.ry c) s.x) q)

    by : (least < r) ⊎ (r ≤ least) → LeadsTo f s c (min least r)
    by (inl e) = let same : min least r ≡ least = omega (arith, e) in rw same so_far.leads
    by (inr e) = let same : min least r ≡ r = omega (arith, e) in rw same (record { to = q; below = q_low; may = may; root_is = refl })

    at : (u : ℕ) → u < q + 1 → SameRoot f.domain s.cx (slice_index (s.ry c) s.x) u → (u ≡ q) ⊎ ((u < q) ⊎ (q < u)) → min least r ≤ s.cy (led f s c (slice_index (s.ry c) s.x) u)
    at u u_low h (inl e) = rw e (omega arith)
    at u u_low h (inr (inl e)) = omega (arith, so_far.first u e h)
    at u u_low h (inr (inr e)) = absurd (omega (arith, e, u_low))

-- and no way over it
pub least_stays : (f : Operation) (s : Sides) (c q least : ℕ) → ¬ SameRoot f.domain s.cx (slice_index (s.ry c) s.x) q → IsLeastSoFar f s c q least → IsLeastSoFar f s c (q + 1) least
least_stays f s c q least none so_far = record { leads = so_far.leads; first = λ u u_low h. at u u_low h (cases_order u q) }
  where
    at : (u : ℕ) → u < q + 1 → SameRoot f.domain s.cx (slice_index (s.ry c) s.x) u → (u ≡ q) ⊎ ((u < q) ⊎ (q < u)) → least ≤ s.cy (led f s c (slice_index (s.ry c) s.x) u)
    at u u_low h (inl e) = absurd (none (rw e at h))
    at u u_low h (inr (inl e)) = so_far.first u e h
    at u u_low h (inr (inr e)) = absurd (omega (arith, e, u_low))

-- the row and the root of a value at the place that comes earlier
pub early_made : (f : Operation) (k c root : ℕ) (v : TableView) (row : List ℕ) → IsSoundTable f v → k + 1 < v.width → c < v.domain → (sides_at v k).cy c < v.domain → IsTuple v.domain v.width row →
    IsLeastOf v.domain (LeadsTo f (sides_at v k) c) root → (SameRoot v.domain (sides_at v k).cy root c → row ≡ (sides_at v k).ry c) → (¬ SameRoot v.domain (sides_at v k).cy root c → IsLed f v.width (sides_at v k) root c row) →
    IsMade (IsEarlyAt f v.width (sides_at v k)) v.domain v.width c row root
early_made f k c root v row is low c_low there tuple least kept moved = record {
  tuple = tuple;
  most = omega (arith, least.below);
  holds = record {
    gone = λ _. rw is.same_domain at there;
    chosen = λ _. rw is.same_domain at least;
    kept = λ _ same. kept (rw is.same_domain same);
    moved = λ _ none. moved (λ same. none (rw is.same_domain at same));
  };
}

-- and of a value that no member has
pub early_none : (f : Operation) (k c : ℕ) (v : TableView) → IsSoundTable f v → k + 1 < v.width → c < v.domain → (sides_at v k).cy c ≡ v.domain →
    IsMade (IsEarlyAt f v.width (sides_at v k)) v.domain v.width c ((sides_at v k).ry c) v.domain
early_none f k c v is low c_low none = record {
  tuple = row_tuple v (sides_at v k).y c is.view (is.view.below (k + 1) 0 (omega (arith, is.view.ordered, low))) c_low;
  most = omega arith;
  holds = record {
    gone = λ h. absurd (omega (arith, h, is.same_domain));
    chosen = λ h. absurd (omega (arith, h, none, is.same_domain));
    kept = λ h. absurd (omega (arith, h, none, is.same_domain));
    moved = λ h. absurd (omega (arith, h, none, is.same_domain));
  };
}

-- a least root leads back
pub leads_from_root : (f : Operation) (k c root : ℕ) (v : TableView) → IsSoundTable f v → k + 1 < v.width → c < v.domain → (sides_at v k).cy c < v.domain → IsLeastOf v.domain (LeadsTo f (sides_at v k) c) root →
    LeadsTo f (sides_at v k) root ((sides_at v k).cy c)
leads_from_root f k c root v is low c_low there least =
    finds f v.width (InTable f v) (InFront v.order k) (sides_at v k) c root (before_swap f k v is low) (rw is.same_domain at c_low) (rw is.same_domain at there) least.holds

-- what the classes say that were made value by value
made_late : (f : Operation) (n : ℕ) (s : Sides) (d : ℕ) (c : ClassesView) → d ≡ f.domain → AreMade (IsLateAt f n s) d n d c → IsMadeX f n s (row_of c) (root_of c)
made_late f n s d c same made = record {
  gone = λ a low h. (made.each a (rw same low)).gone h;
  chosen = λ a low h. (made.each a (rw same low)).chosen h;
  moved = λ a low h. (made.each a (rw same low)).moved h;
}

made_early : (f : Operation) (n : ℕ) (s : Sides) (d : ℕ) (c : ClassesView) → d ≡ f.domain → AreMade (IsEarlyAt f n s) d n d c → IsMadeY f n s (row_of c) (root_of c)
made_early f n s d c same made = record {
  gone = λ a low h. (made.each a (rw same low)).gone h;
  chosen = λ a low h. (made.each a (rw same low)).chosen h;
  kept = λ a low h. (made.each a (rw same low)).kept h;
  moved = λ a low h. (made.each a (rw same low)).moved h;
}

-- the table after a swap
pub swapped_view : (f : Operation) (k : ℕ) (late early : ClassesView) (old new : TableView) → IsSoundTable f old → AreMade (IsLateAt f old.width (sides_at old k)) old.domain old.width old.domain late → AreMade (IsEarlyAt f old.width (sides_at old k)) old.domain old.width old.domain early →
    IsReplaced k late early old new → IsSwappedView f k old new
swapped_view f k late early old new is made made' r = record {
  order = r.order;
  at_x = subst (λ c. IsMadeX f old.width (sides_at old k) (row_of c) (root_of c)) (sym r.late_is) (made_late f old.width (sides_at old k) old.domain late is.same_domain made);
  at_y = subst (λ c. IsMadeY f old.width (sides_at old k) (row_of c) (root_of c)) (sym r.early_is) (made_early f old.width (sides_at old k) old.domain early is.same_domain made');
  same_rows = λ p a _ _ e e'. ap (λ c. row_of c a) (r.others p e e');
  same_roots = λ p a _ _ e e'. ap (λ c. root_of c a) (r.others p e e');
}

-- the table with classes in the place of those at positions k and k + 1, which change their order
abbrev pub replaced : TableView → ℕ → ClassesView → ClassesView → TableView
replaced v k late early = record {
  domain = v.domain;
  width = v.width;
  order = set (set v.order k (slice_index v.order (k + 1))) (k + 1) (slice_index v.order k);
  places = set (set v.places (slice_index v.order k) late) (slice_index v.order (k + 1)) early;
}

pub replaced_view : (v : TableView) (k : ℕ) (late early : ClassesView) → IsTableView v → k + 1 < v.width → AreClasses v.domain v.width late → AreClasses v.domain v.width early → IsTableView (replaced v k late early)
replaced_view v k late early view low is is' = record {
  domain_is = view.domain_is;
  some_places = view.some_places;
  few_places = view.few_places;
  ordered = length-set (set v.order k y) (k + 1) x ∙ length-set v.order k y ∙ view.ordered;
  below = All-set (λ p. p < v.width) (set v.order k y) (k + 1) x x_low (All-set (λ p. p < v.width) v.order k y y_low view.below);
  all_places = length-set (set v.places x late) y early ∙ length-set v.places x late ∙ view.all_places;
  classes = All-set (AreClasses v.domain v.width) (set v.places x late) y early is' (All-set (AreClasses v.domain v.width) v.places x late is view.classes);
}
  where
    x : ℕ
    x = slice_index v.order k

    y : ℕ
    y = slice_index v.order (k + 1)

    x_low : x < v.width
    x_low = view.below k 0 (omega (arith, view.ordered, low))

    y_low : y < v.width
    y_low = view.below (k + 1) 0 (omega (arith, view.ordered, low))

pub replaced_is : (v : TableView) (k : ℕ) (late early : ClassesView) → IsTableView v → k + 1 < v.width → slice_index v.order k ≢ slice_index v.order (k + 1) → IsReplaced k late early v (replaced v k late early)
replaced_is v k late early view low apart = record {
  shape = record { domain = refl; width = refl };
  order = record {
    long = length-set (set v.order k y) (k + 1) x ∙ length-set v.order k y;
    first = get_or-set_other (set v.order k y) (k + 1) k x 0 (λ e. absurd (omega (arith, e))) ∙ get_or-set_same v.order k y 0 (omega (arith, view.ordered, low));
    second = get_or-set_same (set v.order k y) (k + 1) x 0 (omega (arith, length-set v.order k y, view.ordered, low));
    others = λ i e e'. get_or-set_other (set v.order k y) (k + 1) i x 0 e' ∙ get_or-set_other v.order k i y 0 e;
  };
  late_is = get_or-set_other (set v.places x late) y x early no_classes apart ∙ get_or-set_same v.places x late no_classes (omega (arith, view.all_places, x_low));
  early_is = get_or-set_same (set v.places x late) y early no_classes (omega (arith, length-set v.places x late, view.all_places, y_low));
  others = λ p e e'. get_or-set_other (set v.places x late) y p early no_classes e' ∙ get_or-set_other v.places x p late no_classes e;
}
  where
    x : ℕ
    x = slice_index v.order k

    y : ℕ
    y = slice_index v.order (k + 1)

    x_low : x < v.width
    x_low = view.below k 0 (omega (arith, view.ordered, low))

    y_low : y < v.width
    y_low = view.below (k + 1) 0 (omega (arith, view.ordered, low))
