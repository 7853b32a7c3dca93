-- The order of the lists that tuples read, and the lists that are read at one place more.
use Rattle.std.proofs.Common.{◌≡◌, ℕ, zero, suc, ◌<◌, ◌≤◌, ◌+◌, ◌-◌, List, [], ◌∷◌, ◌++◌, length, length-append, take, get_or, AllPairs, Contains, arith, refl, sym, ap, ◌∙◌, ◌⊎◌, inl, inr}
use Rattle.std.specs.Prelude.{slice_index}
use Rattle.std.proofs.lemmas.Bool.{cases_lt, cases_order}
use Rattle.std.proofs.lemmas.List.{get_or-map, length-map, get_or-take, length-take-le, take_more, take_all, map_push, map-append, get_or_append_left, get_or-append_right, get_or_default}
use Rattle.std.proofs.lemmas.List.Elements.{All-nil, All-push, All-append, All-weaker, Contains-get_or, Contains-append_left, Contains-append_right, Contains-append_cases, Contains-push}
use Rattle.std.proofs.lemmas.List.Quantifiers.{all_pairs_push}
use Rattle.pol_base.specs.Tuples.{IsBefore}
use Rattle.pol_base.proofs.MemberLemmas.{AllPairs-nil, Contains-here, Contains-cons_cases, Contains-nil}
use Rattle.pol_relation.specs.Instances.{read_at}
use Rattle.pol_maltsev.specs.Compacts.{readings, AreReached}
use Rattle.pol_maltsev.specs.Orders.{InFront}
use Rattle.pol_maltsev.specs.Tables.{Agree, Also, IsMoved}
use Rattle.pol_maltsev.specs.Restrictions.{IsCovered, IsRestricted}
use Rattle.pol_maltsev.proofs.TableLemmas.{same_reading}
use Rattle.pol_maltsev.proofs.OrderLemmas.{front_more}
use Rattle.pol_maltsev.proofs.ReadingLemmas.{read_value}

-- ---- the order of lists

-- the first of the places where the tuples differ
pub record DifferAt (t u places : List ℕ) : Type 0 where
  pub index : ℕ
  pub early : index < length places
  pub same : (i : ℕ) → i < index → slice_index t (slice_index places i) ≡ slice_index u (slice_index places i)
  pub less : slice_index t (slice_index places index) < slice_index u (slice_index places index)

pub before_at : (t u places : List ℕ) (k : ℕ) → k < length places → ((i : ℕ) → i < k → slice_index t (slice_index places i) ≡ slice_index u (slice_index places i)) →
    slice_index t (slice_index places k) < slice_index u (slice_index places k) → IsBefore (read_at t places) (read_at u places)
before_at t u [] k low same less = absurd (omega (arith, low))
before_at t u (p ∷ ps) zero low same less = inl less
before_at t u (p ∷ ps) (suc k) low same less = inr (same 0 (omega arith), before_at t u ps k (omega (arith, low)) (λ i i_low. same (suc i) (omega (arith, i_low))) less)

pub differ_at : (t u places : List ℕ) → IsBefore (read_at t places) (read_at u places) → DifferAt t u places
differ_at t u [] before = absurd before
differ_at t u (p ∷ ps) (inl less) = record { index = 0; early = omega arith; same = λ i low. absurd (omega (arith, low)); less = less }
differ_at t u (p ∷ ps) (inr rest) = from (differ_at t u ps rest.1)
  where
    from : DifferAt t u ps → DifferAt t u (p ∷ ps)
    from d = record { index = suc d.index; early = omega (arith, d.early); same = λ i low. at i low; less = d.less }
      where
        at : (i : ℕ) → i < suc d.index → slice_index t (slice_index (p ∷ ps) i) ≡ slice_index u (slice_index (p ∷ ps) i)
        at zero low = rest.0
        at (suc i) low = d.same i (omega (arith, low))

-- ---- the first places of an order

-- tuples that read the same at the first places agree there
pub agree_of_reading : (ord : List ℕ) (k : ℕ) (t u : List ℕ) → k ≤ length ord → read_at t (take k ord) ≡ read_at u (take k ord) → Agree (InFront ord k) t u
agree_of_reading ord k t u few same j h =
    rw (← h.place)
    (ap (slice_index t) (sym (get_or-take k ord h.index 0 h.early))
    ∙ sym (read_value t (take k ord) h.index low)
    ∙ ap (λ w. slice_index w h.index) same
    ∙ read_value u (take k ord) h.index low
    ∙ ap (slice_index u) (get_or-take k ord h.index 0 h.early))
  where
    low : h.index < length (take k ord)
    low = rw (length-take-le k ord few) h.early

-- and the other way
pub reading_of_agree : (ord : List ℕ) (k : ℕ) (t u : List ℕ) → k ≤ length ord → Agree (InFront ord k) t u → read_at t (take k ord) ≡ read_at u (take k ord)
reading_of_agree ord k t u few agree = same_reading t u (take k ord) (λ i low. at i (rw (length-take-le k ord few) at low))
  where
    at : (i : ℕ) → i < k → slice_index t (slice_index (take k ord) i) ≡ slice_index u (slice_index (take k ord) i)
    at i low = rw (get_or-take k ord i 0 low) (agree (slice_index ord i) (record { index = i; early = low; place = refl }))

-- tuples that agree with two lists at the first k places come in the order of these
pub before_longer : (ord : List ℕ) (k : ℕ) (t u x y : List ℕ) → k < length ord → IsBefore (read_at t (take k ord)) (read_at u (take k ord)) → Agree (InFront ord k) t x → Agree (InFront ord k) u y →
    IsBefore (read_at x (take (k + 1) ord)) (read_at y (take (k + 1) ord))
before_longer ord k t u x y low before like_t like_u = from (differ_at t u (take k ord) before)
  where
    from : DifferAt t u (take k ord) → IsBefore (read_at x (take (k + 1) ord)) (read_at y (take (k + 1) ord))
    from d = before_at x y (take (k + 1) ord) d.index (rw (length-take-le (k + 1) ord (omega (arith, low))) (omega (arith, early))) (λ i less. same i less) less
      where
        early : d.index < k
        early = rw (length-take-le k ord (omega (arith, low))) at d.early

        like : (i : ℕ) → i < k → (slice_index t (slice_index ord i) ≡ slice_index x (slice_index ord i)) × (slice_index u (slice_index ord i) ≡ slice_index y (slice_index ord i))
        like i i_low = (like_t (slice_index ord i) (record { index = i; early = i_low; place = refl }), like_u (slice_index ord i) (record { index = i; early = i_low; place = refl }))

        same : (i : ℕ) → i < d.index → slice_index x (slice_index (take (k + 1) ord) i) ≡ slice_index y (slice_index (take (k + 1) ord) i)
        same i less =
            let here : i < k = omega (arith, less, early) in
            let old : slice_index t (slice_index ord i) ≡ slice_index u (slice_index ord i) = rw (get_or-take k ord i 0 here) at (d.same i less) in
            rw (get_or-take (k + 1) ord i 0 (omega (arith, here))) (sym (like i here).0 ∙ old ∙ (like i here).1)

        less : slice_index x (slice_index (take (k + 1) ord) d.index) < slice_index y (slice_index (take (k + 1) ord) d.index)
        less =
            let old : slice_index t (slice_index ord d.index) < slice_index u (slice_index ord d.index) = rw (get_or-take k ord d.index 0 early) at d.less in
            rw (get_or-take (k + 1) ord d.index 0 (omega (arith, early)), ← (like d.index early).0, ← (like d.index early).1) old

-- ---- the members that agree with one at the first k places

-- a member that agrees with the one is one of those that are restricted by it, and the other way
like_one : (T : List ℕ → Type 0) (ord : List ℕ) (k : ℕ) (t u : List ℕ) → T u → Agree (InFront ord k) t u → IsRestricted T (t ∷ []) ord k u
like_one T ord k t u in_u same = record { inside = in_u; covered = record { member = t; listed = Contains-here t []; same = same } }

pub one_like : (T : List ℕ → Type 0) (ord : List ℕ) (k : ℕ) (t u : List ℕ) → IsRestricted T (t ∷ []) ord k u → Agree (InFront ord k) t u
one_like T ord k t u h j g = from (Contains-cons_cases t h.covered.member [] h.covered.listed)
  where
    from : (t ≡ h.covered.member) ⊎ Contains [] h.covered.member → slice_index t j ≡ slice_index u j
    from (inl same) = ap (λ r. slice_index r j) same ∙ h.covered.same j g
    from (inr none) = absurd (Contains-nil h.covered.member none)

-- one that has a value below v at the next place
pub record IsBelow (T : List ℕ → Type 0) (ord : List ℕ) (k : ℕ) (t : List ℕ) (v : ℕ) (u : List ℕ) : Type 0 where
  pub like : IsRestricted T (t ∷ []) ord k u
  pub below : slice_index u (slice_index ord k) < v

below_more : (T : List ℕ → Type 0) (ord : List ℕ) (k : ℕ) (t : List ℕ) (v : ℕ) (u : List ℕ) → IsBelow T ord k t v u → IsBelow T ord k t (v + 1) u
below_more T ord k t v u h = record { like = h.like; below = omega (arith, h.below) }

-- one for each of the values below v
abbrev pub AreBranches : (List ℕ → Type 0) → List ℕ → ℕ → List ℕ → ℕ → List (List ℕ) → Type 0
AreBranches T ord k t v = AreReached (IsBelow T ord k t v) (take (k + 1) ord)

pub branches_none : (T : List ℕ → Type 0) (ord : List ℕ) (k : ℕ) (t : List ℕ) → AreBranches T ord k t 0 []
branches_none T ord k t = record {
  members = All-nil (IsBelow T ord k t 0);
  each = λ u h. absurd (omega (arith, h.below));
  ascending = AllPairs-nil IsBefore;
}

-- one value more, which no such member has
pub branches_same : (T : List ℕ → Type 0) (ord : List ℕ) (k : ℕ) (t : List ℕ) (v : ℕ) (rows : List (List ℕ)) → AreBranches T ord k t v rows → ((u : List ℕ) → ¬ IsMoved T (InFront ord k) (slice_index ord k) v t u) →
    AreBranches T ord k t (v + 1) rows
branches_same T ord k t v rows so_far none = record {
  members = All-weaker (IsBelow T ord k t v) (IsBelow T ord k t (v + 1)) (below_more T ord k t v) rows so_far.members;
  each = λ u h. at u h (cases_order (slice_index u (slice_index ord k)) v);
  ascending = so_far.ascending;
}
  where
    at : (u : List ℕ) → IsBelow T ord k t (v + 1) u → (slice_index u (slice_index ord k) ≡ v) ⊎ ((slice_index u (slice_index ord k) < v) ⊎ (v < slice_index u (slice_index ord k))) →
        Contains (readings (take (k + 1) ord) rows) (read_at u (take (k + 1) ord))
    at u h (inl e) = absurd (none u (record { inside = h.like.inside; same = λ j g. sym (one_like T ord k t u h.like j g); there = e }))
    at u h (inr (inl less)) = so_far.each u (record { like = h.like; below = less })
    at u h (inr (inr more)) = absurd (omega (arith, h.below, more))

-- or one that a member has
pub branches_more : (T : List ℕ → Type 0) (ord : List ℕ) (k : ℕ) (t : List ℕ) (v : ℕ) (rows : List (List ℕ)) (m : List ℕ) → k < length ord → AreBranches T ord k t v rows → IsMoved T (InFront ord k) (slice_index ord k) v t m →
    AreBranches T ord k t (v + 1) (rows ++ m ∷ [])
branches_more T ord k t v rows m low so_far moved = record {
  members = All-push (IsBelow T ord k t (v + 1)) rows m (All-weaker (IsBelow T ord k t v) (IsBelow T ord k t (v + 1)) (below_more T ord k t v) rows so_far.members)
      (record { like = like_one T ord k t m moved.inside near; below = rw moved.there (omega arith) });
  each = λ u h. rw longer (at u h (cases_order (slice_index u (slice_index ord k)) v));
  ascending = rw longer (all_pairs_push IsBefore (readings (take (k + 1) ord) rows) (read_at m (take (k + 1) ord)) so_far.ascending (λ i d i_low. last i d (rw (length-map rows (λ row. read_at row (take (k + 1) ord))) at i_low)));
}
  where
    Read : List ℕ → List ℕ
    Read u = read_at u (take (k + 1) ord)

    near : Agree (InFront ord k) t m
    near j g = sym (moved.same j g)

    longer : readings (take (k + 1) ord) (rows ++ m ∷ []) ≡ readings (take (k + 1) ord) rows ++ Read m ∷ []
    longer = map_push (λ row. read_at row (take (k + 1) ord)) rows m

    enough : k + 1 ≤ length ord
    enough = omega (arith, low)

    -- a member with the value reads the same at the places
    same : (u : List ℕ) → IsBelow T ord k t (v + 1) u → slice_index u (slice_index ord k) ≡ v → Read m ≡ Read u
    same u h e = reading_of_agree ord (k + 1) m u enough (λ j g. by j (front_more ord k j g))
      where
        by : (j : ℕ) → Also (InFront ord k) (slice_index ord k) j → slice_index m j ≡ slice_index u j
        by j (inl g) = moved.same j g ∙ one_like T ord k t u h.like j g
        by j (inr here) = rw here (moved.there ∙ sym e)

    at : (u : List ℕ) → IsBelow T ord k t (v + 1) u → (slice_index u (slice_index ord k) ≡ v) ⊎ ((slice_index u (slice_index ord k) < v) ⊎ (v < slice_index u (slice_index ord k))) →
        Contains (readings (take (k + 1) ord) rows ++ Read m ∷ []) (Read u)
    at u h (inl e) = rw (← same u h e) (Contains-push (readings (take (k + 1) ord) rows) (Read m))
    at u h (inr (inl less)) = Contains-append_left (readings (take (k + 1) ord) rows) (Read m ∷ []) (Read u) (so_far.each u (record { like = h.like; below = less }))
    at u h (inr (inr more)) = absurd (omega (arith, h.below, more))

    -- and those before read less
    last : (i : ℕ) (d : List ℕ) → i < length rows → IsBefore (get_or (readings (take (k + 1) ord) rows) i d) (Read m)
    last i d i_low = rw (get_or-map (λ row. read_at row (take (k + 1) ord)) rows i [] d i_low) (from (get_or rows i []) (so_far.members i [] i_low))
      where
        from : (x : List ℕ) → IsBelow T ord k t v x → IsBefore (Read x) (Read m)
        from x h = before_at x m (take (k + 1) ord) k (rw (length-take-le (k + 1) ord enough) (omega arith)) (λ j less. agree j less) less
          where
            agree : (j : ℕ) → j < k → slice_index x (slice_index (take (k + 1) ord) j) ≡ slice_index m (slice_index (take (k + 1) ord) j)
            agree j less =
                let front : InFront ord k (slice_index ord j) = record { index = j; early = less; place = refl } in
                rw (get_or-take (k + 1) ord j 0 (omega (arith, less))) (sym (one_like T ord k t x h.like (slice_index ord j) front) ∙ near (slice_index ord j) front)

            less : slice_index x (slice_index (take (k + 1) ord) k) < slice_index m (slice_index (take (k + 1) ord) k)
            less = rw (get_or-take (k + 1) ord k 0 (omega arith), moved.there) h.below

-- of all values
pub branches_all : (T : List ℕ → Type 0) (ord : List ℕ) (k : ℕ) (t : List ℕ) (v : ℕ) (rows : List (List ℕ)) → AreBranches T ord k t v rows → ((u : List ℕ) → T u → slice_index u (slice_index ord k) < v) →
    AreReached (IsRestricted T (t ∷ []) ord k) (take (k + 1) ord) rows
branches_all T ord k t v rows so_far below = record {
  members = All-weaker (IsBelow T ord k t v) (IsRestricted T (t ∷ []) ord k) (λ u h. h.like) rows so_far.members;
  each = λ u h. so_far.each u (record { like = h; below = below u h.inside });
  ascending = so_far.ascending;
}

-- ---- the members that agree with one of a list there

-- pairs of two lists, one behind the other
all_pairs_append : {X : Type 0} (R : X → X → Type 0) (xs ys : List X) → AllPairs R xs → AllPairs R ys → ((i j : ℕ) (d : X) → i < length xs → j < length ys → R (get_or xs i d) (get_or ys j d)) → AllPairs R (xs ++ ys)
all_pairs_append {X = X} R xs ys first second across i j d less low = at (cases_lt i (length xs)) (cases_lt j (length xs))
  where
    left : (k : ℕ) → k < length xs → get_or (xs ++ ys) k d ≡ get_or xs k d
    left k k_low = get_or_append_left xs ys d k k_low

    right : (k : ℕ) → length xs ≤ k → get_or (xs ++ ys) k d ≡ get_or ys (k - length xs) d
    right k high = get_or-append_right xs ys (length xs) k d refl high

    within : length xs ≤ j → j - length xs < length ys
    within high = omega (arith, high, low, length-append xs ys)

    at : (i < length xs) ⊎ (length xs ≤ i) → (j < length xs) ⊎ (length xs ≤ j) → R (get_or (xs ++ ys) i d) (get_or (xs ++ ys) j d)
    at (inl i_low) (inl j_low) = rw (left i i_low, left j j_low) (first i j d less j_low)
    at (inl i_low) (inr j_high) = rw (left i i_low, right j j_high) (across i (j - length xs) d i_low (within j_high))
    at (inr i_high) (inl j_low) = absurd (omega (arith, less, i_high, j_low))
    at (inr i_high) (inr j_high) = rw (right i i_high, right j j_high) (second (i - length xs) (j - length xs) d (omega (arith, less, i_high)) (within j_high))

-- of no list
pub longer_none : (T : List ℕ → Type 0) (ord : List ℕ) (k : ℕ) → AreReached (IsRestricted T [] ord k) (take (k + 1) ord) []
longer_none T ord k = record {
  members = All-nil (IsRestricted T [] ord k);
  each = λ u h. absurd (Contains-nil h.covered.member h.covered.listed);
  ascending = AllPairs-nil IsBefore;
}

-- a member that is restricted by some rows is restricted by more
restricted_left : (T : List ℕ → Type 0) (ord : List ℕ) (k : ℕ) (xs ys : List (List ℕ)) (u : List ℕ) → IsRestricted T xs ord k u → IsRestricted T (xs ++ ys) ord k u
restricted_left T ord k xs ys u h = record { inside = h.inside; covered = record { member = h.covered.member; listed = Contains-append_left xs ys h.covered.member h.covered.listed; same = h.covered.same } }

restricted_right : (T : List ℕ → Type 0) (ord : List ℕ) (k : ℕ) (xs ys : List (List ℕ)) (u : List ℕ) → IsRestricted T ys ord k u → IsRestricted T (xs ++ ys) ord k u
restricted_right T ord k xs ys u h = record { inside = h.inside; covered = record { member = h.covered.member; listed = Contains-append_right xs ys h.covered.member h.covered.listed; same = h.covered.same } }

-- those of some lists, and those of one behind them
reached_both : (T : List ℕ → Type 0) (ord : List ℕ) (k : ℕ) (front : List (List ℕ)) (t : List ℕ) (rows more : List (List ℕ)) → k < length ord → ((r : List ℕ) → Contains front r → IsBefore (read_at r (take k ord)) (read_at t (take k ord))) →
    AreReached (IsRestricted T front ord k) (take (k + 1) ord) rows → AreReached (IsRestricted T (t ∷ []) ord k) (take (k + 1) ord) more → AreReached (IsRestricted T (front ++ t ∷ []) ord k) (take (k + 1) ord) (rows ++ more)
reached_both T ord k front t rows more low before first second = record {
  members = All-append (IsRestricted T (front ++ t ∷ []) ord k) rows more
      (All-weaker (IsRestricted T front ord k) (IsRestricted T (front ++ t ∷ []) ord k) (restricted_left T ord k front (t ∷ [])) rows first.members)
      (All-weaker (IsRestricted T (t ∷ []) ord k) (IsRestricted T (front ++ t ∷ []) ord k) (restricted_right T ord k front (t ∷ [])) more second.members);
  each = λ u h. rw longer (at u h (Contains-append_cases front (t ∷ []) h.covered.member h.covered.listed));
  ascending = rw longer (all_pairs_append IsBefore (readings Q rows) (readings Q more) first.ascending second.ascending
      (λ i j d i_low j_low. across i j d (rw (length-map rows Read) at i_low) (rw (length-map more Read) at j_low)));
}
  where
    Q : List ℕ
    Q = take (k + 1) ord

    Read : List ℕ → List ℕ
    Read row = read_at row (take (k + 1) ord)

    longer : readings Q (rows ++ more) ≡ readings Q rows ++ readings Q more
    longer = map-append Read rows more

    at : (u : List ℕ) → (h : IsRestricted T (front ++ t ∷ []) ord k u) → Contains front h.covered.member ⊎ Contains (t ∷ []) h.covered.member → Contains (readings Q rows ++ readings Q more) (read_at u Q)
    at u h (inl there) = Contains-append_left (readings Q rows) (readings Q more) (read_at u Q) (first.each u (record { inside = h.inside; covered = record { member = h.covered.member; listed = there; same = h.covered.same } }))
    at u h (inr here) = Contains-append_right (readings Q rows) (readings Q more) (read_at u Q) (second.each u (record { inside = h.inside; covered = record { member = h.covered.member; listed = here; same = h.covered.same } }))

    across : (i j : ℕ) (d : List ℕ) → i < length rows → j < length more → IsBefore (get_or (readings Q rows) i d) (get_or (readings Q more) j d)
    across i j d i_low j_low = rw (get_or-map Read rows i [] d i_low, get_or-map Read more j [] d j_low) (from (get_or rows i []) (get_or more j []) (first.members i [] i_low) (second.members j [] j_low))
      where
        from : (x y : List ℕ) → IsRestricted T front ord k x → IsRestricted T (t ∷ []) ord k y → IsBefore (Read x) (Read y)
        from x y h g = before_longer ord k h.covered.member t x y low (before h.covered.member h.covered.listed) h.covered.same (one_like T ord k t y g)

-- one list more
pub longer_more : (T : List ℕ → Type 0) (ord : List ℕ) (k i : ℕ) (shorter : List (List ℕ)) (t : List ℕ) (rows more : List (List ℕ)) → k < length ord → i < length shorter → t ≡ get_or shorter i [] → AreReached T (take k ord) shorter →
    AreReached (IsRestricted T (take i shorter) ord k) (take (k + 1) ord) rows → AreReached (IsRestricted T (t ∷ []) ord k) (take (k + 1) ord) more →
    AreReached (IsRestricted T (take (i + 1) shorter) ord k) (take (k + 1) ord) (rows ++ more)
longer_more T ord k i shorter t rows more low i_low is old first second =
    rw (take_more shorter i [] i_low, ← is) (reached_both T ord k (take i shorter) t rows more low (λ r h. rw is (before r h)) first second)
  where
    Read : List ℕ → List ℕ
    Read row = read_at row (take k ord)

    before : (r : List ℕ) → Contains (take i shorter) r → IsBefore (Read r) (Read (get_or shorter i []))
    before r h =
        let e_low : h.0 < i = omega (arith, h.1, length-take-le i shorter (omega (arith, i_low))) in
        let here : get_or shorter h.0 [] ≡ r = get_or_default shorter h.0 [] r (omega (arith, e_low, i_low)) ∙ sym (get_or-take i shorter h.0 r e_low) ∙ h.2 in
        rw (← here)
        (rw (get_or-map Read shorter h.0 [] [] (omega (arith, e_low, i_low)), get_or-map Read shorter i [] [] i_low) at (old.ascending h.0 i [] e_low (rw (length-map shorter Read) i_low)))

-- of all lists
pub longer_all : (T : List ℕ → Type 0) (ord : List ℕ) (k i : ℕ) (shorter rows : List (List ℕ)) → k < length ord → length shorter ≤ i → AreReached T (take k ord) shorter → AreReached (IsRestricted T (take i shorter) ord k) (take (k + 1) ord) rows →
    AreReached T (take (k + 1) ord) rows
longer_all T ord k i shorter rows low high old so_far = from (rw (take_all i shorter high) at so_far)
  where
    covered : (u : List ℕ) → Contains (readings (take k ord) shorter) (read_at u (take k ord)) → IsCovered shorter (InFront ord k) u
    covered u h =
        let e_low : h.0 < length shorter = rw (length-map shorter (λ row. read_at row (take k ord))) at h.1 in
        let same : read_at (get_or shorter h.0 []) (take k ord) ≡ read_at u (take k ord) = sym (get_or-map (λ row. read_at row (take k ord)) shorter h.0 [] (read_at u (take k ord)) e_low) ∙ h.2 in
        record { member = get_or shorter h.0 []; listed = Contains-get_or shorter h.0 [] e_low; same = agree_of_reading ord k (get_or shorter h.0 []) u (omega (arith, low)) same }

    from : AreReached (IsRestricted T shorter ord k) (take (k + 1) ord) rows → AreReached T (take (k + 1) ord) rows
    from h = record {
      members = All-weaker (IsRestricted T shorter ord k) T (λ u g. g.inside) rows h.members;
      each = λ u in_u. h.each u (record { inside = in_u; covered = covered u (old.each u in_u) });
      ascending = h.ascending;
    }
