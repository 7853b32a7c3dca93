-- Orders of the places, and the table after a swap and along a walk.
use Rattle.std.proofs.Common.{◌≡◌, ℕ, ◌<◌, ◌≤◌, ◌+◌, List, arith, sym, refl, ap, ◌∙◌, ◌⊎◌, inl, inr, true, false, eqb, cond}
use Rattle.std.specs.Prelude.{slice_index, ◌≢◌}
use Rattle.std.proofs.lemmas.Bool.Decides.{eqb_tells}
use Rattle.std.proofs.lemmas.Bool.{cases_lt, cases_order}
use Rattle.pol_optable.specs.Operations.{Operation}
use Rattle.pol_optable.specs.Identities.{IsMaltsev}
use Rattle.pol_maltsev.specs.Representations.{IsPreserved}
use Rattle.pol_maltsev.specs.Tables.{Agree, Also, SameRoot, IsKnown, step, IsMoved, IsTable}
use Rattle.pol_maltsev.specs.Orders.{IsOrder, InFront, IsSwapped}
use Rattle.pol_maltsev.specs.Swaps.{sides, IsSwappedTable}
use Rattle.pol_maltsev.specs.Restrictions.{IsReading}
use Rattle.pol_maltsev.proofs.TupleLemmas.{value_below}
use Rattle.pol_maltsev.proofs.SwapLemmas.{IsFrame, IsSwap, swap_x, swap_y, steps}

-- other places: what is known depends on which places stand before, not on their order
pub same_places : (d : ℕ) (T : List ℕ → Type 0) (S S' : ℕ → Type 0) (p : ℕ) (row : ℕ → List ℕ) (root : ℕ → ℕ) → ((j : ℕ) → S j → S' j) → ((j : ℕ) → S' j → S j) → IsKnown d T S p row root → IsKnown d T S' p row root
same_places d T S S' p row root to back known = record {
  inside = known.inside;
  there = known.there;
  present = known.present;
  together = λ a b low low' h j g. known.together a b low low' h j (back j g);
  joined = λ t u in_t in_u same. known.joined t u in_t in_u (λ j g. same j (to j g));
  least = known.least;
  fixed = known.fixed;
}

-- and on the rows and roots of the values below d
pub same_sides : (f : Operation) (n : ℕ) (T : List ℕ → Type 0) (S : ℕ → Type 0) (p : ℕ) (row : ℕ → List ℕ) (root : ℕ → ℕ) (row' : ℕ → List ℕ) (root' : ℕ → ℕ) → IsPreserved f n T → p < n →
    ((a : ℕ) → a < f.domain → row' a ≡ row a) → ((a : ℕ) → a < f.domain → root' a ≡ root a) → IsKnown f.domain T S p row root → IsKnown f.domain T S p row' root'
same_sides f n T S p row root row' root' kept p_low rows roots known = record {
  inside = λ a low h. rw (rows a low) (known.inside a low (old a low h));
  there = λ a low h. rw (rows a low) (known.there a low (old a low h));
  present = λ t in_t. rw (roots (slice_index t p) (low_at t in_t)) (known.present t in_t);
  together = λ a b low low' h. rw (rows a low, rows b low') (known.together a b low low' (record { roots = sym (roots a low) ∙ h.roots ∙ roots b low'; present = old a low h.present }));
  joined = λ t u in_t in_u same. roots (slice_index t p) (low_at t in_t) ∙ known.joined t u in_t in_u same ∙ sym (roots (slice_index u p) (low_at u in_u));
  least = λ a low h. rw (roots a low) (known.least a low (old a low h));
  fixed = λ a low h. roots (root' a) h ∙ ap root (roots a low) ∙ known.fixed a low (old a low h) ∙ sym (roots a low);
}
  where
    low_at : (t : List ℕ) → T t → slice_index t p < f.domain
    low_at t in_t = value_below f.domain n t p (kept.tuples t in_t) p_low

    old : (a : ℕ) → a < f.domain → root' a < f.domain → root a < f.domain
    old a low h = rw (← roots a low) h

-- the first k + 1 places are the first k and one more
pub front_more : (ord : List ℕ) (k j : ℕ) → InFront ord (k + 1) j → Also (InFront ord k) (slice_index ord k) j
front_more ord k j h = by (cases_order h.index k)
  where
    by : (h.index ≡ k) ⊎ ((h.index < k) ⊎ (k < h.index)) → Also (InFront ord k) (slice_index ord k) j
    by (inl e) = inr (rw (← e) (sym h.place))
    by (inr (inl low)) = inl (record { index = h.index; early = low; place = h.place })
    by (inr (inr high)) = absurd (omega (arith, high, h.early))

pub front_less : (ord : List ℕ) (k j : ℕ) → Also (InFront ord k) (slice_index ord k) j → InFront ord (k + 1) j
front_less ord k j (inl h) = record { index = h.index; early = omega (arith, h.early); place = h.place }
front_less ord k j (inr e) = record { index = k; early = omega arith; place = sym e }

-- the first places of an order are the first places of the swapped order, but for the one between the two
pub swapped_back : (k : ℕ) (old new : List ℕ) → IsSwapped k old new → IsSwapped k new old
swapped_back k old new h = record { long = sym h.long; first = sym h.second; second = sym h.first; others = λ i e e'. sym (h.others i e e') }

pub front_early : (k i : ℕ) (old new : List ℕ) (j : ℕ) → IsSwapped k old new → i ≤ k → InFront old i j → InFront new i j
front_early k i old new j h low g = record { index = g.index; early = g.early; place = h.others g.index (λ e. absurd (omega (arith, e, g.early))) (λ e. absurd (omega (arith, e, g.early))) ∙ g.place }

pub front_late : (k i : ℕ) (old new : List ℕ) (j : ℕ) → IsSwapped k old new → k + 1 < i → InFront old i j → InFront new i j
front_late k i old new j h high g = by (eqb_tells g.index k) (eqb_tells g.index (k + 1))
  where
    by : ((eqb g.index k ≡ true) × (g.index ≡ k)) ⊎ ((eqb g.index k ≡ false) × (g.index ≢ k)) →
        ((eqb g.index (k + 1) ≡ true) × (g.index ≡ k + 1)) ⊎ ((eqb g.index (k + 1) ≡ false) × (g.index ≢ k + 1)) → InFront new i j
    by (inl a) b = record { index = k + 1; early = high; place = h.second ∙ ap (slice_index old) (sym a.1) ∙ g.place }
    by (inr a) (inl b) = record { index = k; early = omega (arith, high); place = h.first ∙ ap (slice_index old) (sym b.1) ∙ g.place }
    by (inr a) (inr b) = record { index = g.index; early = g.early; place = h.others g.index a.1 b.1 ∙ g.place }

-- the places before y in the swapped order, besides those before x
pub also_to : (k : ℕ) (old new : List ℕ) (j : ℕ) → IsSwapped k old new → Also (InFront old k) (slice_index old (k + 1)) j → InFront new (k + 1) j
also_to k old new j h (inl g) = front_less new k j (inl (front_early k k old new j h (omega arith) g))
also_to k old new j h (inr e) = front_less new k j (inr (e ∙ sym h.first))

pub also_back : (k : ℕ) (old new : List ℕ) (j : ℕ) → IsSwapped k old new → InFront new (k + 1) j → Also (InFront old k) (slice_index old (k + 1)) j
also_back k old new j h g = by (front_more new k j g)
  where
    by : Also (InFront new k) (slice_index new k) j → Also (InFront old k) (slice_index old (k + 1)) j
    by (inl m) = inl (front_early k k new old j (swapped_back k old new h) (omega arith) m)
    by (inr e) = inr (e ∙ h.first)

pub front_frame : (f : Operation) (n : ℕ) (T : List ℕ → Type 0) (ord : List ℕ) (k : ℕ) → IsMaltsev f → IsPreserved f n T → IsOrder n ord → k ≤ n → IsFrame f n T (InFront ord k)
front_frame f n T ord k mal kept order low = record { mal = mal; kept = kept; low = λ j h. rw (← h.place) (order.below h.index (omega (arith, low, h.early))) }

-- a swapped order
pub swapped_order : (n k : ℕ) (old new : List ℕ) → IsOrder n old → IsSwapped k old new → k + 1 < n → IsOrder n new
swapped_order n k old new order h low = record {
  long = h.long ∙ order.long;
  below = λ i i_low. rw (where_from i) (order.below (other i) (other_low i i_low));
  once = λ i j i_low j_low same. other_once i j (order.once (other i) (other j) (other_low i i_low) (other_low j j_low) (sym (where_from i) ∙ same ∙ where_from j));
  found = λ p p_low. front_late k n old new p h low (order.found p p_low);
}
  where
    other : ℕ → ℕ
    other i = cond (eqb i k) (k + 1) (cond (eqb i (k + 1)) k i)

    where_from : (i : ℕ) → slice_index new i ≡ slice_index old (other i)
    where_from i = by (eqb_tells i k) (eqb_tells i (k + 1))
      where
        by : ((eqb i k ≡ true) × (i ≡ k)) ⊎ ((eqb i k ≡ false) × (i ≢ k)) → ((eqb i (k + 1) ≡ true) × (i ≡ k + 1)) ⊎ ((eqb i (k + 1) ≡ false) × (i ≢ k + 1)) → slice_index new i ≡ slice_index old (other i)
        by (inl a) b = rw (a.0, a.1) h.first
        by (inr a) (inl b) = rw (a.0, b.0, b.1) h.second
        by (inr a) (inr b) = rw (a.0, b.0) (h.others i a.1 b.1)

    other_low : (i : ℕ) → i < n → other i < n
    other_low i i_low = by (eqb_tells i k) (eqb_tells i (k + 1))
      where
        by : ((eqb i k ≡ true) × (i ≡ k)) ⊎ ((eqb i k ≡ false) × (i ≢ k)) → ((eqb i (k + 1) ≡ true) × (i ≡ k + 1)) ⊎ ((eqb i (k + 1) ≡ false) × (i ≢ k + 1)) → other i < n
        by (inl a) b = rw a.0 low
        by (inr a) (inl b) = rw (a.0, b.0) (omega (arith, low))
        by (inr a) (inr b) = rw (a.0, b.0) i_low

    other_once : (i j : ℕ) → other i ≡ other j → i ≡ j
    other_once i j e = by (eqb_tells i k) (eqb_tells i (k + 1)) (eqb_tells j k) (eqb_tells j (k + 1))
      where
        by : ((eqb i k ≡ true) × (i ≡ k)) ⊎ ((eqb i k ≡ false) × (i ≢ k)) → ((eqb i (k + 1) ≡ true) × (i ≡ k + 1)) ⊎ ((eqb i (k + 1) ≡ false) × (i ≢ k + 1)) →
            ((eqb j k ≡ true) × (j ≡ k)) ⊎ ((eqb j k ≡ false) × (j ≢ k)) → ((eqb j (k + 1) ≡ true) × (j ≡ k + 1)) ⊎ ((eqb j (k + 1) ≡ false) × (j ≢ k + 1)) → i ≡ j
        by (inl a) b (inl c) d = a.1 ∙ sym c.1
        by (inl a) b (inr c) (inl d) = absurd (omega (arith, rw (a.0, c.0, d.0) at e))
        by (inl a) b (inr c) (inr d) = absurd (d.1 (sym (rw (a.0, c.0, d.0) at e)))
        by (inr a) (inl b) (inl c) d = absurd (omega (arith, rw (a.0, b.0, c.0) at e))
        by (inr a) (inl b) (inr c) (inl d) = b.1 ∙ sym d.1
        by (inr a) (inl b) (inr c) (inr d) = absurd (c.1 (sym (rw (a.0, b.0, c.0, d.0) at e)))
        by (inr a) (inr b) (inl c) d = absurd (b.1 (rw (a.0, b.0, c.0) at e))
        by (inr a) (inr b) (inr c) (inl d) = absurd (a.1 (rw (a.0, b.0, c.0, d.0) at e))
        by (inr a) (inr b) (inr c) (inr d) = rw (a.0, b.0, c.0, d.0) at e

pub swap_of : (f : Operation) (n k : ℕ) (T : List ℕ → Type 0) (ord : List ℕ) (row : ℕ → ℕ → List ℕ) (root : ℕ → ℕ → ℕ) → IsMaltsev f → IsPreserved f n T → IsTable n f.domain T ord row root → k + 1 < n →
    IsSwap f n T (InFront ord k) (sides ord k row root)
swap_of f n k T ord row root mal kept table low = record {
  frame = front_frame f n T ord k mal kept table.order (omega (arith, low));
  x_low = table.order.below k (omega (arith, low));
  y_low = table.order.below (k + 1) low;
  known_x = table.known k (omega (arith, low));
  known_y = same_places f.domain T (InFront ord (k + 1)) (Also (InFront ord k) (slice_index ord k)) (slice_index ord (k + 1)) (row (slice_index ord (k + 1))) (root (slice_index ord (k + 1)))
      (front_more ord k) (front_less ord k) (table.known (k + 1) low);
}

-- A swap keeps the table
pub swap_table : (f : Operation) (n k : ℕ) (T : List ℕ → Type 0) (old new : List ℕ) (row : ℕ → ℕ → List ℕ) (root : ℕ → ℕ → ℕ) (row' : ℕ → ℕ → List ℕ) (root' : ℕ → ℕ → ℕ) →
    IsMaltsev f → IsPreserved f n T → IsTable n f.domain T old row root → k + 1 < n → IsSwappedTable f n k old new row root row' root' → IsTable n f.domain T new row' root'
swap_table f n k T old new row root row' root' mal kept table low h = record {
  order = swapped_order n k old new table.order h.order low;
  known = λ i i_low. at i i_low (eqb_tells i k) (eqb_tells i (k + 1));
}
  where
    before : IsSwap f n T (InFront old k) (sides old k row root)
    before = swap_of f n k T old row root mal kept table low

    back : IsSwapped k new old
    back = swapped_back k old new h.order

    Known : (ℕ → Type 0) → ℕ → Type 0
    Known S p = IsKnown f.domain T S p (row' p) (root' p)

    late : (i : ℕ) → i < n → i ≢ k → i ≢ k + 1 → Known (InFront old i) (slice_index old i)
    late i i_low e e' = same_sides f n T (InFront old i) (slice_index old i) (row (slice_index old i)) (root (slice_index old i)) (row' (slice_index old i)) (root' (slice_index old i)) kept (table.order.below i i_low)
        (λ a a_low. h.same_rows (slice_index old i) a (table.order.below i i_low) a_low (λ q. e (table.order.once i k i_low (omega (arith, low)) q)) (λ q. e' (table.order.once i (k + 1) i_low low q)))
        (λ a a_low. h.same_roots (slice_index old i) a (table.order.below i i_low) a_low (λ q. e (table.order.once i k i_low (omega (arith, low)) q)) (λ q. e' (table.order.once i (k + 1) i_low low q)))
        (table.known i i_low)

    at : (i : ℕ) → i < n → ((eqb i k ≡ true) × (i ≡ k)) ⊎ ((eqb i k ≡ false) × (i ≢ k)) → ((eqb i (k + 1) ≡ true) × (i ≡ k + 1)) ⊎ ((eqb i (k + 1) ≡ false) × (i ≢ k + 1)) →
        Known (InFront new i) (slice_index new i)
    at i i_low (inl a) b = rw (a.1, h.order.first)
        (same_places f.domain T (InFront old k) (InFront new k) (slice_index old (k + 1)) (row' (slice_index old (k + 1))) (root' (slice_index old (k + 1)))
        (λ j g. front_early k k old new j h.order (omega arith) g) (λ j g. front_early k k new old j back (omega arith) g)
        (swap_y f n T (InFront old k) (sides old k row root) (row' (slice_index old (k + 1))) (root' (slice_index old (k + 1))) before h.at_y))
    at i i_low (inr a) (inl b) = rw (b.1, h.order.second)
        (same_places f.domain T (Also (InFront old k) (slice_index old (k + 1))) (InFront new (k + 1)) (slice_index old k) (row' (slice_index old k)) (root' (slice_index old k))
        (λ j g. also_to k old new j h.order g) (λ j g. also_back k old new j h.order g)
        (swap_x f n T (InFront old k) (sides old k row root) (row' (slice_index old k)) (root' (slice_index old k)) before h.at_x))
    at i i_low (inr a) (inr b) = rw (h.order.others i a.1 b.1) (by (cases_lt i k))
      where
        by : (i < k) ⊎ (k ≤ i) → Known (InFront new i) (slice_index old i)
        by (inl early) = same_places f.domain T (InFront old i) (InFront new i) (slice_index old i) (row' (slice_index old i)) (root' (slice_index old i))
            (λ j g. front_early k i old new j h.order (omega (arith, early)) g) (λ j g. front_early k i new old j back (omega (arith, early)) g) (late i i_low a.1 b.1)
        by (inr after) = same_places f.domain T (InFront old i) (InFront new i) (slice_index old i) (row' (slice_index old i)) (root' (slice_index old i))
            (λ j g. front_late k i old new j h.order (past i after a.1 b.1) g) (λ j g. front_late k i new old j back (past i after a.1 b.1) g) (late i i_low a.1 b.1)
          where
            past : (i : ℕ) → k ≤ i → i ≢ k → i ≢ k + 1 → k + 1 < i
            past i after e e' = within (cases_order i (k + 1))
              where
                within : (i ≡ k + 1) ⊎ ((i < k + 1) ⊎ (k + 1 < i)) → k + 1 < i
                within (inl q) = absurd (e' q)
                within (inr (inl q)) = absurd (e (omega (arith, q, after)))
                within (inr (inr q)) = q

-- walk, one place more: a member that reads k values reads one more, where its value at the place and the wanted one are in one class
pub walk_step : (f : Operation) (n k : ℕ) (T : List ℕ → Type 0) (ord word : List ℕ) (row : ℕ → List ℕ) (root : ℕ → ℕ) (t : List ℕ) → IsFrame f n T (InFront ord k) → slice_index ord k < n →
    IsKnown f.domain T (InFront ord k) (slice_index ord k) row root → IsReading T ord word k t → slice_index word k < f.domain → SameRoot f.domain root (slice_index t (slice_index ord k)) (slice_index word k) →
    IsReading T ord word (k + 1) (step f n (slice_index ord k) row t (slice_index word k))
walk_step f n k T ord word row root t is low known h small same =
    from (steps f n T (InFront ord k) (slice_index ord k) row root t (slice_index word k) is low known h.inside small same)
  where
    from : IsMoved T (InFront ord k) (slice_index ord k) (slice_index word k) t (step f n (slice_index ord k) row t (slice_index word k)) → IsReading T ord word (k + 1) (step f n (slice_index ord k) row t (slice_index word k))
    from m = record { inside = m.inside; reads = λ i i_low. by i i_low (cases_order i k) }
      where
        by : (i : ℕ) → i < k + 1 → (i ≡ k) ⊎ ((i < k) ⊎ (k < i)) → slice_index (step f n (slice_index ord k) row t (slice_index word k)) (slice_index ord i) ≡ slice_index word i
        by i i_low (inl e) = rw e m.there
        by i i_low (inr (inl e)) = m.same (slice_index ord i) (record { index = i; early = e; place = refl }) ∙ h.reads i e
        by i i_low (inr (inr e)) = absurd (omega (arith, i_low, e))

-- and where they are not, no member does
pub walk_fails : (d k : ℕ) (T : List ℕ → Type 0) (ord word : List ℕ) (row : ℕ → List ℕ) (root : ℕ → ℕ) (t u : List ℕ) →
    IsKnown d T (InFront ord k) (slice_index ord k) row root → IsReading T ord word k t → IsReading T ord word (k + 1) u → SameRoot d root (slice_index t (slice_index ord k)) (slice_index word k)
walk_fails d k T ord word row root t u known h g =
    let same : SameRoot d root (slice_index t (slice_index ord k)) (slice_index u (slice_index ord k)) = record { roots = known.joined t u h.inside g.inside near; present = known.present t h.inside } in
    rw (g.reads k (omega arith)) at same
  where
    near : Agree (InFront ord k) t u
    near j m = rw (← m.place) (h.reads m.index m.early ∙ sym (g.reads m.index (omega (arith, m.early))))

-- the walk begins with the row of the first value, which is present exactly where a member has it
pub walk_first : (d : ℕ) (T : List ℕ → Type 0) (ord word : List ℕ) (row : ℕ → List ℕ) (root : ℕ → ℕ) → IsKnown d T (InFront ord 0) (slice_index ord 0) row root → slice_index word 0 < d →
    root (slice_index word 0) < d → IsReading T ord word 1 (row (slice_index word 0))
walk_first d T ord word row root known small h = record { inside = known.inside (slice_index word 0) small h; reads = λ i low. by i (omega (arith, low)) }
  where
    by : (i : ℕ) → i ≡ 0 → slice_index (row (slice_index word 0)) (slice_index ord i) ≡ slice_index word i
    by i e = rw e (known.there (slice_index word 0) small h)

pub walk_none : (d : ℕ) (T : List ℕ → Type 0) (ord word : List ℕ) (row : ℕ → List ℕ) (root : ℕ → ℕ) (u : List ℕ) → IsKnown d T (InFront ord 0) (slice_index ord 0) row root →
    IsReading T ord word 1 u → root (slice_index word 0) < d
walk_none d T ord word row root u known g = rw (g.reads 0 (omega arith)) at (known.present u g.inside)
