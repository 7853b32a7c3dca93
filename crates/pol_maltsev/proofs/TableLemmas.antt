-- Tables at the start and at the end, the swap's test, and the listed members that cover a restriction.
use Rattle.std.proofs.Common.{◌≡◌, ℕ, zero, suc, ◌<◌, ◌≤◌, ◌+◌, List, [], ◌∷◌, length, Contains, arith, sym, refl, ap, ◌∙◌, ◌↔◌, ◌⊎◌, inl, inr, true, false, eqb, ltb, ◌&&◌}
use Rattle.std.specs.Prelude.{slice_index, ◌≢◌, Decides}
use Rattle.std.proofs.lemmas.Bool.Decides.{eqb_tells, Decides-and, Decides-eqb, Decides-ltb, Decides-like}
use Rattle.std.proofs.lemmas.List.Elements.{All-contains}
use Rattle.pol_optable.specs.Operations.{Operation, image}
use Rattle.pol_base.specs.Tuples.{IsTuple}
use Rattle.pol_relation.specs.Instances.{read_at}
use Rattle.pol_optable.specs.Identities.{IsMaltsev}
use Rattle.pol_maltsev.specs.Representations.{IsPreserved, Represents, ReadsRow, InClosure}
use Rattle.pol_rows.specs.Signatures.{InSignature, IsSignatureSize, count_triples}
use Rattle.pol_maltsev.specs.Representations.InClosure.{given as of_rows}
use Rattle.pol_maltsev.specs.Tables.{Agree, Also, SameRoot, IsKnown, AreJoined, IsMoved, IsTable, ListsTable}
use Rattle.pol_maltsev.specs.Orders.{InFront}
use Rattle.pol_maltsev.specs.Swaps.{Sides, led, LeadsTo, IsSwappedTable}
use Rattle.pol_maltsev.specs.Restrictions.{IsPart}
use Rattle.pol_maltsev.specs.FromRows.{IsMadeOfRows, IsMadeOfPair}
use Rattle.pol_maltsev.proofs.TupleLemmas.{value_below, same_front, front_at, same_tuple}
use Rattle.pol_maltsev.proofs.ClosureLemmas.{closure_kept, closure_within}
use Rattle.pol_maltsev.proofs.SwapLemmas.{IsFrame, IsSwap, leads, moves, same_least, joined-sym, joined-trans}
use Rattle.pol_maltsev.proofs.OrderLemmas.{front_more, front_frame, swap_table}
use Rattle.pol_maltsev.proofs.RestrictionLemmas.{natural_joined, same_is_joined}

-- the swap's test: where all rows of one class at x have one value at y, nothing changes
pub swap_idle : (f : Operation) (n : ℕ) (T : List ℕ → Type 0) (S : ℕ → Type 0) (s : Sides) → IsSwap f n T S s →
    ((a : ℕ) → a < f.domain → s.cx a < f.domain → slice_index (s.rx a) s.y ≡ slice_index (s.rx (s.cx a)) s.y) →
    IsKnown f.domain T (Also S s.y) s.x s.rx s.cx × IsKnown f.domain T S s.y s.ry s.cy
swap_idle f n T S s is test = (
  record {
    inside = is.known_x.inside;
    there = is.known_x.there;
    present = is.known_x.present;
    together = together;
    joined = λ t u in_t in_u same. is.known_x.joined t u in_t in_u (λ j h. same j (inl h));
    least = is.known_x.least;
    fixed = is.known_x.fixed;
  },
  record {
    inside = is.known_y.inside;
    there = is.known_y.there;
    present = is.known_y.present;
    together = λ a b low low' h j g. is.known_y.together a b low low' h j (inl g);
    joined = λ t u in_t in_u same. joined (slice_index t s.y) (slice_index u s.y) (low_at t in_t) (is.known_y.present t in_t)
        (leads f n T S s (slice_index t s.y) (slice_index u s.y) is (low_at t in_t) (is.known_y.present t in_t)
        (record { one = t; other = u; one_in = in_t; other_in = in_u; same = same; one_at = refl; other_at = refl }));
    least = is.known_y.least;
    fixed = is.known_y.fixed;
  },
)
  where
    low_at : (t : List ℕ) → T t → slice_index t s.y < f.domain
    low_at t in_t = value_below f.domain n t s.y (is.frame.kept.tuples t in_t) is.y_low

    one_value : (a b : ℕ) → a < f.domain → b < f.domain → SameRoot f.domain s.cx a b → slice_index (s.rx a) s.y ≡ slice_index (s.rx b) s.y
    one_value a b low low' h = test a low h.present ∙ ap (λ r. slice_index (s.rx r) s.y) h.roots ∙ sym (test b low' (rw (← h.roots) h.present))

    together : (a b : ℕ) → a < f.domain → b < f.domain → SameRoot f.domain s.cx a b → Agree (Also S s.y) (s.rx a) (s.rx b)
    together a b low low' h j (inl g) = is.known_x.together a b low low' h j g
    together a b low low' h j (inr e) = rw e (one_value a b low low' h)

    joined : (c v : ℕ) → c < f.domain → s.cy c < f.domain → LeadsTo f s c (s.cy v) → s.cy c ≡ s.cy v
    joined c v low present l = ap s.cy (sym same) ∙ l.root_is
      where
        in_c : T (s.ry c)
        in_c = is.known_y.inside c low present

        p_low : slice_index (s.ry c) s.x < f.domain
        p_low = value_below f.domain n (s.ry c) s.x (is.frame.kept.tuples (s.ry c) in_c) is.x_low

        to_low : slice_index (s.rx l.to) s.y < f.domain
        to_low = low_at (s.rx l.to) (is.known_x.inside l.to l.below (rw (← l.may.roots) l.may.present))

        same : led f s c (slice_index (s.ry c) s.x) l.to ≡ c
        same = rw (one_value (slice_index (s.ry c) s.x) l.to p_low l.below l.may) (is.frame.mal.right c (slice_index (s.rx l.to) s.y) low to_low)

-- all tuples: one class at each place
pub full_known : (d n : ℕ) (S : ℕ → Type 0) (p : ℕ) (row : ℕ → List ℕ) → 1 ≤ d → ((a : ℕ) → a < d → IsTuple d n (row a)) → ((a : ℕ) → a < d → slice_index (row a) p ≡ a) →
    ((a b : ℕ) → a < d → b < d → Agree S (row a) (row b)) → IsKnown d (IsTuple d n) S p row (λ a. 0)
full_known d n S p row one tuples there same = record {
  inside = λ a low h. tuples a low;
  there = λ a low h. there a low;
  present = λ t in_t. one;
  together = λ a b low low' h. same a b low low';
  joined = λ t u in_t in_u same. refl;
  least = λ a low h. omega arith;
  fixed = λ a low h. refl;
}

-- the table of rows that represent the set, in the natural order
pub known_of_rows : (f : Operation) (n i : ℕ) (T : List ℕ → Type 0) (ord : List ℕ) (rows : List (List ℕ)) (row : ℕ → List ℕ) (root : ℕ → ℕ) → IsFrame f n T (InFront ord i) → ((k : ℕ) → k < n → slice_index ord k ≡ k) → i < n →
    Represents n rows T → IsMadeOfRows f n i rows row root → IsKnown f.domain T (InFront ord i) i row root
known_of_rows f n i T ord rows row root is natural low rep made = record {
  inside = λ a a_low h. (at a a_low (made.gone a a_low h)).inside;
  there = λ a a_low h. (at a a_low (made.gone a a_low h)).there;
  present = λ t in_t. (made.chosen (slice_index t i) (low_at t in_t) (back (slice_index t i) (slice_index t i) (self t in_t))).below;
  together = λ a b a_low b_low h. together a b a_low b_low h.roots (made.gone a a_low h.present) (made.gone b b_low (rw (← h.roots) h.present));
  joined = λ t u in_t in_u same. roots (slice_index t i) (slice_index u i) (low_at t in_t) (low_at u in_u) (back (slice_index t i) (slice_index t i) (self t in_t)) (back (slice_index u i) (slice_index u i) (self u in_u))
      (record { one = t; other = u; one_in = in_t; other_in = in_u; same = same; one_at = refl; other_at = refl });
  least = λ a a_low h. (made.chosen a a_low (made.gone a a_low h)).first a a_low (made.gone a a_low h);
  fixed = λ a a_low h. fixed a a_low (made.gone a a_low h);
}
  where
    Joined : ℕ → ℕ → Type 0
    Joined a b = AreJoined T (InFront ord i) i a b

    to : (a b : ℕ) → InSignature (Contains rows) i a b → Joined a b
    to a b s = (natural_joined f.domain n i a b T ord is.kept.tuples natural low).1 (record {
      one = s.one;
      other = s.other;
      one_in = All-contains T rows s.one rep.inside s.one_in;
      other_in = All-contains T rows s.other rep.inside s.other_in;
      same_before = s.same_before;
      one_at = s.one_at;
      other_at = s.other_at;
    })

    back : (a b : ℕ) → Joined a b → InSignature (Contains rows) i a b
    back a b j = rep.signature i a b low ((natural_joined f.domain n i a b T ord is.kept.tuples natural low).0 j)

    self : (t : List ℕ) → T t → Joined (slice_index t i) (slice_index t i)
    self t in_t = record { one = t; other = t; one_in = in_t; other_in = in_t; same = λ j h. refl; one_at = refl; other_at = refl }

    low_at : (t : List ℕ) → T t → slice_index t i < f.domain
    low_at t in_t = value_below f.domain n t i (is.kept.tuples t in_t) low

    over : (a c b : ℕ) → Joined a c → InSignature (Contains rows) i b a → InSignature (Contains rows) i b c
    over a c b j s = back b c (joined-trans f n T (InFront ord i) i b a c is low (to b a s) j)

    roots : (a c : ℕ) → a < f.domain → c < f.domain → InSignature (Contains rows) i a a → InSignature (Contains rows) i c c → Joined a c → root a ≡ root c
    roots a c a_low c_low ha hc j = same_least f.domain (λ b. InSignature (Contains rows) i b a) (λ b. InSignature (Contains rows) i b c) (root a) (root c)
        (λ b s. over a c b j s) (λ b s. over c a b (joined-sym T (InFront ord i) i a c j) s) (made.chosen a a_low ha) (made.chosen c c_low hc)

    root_self : (a : ℕ) → a < f.domain → InSignature (Contains rows) i a a → InSignature (Contains rows) i (root a) (root a)
    root_self a a_low h = from (to (root a) a (made.chosen a a_low h).holds)
      where
        from : Joined (root a) a → InSignature (Contains rows) i (root a) (root a)
        from j = back (root a) (root a) (joined-trans f n T (InFront ord i) i (root a) a (root a) is low j (joined-sym T (InFront ord i) i (root a) a j))

    fixed : (a : ℕ) → a < f.domain → InSignature (Contains rows) i a a → root (root a) ≡ root a
    fixed a a_low h = roots (root a) a (made.chosen a a_low h).below a_low (root_self a a_low h) h (to (root a) a (made.chosen a a_low h).holds)

    Moved : ℕ → Type 0
    Moved a = IsMoved T (InFront ord i) i a (row (root a)) (row a)

    before : {a b : ℕ} → (s : InSignature (Contains rows) i a b) → Agree (InFront ord i) s.one s.other
    before s j h =
        let e : h.index ≡ j = sym (natural h.index (omega (arith, h.early, low))) ∙ h.place in
        front_at s.one s.other i j s.same_before (rw e at h.early)

    -- each row follows the row of its root
    at : (a : ℕ) → a < f.domain → InSignature (Contains rows) i a a → Moved a
    at a a_low h = by (eqb_tells (root a) a)
      where
        b_low : root a < f.domain
        b_low = (made.chosen a a_low h).below

        in_b : T (row (root a))
        in_b = All-contains T rows (row (root a)) rep.inside (made.listed (root a) b_low (fixed a a_low h))

        by : ((eqb (root a) a ≡ true) × (root a ≡ a)) ⊎ ((eqb (root a) a ≡ false) × (root a ≢ a)) → Moved a
        by (inl e) = record { inside = All-contains T rows (row a) rep.inside (made.listed a a_low e.1); same = λ j g. ap (λ r. slice_index (row r) j) (sym e.1); there = made.there a a_low e.1 }
        by (inr e) = from (made.moved a a_low h e.1)
          where
            from : IsMadeOfPair f n i rows (row (root a)) (root a) a (row a) → Moved a
            from m = rw m.made (rw m.pair.other_at at (moves f n T (InFront ord i) i (row (root a)) m.pair.one m.pair.other is low in_b
                (All-contains T rows m.pair.one rep.inside m.pair.one_in) (All-contains T rows m.pair.other rep.inside m.pair.other_in)
                (made.there (root a) b_low (fixed a a_low h) ∙ sym m.pair.one_at) (before m.pair)))

    together : (a b : ℕ) → a < f.domain → b < f.domain → root a ≡ root b → InSignature (Contains rows) i a a → InSignature (Contains rows) i b b → Agree (InFront ord i) (row a) (row b)
    together a b a_low b_low same ha hb j g = (at a a_low ha).same j g ∙ ap (λ r. slice_index (row r) j) same ∙ sym ((at b b_low hb).same j g)

-- sets with the same members have the same table
pub same_set : (n d : ℕ) (T U : List ℕ → Type 0) (ord : List ℕ) (row : ℕ → ℕ → List ℕ) (root : ℕ → ℕ → ℕ) → ((t : List ℕ) → T t ↔ U t) → IsTable n d T ord row root → IsTable n d U ord row root
same_set n d T U ord row root same table = record { order = table.order; known = λ k low. at k (slice_index ord k) (table.known k low) }
  where
    at : (k p : ℕ) → IsKnown d T (InFront ord k) p (row p) (root p) → IsKnown d U (InFront ord k) p (row p) (root p)
    at k p known = record {
      inside = λ a low h. (same (row p a)).0 (known.inside a low h);
      there = known.there;
      present = λ t in_t. known.present t ((same t).1 in_t);
      together = known.together;
      joined = λ t u in_t in_u agree. known.joined t u ((same t).1 in_t) ((same u).1 in_u) agree;
      least = known.least;
      fixed = known.fixed;
    }

-- a member of C that agrees with t at S
pub record IsClose (C : List ℕ → Type 0) (S : ℕ → Type 0) (t : List ℕ) : Type 0 where
  pub member : List ℕ
  pub inside : C member
  pub near : Agree S member t

pub close_at : (f : Operation) (n m : ℕ) (T C : List ℕ → Type 0) (ord : List ℕ) (row : ℕ → ℕ → List ℕ) (root : ℕ → ℕ → ℕ) (t : List ℕ) → IsMaltsev f → IsPreserved f n T → IsPreserved f n C → ((u : List ℕ) → C u → T u) →
    IsTable n f.domain T ord row root → ((p a : ℕ) → p < n → a < f.domain → root p a < f.domain → C (row p a)) → T t → 1 ≤ n → m ≤ n → IsClose C (InFront ord m) t
close_at f n zero T C ord row root t mal kept kept' within table rows in_t one low = record {
  member = row (slice_index ord 0) (slice_index t (slice_index ord 0));
  inside = rows (slice_index ord 0) (slice_index t (slice_index ord 0)) (table.order.below 0 one) (value_below f.domain n t (slice_index ord 0) (kept.tuples t in_t) (table.order.below 0 one)) ((table.known 0 one).present t in_t);
  near = λ j h. absurd (omega (arith, h.early));
}
close_at f n (suc m) T C ord row root t mal kept kept' within table rows in_t one low =
    from (close_at f n m T C ord row root t mal kept kept' within table rows in_t one (omega (arith, low)))
  where
    from : IsClose C (InFront ord m) t → IsClose C (InFront ord (suc m)) t
    from g = next (slice_index ord m) refl (table.known m (omega (arith, low))) (table.order.below m (omega (arith, low)))
      where
        next : (o : ℕ) → slice_index ord m ≡ o → IsKnown f.domain T (InFront ord m) o (row o) (root o) → o < n → IsClose C (InFront ord (suc m)) t
        next o is_o here o_low = done (moves f n C (InFront ord m) o g.member (row o (slice_index g.member o)) (row o (slice_index t o)) (front_frame f n C ord m mal kept' table.order (omega (arith, low))) o_low g.inside
            (rows o (slice_index g.member o) o_low g_small (here.present g.member in_g)) (rows o (slice_index t o) o_low t_small (here.present t in_t))
            (sym (here.there (slice_index g.member o) g_small (here.present g.member in_g)))
            (here.together (slice_index g.member o) (slice_index t o) g_small t_small (record { roots = here.joined g.member t in_g in_t g.near; present = here.present g.member in_g })))
          where
            in_g : T g.member
            in_g = within g.member g.inside

            t_small : slice_index t o < f.domain
            t_small = value_below f.domain n t o (kept.tuples t in_t) o_low

            g_small : slice_index g.member o < f.domain
            g_small = value_below f.domain n g.member o (kept.tuples g.member in_g) o_low

            done : IsMoved C (InFront ord m) o (slice_index (row o (slice_index t o)) o) g.member (image f n (g.member ∷ row o (slice_index g.member o) ∷ row o (slice_index t o) ∷ [])) → IsClose C (InFront ord (suc m)) t
            done w = record { member = image f n (g.member ∷ row o (slice_index g.member o) ∷ row o (slice_index t o) ∷ []); inside = w.inside; near = λ j h. at j (more j h) }
              where
                more : (j : ℕ) → InFront ord (suc m) j → Also (InFront ord m) (slice_index ord m) j
                more j h = front_more ord m j (record { index = h.index; early = omega (arith, h.early); place = h.place })

                at : (j : ℕ) → Also (InFront ord m) (slice_index ord m) j → slice_index (image f n (g.member ∷ row o (slice_index g.member o) ∷ row o (slice_index t o) ∷ [])) j ≡ slice_index t j
                at j (inl h) = w.same j h ∙ g.near j h
                at j (inr e) = rw (e, is_o) (w.there ∙ here.there (slice_index t o) t_small (here.present t in_t))

-- the closure of the table's rows is the set, in each order
pub table_closure : (f : Operation) (n : ℕ) (T : List ℕ → Type 0) (ord : List ℕ) (row : ℕ → ℕ → List ℕ) (root : ℕ → ℕ → ℕ) (rows : List (List ℕ)) → IsMaltsev f → IsPreserved f n T → 1 ≤ n →
    IsTable n f.domain T ord row root → ListsTable n f.domain T row root rows → (t : List ℕ) → InClosure f n rows t ↔ T t
table_closure f n T ord row root rows mal kept one table lists t = (
  closure_within f n T rows kept lists.inside t,
  λ in_t. whole in_t
      (close_at f n n T (InClosure f n rows) ord row root t mal kept (closure_kept f n T rows kept lists.inside) (closure_within f n T rows kept lists.inside) table
      (λ p a p_low a_low h. of_rows (row p a) (lists.listed p a p_low a_low h)) in_t one (omega arith)),
)
  where
    whole : T t → IsClose (InClosure f n rows) (InFront ord n) t → InClosure f n rows t
    whole in_t g =
        let same : g.member ≡ t = same_tuple g.member t n (kept.tuples g.member (closure_within f n T rows kept lists.inside g.member g.inside)).long (kept.tuples t in_t).long (λ j j_low. g.near j (table.order.found j j_low)) in
        rw same at g.inside

-- in the natural order the table's rows represent the set
pub table_represents : (f : Operation) (n : ℕ) (T : List ℕ → Type 0) (ord : List ℕ) (row : ℕ → ℕ → List ℕ) (root : ℕ → ℕ → ℕ) (rows : List (List ℕ)) → IsPreserved f n T → ((k : ℕ) → k < n → slice_index ord k ≡ k) →
    IsTable n f.domain T ord row root → ListsTable n f.domain T row root rows → Represents n rows T
table_represents f n T ord row root rows kept natural table lists = record { inside = lists.inside; signature = λ i a b low s. at i a b low (rw (natural i low) at (table.known i low)) ((natural_joined f.domain n i a b T ord kept.tuples natural low).1 s) }
  where
    at : (i a b : ℕ) → i < n → IsKnown f.domain T (InFront ord i) i (row i) (root i) → AreJoined T (InFront ord i) i a b → InSignature (Contains rows) i a b
    at i a b low known j = from ((same_is_joined f.domain T (InFront ord i) i a b (row i) (root i) known a_low b_low).1 j)
      where
        a_low : a < f.domain
        a_low = rw (← j.one_at) (value_below f.domain n j.one i (kept.tuples j.one j.one_in) low)

        b_low : b < f.domain
        b_low = rw (← j.other_at) (value_below f.domain n j.other i (kept.tuples j.other j.other_in) low)

        from : SameRoot f.domain (root i) a b → InSignature (Contains rows) i a b
        from h = record {
          one = row i a;
          other = row i b;
          one_in = lists.listed i a low a_low h.present;
          other_in = lists.listed i b low b_low b_there;
          same_before = same_front (row i a) (row i b) i ((kept.tuples (row i a) (known.inside a a_low h.present)).long ∙ sym (kept.tuples (row i b) (known.inside b b_low b_there)).long)
              (λ k k_low. known.together a b a_low b_low h k (record { index = k; early = k_low; place = natural k (omega (arith, k_low, low)) }));
          one_at = known.there a a_low h.present;
          other_at = known.there b b_low b_there;
        }
          where
            b_there : root i b < f.domain
            b_there = rw (← h.roots) h.present

-- readings that agree at each place
pub same_reading : (t u places : List ℕ) → ((i : ℕ) → i < length places → slice_index t (slice_index places i) ≡ slice_index u (slice_index places i)) → read_at t places ≡ read_at u places
same_reading t u [] same = refl
same_reading t u (p ∷ ps) same = rw (same 0 (omega arith), same_reading t u ps (λ i low. same (suc i) (omega (arith, low)))) refl

-- the members that read a row at places among the first q of the order
pub reading_part : (T : List ℕ → Type 0) (ord scope : List ℕ) (q : ℕ) (rows : List (List ℕ)) → ((i : ℕ) → i < length scope → InFront ord q (slice_index scope i)) → IsPart T (ReadsRow T scope rows) (InFront ord q)
reading_part T ord scope q rows front = record {
  within = λ t h. h.inside;
  decided = λ t u h in_u same. record { inside = in_u; row = rw (same_reading u t scope (λ i low. same (slice_index scope i) (front i low))) h.row };
}

-- A swap, with no set named: the table's own rows stand for the set before and after
pub swap_own : (f : Operation) (n k : ℕ) (old new : List ℕ) (row : ℕ → ℕ → List ℕ) (root : ℕ → ℕ → ℕ) (row' : ℕ → ℕ → List ℕ) (root' : ℕ → ℕ → ℕ) (rows rows' : List (List ℕ)) →
    IsMaltsev f → IsPreserved f n (InClosure f n rows) → k + 1 < n → IsTable n f.domain (InClosure f n rows) old row root → IsSwappedTable f n k old new row root row' root' →
    ListsTable n f.domain (InClosure f n rows) row' root' rows' → IsTable n f.domain (InClosure f n rows') new row' root' × ((t : List ℕ) → InClosure f n rows' t ↔ InClosure f n rows t)
swap_own f n k old new row root row' root' rows rows' mal kept low table swapped lists = from (swap_table f n k (InClosure f n rows) old new row root row' root' mal kept table low swapped)
  where
    from : IsTable n f.domain (InClosure f n rows) new row' root' → IsTable n f.domain (InClosure f n rows') new row' root' × ((t : List ℕ) → InClosure f n rows' t ↔ InClosure f n rows t)
    from after =
        let same : (t : List ℕ) → InClosure f n rows' t ↔ InClosure f n rows t = table_closure f n (InClosure f n rows) new row' root' rows' mal kept (omega (arith, low)) after lists in
        (same_set n f.domain (InClosure f n rows) (InClosure f n rows') new row' root' (λ t. ((same t).1, (same t).0)) after, same)

-- the size is the number of equal roots
pub table_size : (f : Operation) (n : ℕ) (T : List ℕ → Type 0) (ord : List ℕ) (row : ℕ → ℕ → List ℕ) (root : ℕ → ℕ → ℕ) → IsPreserved f n T → ((k : ℕ) → k < n → slice_index ord k ≡ k) → IsTable n f.domain T ord row root →
    IsSignatureSize n f.domain T (count_triples n f.domain (λ i a b. eqb (root i a) (root i b) && ltb (root i a) f.domain))
table_size f n T ord row root kept natural table = record {
  test = λ i a b. eqb (root i a) (root i b) && ltb (root i a) f.domain;
  decides = λ i a b low a_low b_low. at i a b low (natural_joined f.domain n i a b T ord kept.tuples natural low)
      (same_is_joined f.domain T (InFront ord i) i a b (row i) (root i) (rw (natural i low) at (table.known i low)) a_low b_low);
  counted = refl;
}
  where
    at : (i a b : ℕ) → i < n → AreJoined T (InFront ord i) i a b ↔ InSignature T i a b → SameRoot f.domain (root i) a b ↔ AreJoined T (InFront ord i) i a b →
        Decides (eqb (root i a) (root i b) && ltb (root i a) f.domain) (InSignature T i a b)
    at i a b low natural known = Decides-like (eqb (root i a) (root i b) && ltb (root i a) f.domain)
        (λ h. natural.0 (known.0 (record { roots = h.0; present = h.1 })))
        (λ s. ((known.1 (natural.1 s)).roots, (known.1 (natural.1 s)).present))
        (Decides-and (eqb (root i a) (root i b)) (ltb (root i a) f.domain) (Decides-eqb (root i a) (root i b)) (Decides-ltb (root i a) f.domain))
