-- Steps, joined values, and what a swap of two neighbouring places makes.
use Rattle.std.proofs.Common.{◌≡◌, ℕ, ◌<◌, ◌≤◌, List, [], ◌∷◌, arith, sym, refl, ap, ◌∙◌, inl, inr, Bool, true, false, eqb, cond}
use Rattle.std.specs.Prelude.{slice_index}
use Rattle.std.proofs.lemmas.Bool.{eqb-true, eqb-false}
use Rattle.pol_base.specs.Tuples.{IsTuple}
use Rattle.pol_optable.specs.Operations.{Operation, image, value_at}
use Rattle.pol_optable.specs.Identities.{IsMaltsev}
use Rattle.pol_maltsev.specs.Representations.{IsPreserved}
use Rattle.pol_maltsev.specs.Tables.{Agree, Also, SameRoot, IsKnown, step, IsMoved, AreJoined, IsLeastOf}
use Rattle.pol_maltsev.specs.Swaps.{Sides, StayTogether, IsMadeX, led, LeadsTo, IsLed, IsMadeY}
use Rattle.pol_maltsev.proofs.TupleLemmas.{value_below, value-image}

-- a preserved set, and places below n
pub record IsFrame (f : Operation) (n : ℕ) (T : List ℕ → Type 0) (S : ℕ → Type 0) : Type 0 where
  pub mal : IsMaltsev f
  pub kept : IsPreserved f n T
  pub low : (j : ℕ) → S j → j < n

-- where the second and third agree, the image is the first
pub image_keeps : (f : Operation) (n j : ℕ) (t1 t2 t3 : List ℕ) → IsMaltsev f → IsTuple f.domain n t1 → IsTuple f.domain n t2 → j < n →
    slice_index t2 j ≡ slice_index t3 j → slice_index (image f n (t1 ∷ t2 ∷ t3 ∷ [])) j ≡ slice_index t1 j
image_keeps f n j t1 t2 t3 mal is1 is2 low same =
    value-image f n (t1 ∷ t2 ∷ t3 ∷ []) j low ∙ rw (← same) (mal.right (slice_index t1 j) (slice_index t2 j) (value_below f.domain n t1 j is1 low) (value_below f.domain n t2 j is2 low))

-- where the first and second agree, the image is the third
pub image_moves : (f : Operation) (n j : ℕ) (t1 t2 t3 : List ℕ) → IsMaltsev f → IsTuple f.domain n t2 → IsTuple f.domain n t3 → j < n →
    slice_index t1 j ≡ slice_index t2 j → slice_index (image f n (t1 ∷ t2 ∷ t3 ∷ [])) j ≡ slice_index t3 j
image_moves f n j t1 t2 t3 mal is2 is3 low same =
    value-image f n (t1 ∷ t2 ∷ t3 ∷ []) j low ∙ rw same (mal.left (slice_index t3 j) (slice_index t2 j) (value_below f.domain n t3 j is3 low) (value_below f.domain n t2 j is2 low))

pub agree-sym : (S : ℕ → Type 0) (t u : List ℕ) → Agree S t u → Agree S u t
agree-sym S t u h j s = sym (h j s)

pub agree-trans : (S : ℕ → Type 0) (t u v : List ℕ) → Agree S t u → Agree S u v → Agree S t v
agree-trans S t u v h k j s = h j s ∙ k j s

-- members that agree with the second and third agree with the image and the first
pub image_like_first : (f : Operation) (n : ℕ) (T : List ℕ → Type 0) (S : ℕ → Type 0) (t1 t2 t3 : List ℕ) → IsFrame f n T S → T t1 → T t2 →
    Agree S t2 t3 → Agree S (image f n (t1 ∷ t2 ∷ t3 ∷ [])) t1
image_like_first f n T S t1 t2 t3 is in1 in2 same j s = image_keeps f n j t1 t2 t3 is.mal (is.kept.tuples t1 in1) (is.kept.tuples t2 in2) (is.low j s) (same j s)

pub image_like_third : (f : Operation) (n : ℕ) (T : List ℕ → Type 0) (S : ℕ → Type 0) (t1 t2 t3 : List ℕ) → IsFrame f n T S → T t2 → T t3 →
    Agree S t1 t2 → Agree S (image f n (t1 ∷ t2 ∷ t3 ∷ [])) t3
image_like_third f n T S t1 t2 t3 is in2 in3 same j s = image_moves f n j t1 t2 t3 is.mal (is.kept.tuples t2 in2) (is.kept.tuples t3 in3) (is.low j s) (same j s)

-- three members with t1 like t2 at p, and t2 like t3 at S: the image moves t1 at p to what t3 has
pub moves : (f : Operation) (n : ℕ) (T : List ℕ → Type 0) (S : ℕ → Type 0) (p : ℕ) (t1 t2 t3 : List ℕ) → IsFrame f n T S → p < n → T t1 → T t2 → T t3 →
    slice_index t1 p ≡ slice_index t2 p → Agree S t2 t3 → IsMoved T S p (slice_index t3 p) t1 (image f n (t1 ∷ t2 ∷ t3 ∷ []))
moves f n T S p t1 t2 t3 is low in1 in2 in3 at same = record {
  inside = is.kept.keeps t1 t2 t3 in1 in2 in3;
  same = image_like_first f n T S t1 t2 t3 is in1 in2 same;
  there = image_moves f n p t1 t2 t3 is.mal (is.kept.tuples t2 in2) (is.kept.tuples t3 in3) low at;
}

-- A step of any member, at a place where the table is known
pub steps : (f : Operation) (n : ℕ) (T : List ℕ → Type 0) (S : ℕ → Type 0) (p : ℕ) (row : ℕ → List ℕ) (root : ℕ → ℕ) (t : List ℕ) (v : ℕ) →
    IsFrame f n T S → p < n → IsKnown f.domain T S p row root → T t → v < f.domain → SameRoot f.domain root (slice_index t p) v →
    IsMoved T S p v t (step f n p row t v)
steps f n T S p row root t v is low known in_t small same = by (eqb (slice_index t p) v) refl
  where
    a_small : slice_index t p < f.domain
    a_small = value_below f.domain n t p (is.kept.tuples t in_t) low

    v_there : root v < f.domain
    v_there = rw (← same.roots) same.present

    far : IsMoved T S p v t (image f n (t ∷ row (slice_index t p) ∷ row v ∷ []))
    far = rw (known.there v small v_there) at (moves f n T S p t (row (slice_index t p)) (row v) is low in_t
        (known.inside (slice_index t p) a_small same.present) (known.inside v small v_there)
        (sym (known.there (slice_index t p) a_small same.present)) (known.together (slice_index t p) v a_small small same))

    by : (b : Bool) → eqb (slice_index t p) v ≡ b → IsMoved T S p v t (cond b t (image f n (t ∷ row (slice_index t p) ∷ row v ∷ [])))
    by true e = record { inside = in_t; same = λ j s. refl; there = eqb-true (slice_index t p) v e }
    by false e = far

-- a member with a at p goes to b, where two members that agree before p have a and b there
pub record Goes (T : List ℕ → Type 0) (S : ℕ → Type 0) (p b : ℕ) (t : List ℕ) : Type 0 where
  pub member : List ℕ
  pub moved : IsMoved T S p b t member

pub goes : (f : Operation) (n : ℕ) (T : List ℕ → Type 0) (S : ℕ → Type 0) (p a b : ℕ) (t : List ℕ) → IsFrame f n T S → p < n → T t → slice_index t p ≡ a → AreJoined T S p a b → Goes T S p b t
goes f n T S p a b t is low in_t at h = record {
  member = image f n (t ∷ h.one ∷ h.other ∷ []);
  moved = rw h.other_at at (moves f n T S p t h.one h.other is low in_t h.one_in h.other_in (at ∙ sym h.one_at) h.same);
}

pub joined-sym : (T : List ℕ → Type 0) (S : ℕ → Type 0) (p a b : ℕ) → AreJoined T S p a b → AreJoined T S p b a
joined-sym T S p a b h = record { one = h.other; other = h.one; one_in = h.other_in; other_in = h.one_in; same = λ j s. sym (h.same j s); one_at = h.other_at; other_at = h.one_at }

pub joined-trans : (f : Operation) (n : ℕ) (T : List ℕ → Type 0) (S : ℕ → Type 0) (p a b c : ℕ) → IsFrame f n T S → p < n → AreJoined T S p a b → AreJoined T S p b c → AreJoined T S p a c
joined-trans f n T S p a b c is low h k = from (goes f n T S p b c h.other is low h.other_in h.other_at k)
  where
    from : Goes T S p c h.other → AreJoined T S p a c
    from g = record {
      one = h.one;
      other = g.member;
      one_in = h.one_in;
      other_in = g.moved.inside;
      same = λ j s. h.same j s ∙ sym (g.moved.same j s);
      one_at = h.one_at;
      other_at = g.moved.there;
    }

pub root-sym : (d : ℕ) (root : ℕ → ℕ) (a b : ℕ) → SameRoot d root a b → SameRoot d root b a
root-sym d root a b h = record { roots = sym h.roots; present = rw (← h.roots) h.present }

pub root-trans : (d : ℕ) (root : ℕ → ℕ) (a b c : ℕ) → SameRoot d root a b → SameRoot d root b c → SameRoot d root a c
root-trans d root a b c h k = record { roots = h.roots ∙ k.roots; present = h.present }

-- sets with the same members have the same least
pub same_least : (d : ℕ) (P Q : ℕ → Type 0) (a b : ℕ) → ((v : ℕ) → P v → Q v) → ((v : ℕ) → Q v → P v) → IsLeastOf d P a → IsLeastOf d Q b → a ≡ b
same_least d P Q a b to back h k =
    let low : a ≤ b = h.first b k.below (back b k.holds) in
    let low' : b ≤ a = k.first a h.below (to a h.holds) in
    omega (arith, low, low')

-- what is known before a swap of x and y
pub record IsSwap (f : Operation) (n : ℕ) (T : List ℕ → Type 0) (S : ℕ → Type 0) (s : Sides) : Type 0 where
  pub frame : IsFrame f n T S
  pub x_low : s.x < n
  pub y_low : s.y < n
  pub known_x : IsKnown f.domain T S s.x s.rx s.cx
  pub known_y : IsKnown f.domain T (Also S s.x) s.y s.ry s.cy

pub also_frame : (f : Operation) (n : ℕ) (T : List ℕ → Type 0) (S : ℕ → Type 0) (x : ℕ) → IsFrame f n T S → x < n → IsFrame f n T (Also S x)
also_frame f n T S x is x_low = record { mal = is.mal; kept = is.kept; low = low }
  where
    low : (j : ℕ) → Also S x j → j < n
    low j (inl h) = is.low j h
    low j (inr e) = rw e x_low

-- members that agree before x and at y have values at x that stay together
pub stays : (f : Operation) (n : ℕ) (T : List ℕ → Type 0) (S : ℕ → Type 0) (s : Sides) (t u : List ℕ) → IsSwap f n T S s → T t → T u → Agree (Also S s.y) t u →
    StayTogether f.domain s (slice_index t s.x) (slice_index u s.x)
stays f n T S s t u is in_t in_u same = from (slice_index t s.x) (slice_index u s.x) refl refl
  where
    from : (a c : ℕ) → slice_index t s.x ≡ a → slice_index u s.x ≡ c → StayTogether f.domain s a c
    from a c is_a is_c = record { here = here; beyond = record { roots = sym (ap s.cy (sym at_y) ∙ is.known_y.joined m (s.rx a) in_m in_a near); present = is.known_y.present (s.rx a) in_a } }
      where
        a_low : a < f.domain
        a_low = rw (← is_a) (value_below f.domain n t s.x (is.frame.kept.tuples t in_t) is.x_low)

        c_low : c < f.domain
        c_low = rw (← is_c) (value_below f.domain n u s.x (is.frame.kept.tuples u in_u) is.x_low)

        here : SameRoot f.domain s.cx a c
        here = rw (← is_a, ← is_c) (record { roots = is.known_x.joined t u in_t in_u (λ j h. same j (inl h)); present = is.known_x.present t in_t })

        in_a : T (s.rx a)
        in_a = is.known_x.inside a a_low here.present

        in_c : T (s.rx c)
        in_c = is.known_x.inside c c_low (rw (← here.roots) here.present)

        at_c : slice_index u s.x ≡ slice_index (s.rx c) s.x
        at_c = is_c ∙ sym (is.known_x.there c c_low (rw (← here.roots) here.present))

        m : List ℕ
        m = image f n (t ∷ u ∷ s.rx c ∷ [])

        in_m : T m
        in_m = is.frame.kept.keeps t u (s.rx c) in_t in_u in_c

        near : Agree (Also S s.x) m (s.rx a)
        near j (inl h) = image_like_third f n T S t u (s.rx c) is.frame in_u in_c (λ k g. same k (inl g)) j h ∙ sym (is.known_x.together a c a_low c_low here j h)
        near j (inr e) = rw e (image_keeps f n s.x t u (s.rx c) is.frame.mal (is.frame.kept.tuples t in_t) (is.frame.kept.tuples u in_u) is.x_low at_c ∙ is_a ∙ sym (is.known_x.there a a_low here.present))

        at_y : slice_index m s.y ≡ slice_index (s.rx c) s.y
        at_y = image_moves f n s.y t u (s.rx c) is.frame.mal (is.frame.kept.tuples u in_u) (is.frame.kept.tuples (s.rx c) in_c) is.y_low (same s.y (inr refl))

pub stays-sym : (d : ℕ) (s : Sides) (a b : ℕ) → StayTogether d s a b → StayTogether d s b a
stays-sym d s a b h = record { here = root-sym d s.cx a b h.here; beyond = root-sym d s.cy (slice_index (s.rx a) s.y) (slice_index (s.rx b) s.y) h.beyond }

pub stays-trans : (d : ℕ) (s : Sides) (a b c : ℕ) → StayTogether d s a b → StayTogether d s b c → StayTogether d s a c
stays-trans d s a b c h k = record {
  here = root-trans d s.cx a b c h.here k.here;
  beyond = root-trans d s.cy (slice_index (s.rx a) s.y) (slice_index (s.rx b) s.y) (slice_index (s.rx c) s.y) h.beyond k.beyond;
}

stays_roots : (f : Operation) (n : ℕ) (s : Sides) (row : ℕ → List ℕ) (root : ℕ → ℕ) (a c : ℕ) → IsMadeX f n s row root → a < f.domain → c < f.domain → StayTogether f.domain s a c → root a ≡ root c
stays_roots f n s row root a c made low low' h =
    same_least f.domain (StayTogether f.domain s a) (StayTogether f.domain s c) (root a) (root c)
    (λ v k. stays-trans f.domain s c a v (stays-sym f.domain s a c h) k) (λ v k. stays-trans f.domain s a c v h k)
    (made.chosen a low h.here.present) (made.chosen c low' (rw (← h.here.roots) h.here.present))

row_at_x : (f : Operation) (n : ℕ) (T : List ℕ → Type 0) (S : ℕ → Type 0) (s : Sides) (row : ℕ → List ℕ) (root : ℕ → ℕ) (a : ℕ) → IsSwap f n T S s → IsMadeX f n s row root →
    a < f.domain → s.cx a < f.domain → IsMoved T (Also S s.x) s.y (slice_index (s.rx (root a)) s.y) (s.rx a) (row a)
row_at_x f n T S s row root a is made low present = from (made.chosen a low present)
  where
    from : IsLeastOf f.domain (StayTogether f.domain s a) (root a) → IsMoved T (Also S s.x) s.y (slice_index (s.rx (root a)) s.y) (s.rx a) (row a)
    from c = rw (made.moved a low present)
        (steps f n T (Also S s.x) s.y s.ry s.cy (s.rx a) (slice_index (s.rx (root a)) s.y) (also_frame f n T S s.x is.frame is.x_low) is.y_low is.known_y
        (is.known_x.inside a low present)
        (value_below f.domain n (s.rx (root a)) s.y (is.frame.kept.tuples (s.rx (root a)) (is.known_x.inside (root a) c.below (rw (← c.holds.here.roots) present))) is.y_low)
        c.holds.beyond)

-- swap, X
pub swap_x : (f : Operation) (n : ℕ) (T : List ℕ → Type 0) (S : ℕ → Type 0) (s : Sides) (row : ℕ → List ℕ) (root : ℕ → ℕ) → IsSwap f n T S s → IsMadeX f n s row root →
    IsKnown f.domain T (Also S s.y) s.x row root
swap_x f n T S s row root is made = record {
  inside = λ a low h. (row_at_x f n T S s row root a is made low (made.gone a low h)).inside;
  there = λ a low h. (row_at_x f n T S s row root a is made low (made.gone a low h)).same s.x (inr refl) ∙ is.known_x.there a low (made.gone a low h);
  present = λ t in_t. (made.chosen (slice_index t s.x) (low_at t in_t) (is.known_x.present t in_t)).below;
  together = λ a b low low' h. together a b low low' h.roots (made.gone a low h.present) (made.gone b low' (rw (← h.roots) h.present));
  joined = λ t u in_t in_u same. stays_roots f n s row root (slice_index t s.x) (slice_index u s.x) made (low_at t in_t) (low_at u in_u) (stays f n T S s t u is in_t in_u same);
  least = λ a low h. (made.chosen a low (made.gone a low h)).first a low (itself a low (made.gone a low h));
  fixed = λ a low h. sym (stays_roots f n s row root a (root a) made low h (made.chosen a low (made.gone a low h)).holds);
}
  where
    low_at : (t : List ℕ) → T t → slice_index t s.x < f.domain
    low_at t in_t = value_below f.domain n t s.x (is.frame.kept.tuples t in_t) is.x_low

    itself : (a : ℕ) → a < f.domain → s.cx a < f.domain → StayTogether f.domain s a a
    itself a low h = record { here = record { roots = refl; present = h }; beyond = record { roots = refl; present = is.known_y.present (s.rx a) (is.known_x.inside a low h) } }

    to_root : (a : ℕ) → a < f.domain → s.cx a < f.domain → Agree S (row a) (s.rx (root a))
    to_root a low h j g =
        (row_at_x f n T S s row root a is made low h).same j (inl g)
        ∙ is.known_x.together a (root a) low (made.chosen a low h).below (made.chosen a low h).holds.here j g

    together : (a b : ℕ) → a < f.domain → b < f.domain → root a ≡ root b → s.cx a < f.domain → s.cx b < f.domain → Agree (Also S s.y) (row a) (row b)
    together a b low low' same h h' j (inl g) = to_root a low h j g ∙ ap (λ r. slice_index (s.rx r) j) same ∙ sym (to_root b low' h' j g)
    together a b low low' same h h' j (inr e) = rw e ((row_at_x f n T S s row root a is made low h).there ∙ ap (λ r. slice_index (s.rx r) s.y) same ∙ sym (row_at_x f n T S s row root b is made low' h').there)

-- the image that leads from c, by way of x from p to q
pub led_row : (f : Operation) (n : ℕ) (T : List ℕ → Type 0) (S : ℕ → Type 0) (s : Sides) (c q : ℕ) → IsSwap f n T S s → c < f.domain → s.cy c < f.domain → q < f.domain →
    SameRoot f.domain s.cx (slice_index (s.ry c) s.x) q →
    IsMoved T S s.x q (s.ry c) (image f n (s.ry c ∷ s.rx (slice_index (s.ry c) s.x) ∷ s.rx q ∷ [])) ×
    (slice_index (image f n (s.ry c ∷ s.rx (slice_index (s.ry c) s.x) ∷ s.rx q ∷ [])) s.y ≡ led f s c (slice_index (s.ry c) s.x) q)
led_row f n T S s c q is low present q_low may = (
  rw (is.known_x.there q q_low q_there) at (moves f n T S s.x (s.ry c) (s.rx p) (s.rx q) is.frame is.x_low in_c
      (is.known_x.inside p p_low may.present) (is.known_x.inside q q_low q_there) (sym (is.known_x.there p p_low may.present)) (is.known_x.together p q p_low q_low may)),
  value-image f n (s.ry c ∷ s.rx p ∷ s.rx q ∷ []) s.y is.y_low ∙ ap (λ v. value_at f (v ∷ slice_index (s.rx p) s.y ∷ slice_index (s.rx q) s.y ∷ [])) (is.known_y.there c low present),
)
  where
    p : ℕ
    p = slice_index (s.ry c) s.x

    in_c : T (s.ry c)
    in_c = is.known_y.inside c low present

    p_low : p < f.domain
    p_low = value_below f.domain n (s.ry c) s.x (is.frame.kept.tuples (s.ry c) in_c) is.x_low

    q_there : s.cx q < f.domain
    q_there = rw (← may.roots) may.present

-- each value that is joined to c before x has an old root that c leads to
pub leads : (f : Operation) (n : ℕ) (T : List ℕ → Type 0) (S : ℕ → Type 0) (s : Sides) (c v : ℕ) → IsSwap f n T S s → c < f.domain → s.cy c < f.domain → AreJoined T S s.y c v →
    LeadsTo f s c (s.cy v)
leads f n T S s c v is low present joined =
    from (goes f n T S s.y c v (s.ry c) is.frame is.y_low (is.known_y.inside c low present) (is.known_y.there c low present) joined)
  where
    from : Goes T S s.y v (s.ry c) → LeadsTo f s c (s.cy v)
    from g = at (slice_index g.member s.x) refl (value_below f.domain n g.member s.x (is.frame.kept.tuples g.member g.moved.inside) is.x_low)
        (record { roots = is.known_x.joined (s.ry c) g.member (is.known_y.inside c low present) g.moved.inside (λ j h. sym (g.moved.same j h)); present = is.known_x.present (s.ry c) (is.known_y.inside c low present) })
      where
        at : (q : ℕ) → slice_index g.member s.x ≡ q → q < f.domain → SameRoot f.domain s.cx (slice_index (s.ry c) s.x) q → LeadsTo f s c (s.cy v)
        at q is_q q_low may = made (image f n (s.ry c ∷ s.rx (slice_index (s.ry c) s.x) ∷ s.rx q ∷ [])) (led_row f n T S s c q is low present q_low may)
          where
            made : (m : List ℕ) → IsMoved T S s.x q (s.ry c) m × (slice_index m s.y ≡ led f s c (slice_index (s.ry c) s.x) q) → LeadsTo f s c (s.cy v)
            made m (moved, at_y) = record {
              to = q;
              below = q_low;
              may = may;
              root_is = ap s.cy (sym at_y) ∙ is.known_y.joined m g.member moved.inside g.moved.inside near ∙ ap s.cy g.moved.there;
            }
              where
                near : Agree (Also S s.x) m g.member
                near j (inl h) = moved.same j h ∙ sym (g.moved.same j h)
                near j (inr e) = rw e (moved.there ∙ sym is_q)

-- what c leads to is an old root, and joined to c before x
pub record IsReached (d : ℕ) (T : List ℕ → Type 0) (S : ℕ → Type 0) (y : ℕ) (root : ℕ → ℕ) (c r : ℕ) : Type 0 where
  pub joined : AreJoined T S y c r
  pub low : r < d
  pub fixed : root r ≡ r

pub leads_back : (f : Operation) (n : ℕ) (T : List ℕ → Type 0) (S : ℕ → Type 0) (s : Sides) (c r : ℕ) → IsSwap f n T S s → c < f.domain → s.cy c < f.domain → LeadsTo f s c r →
    IsReached f.domain T S s.y s.cy c r
leads_back f n T S s c r is low present h =
    made (image f n (s.ry c ∷ s.rx (slice_index (s.ry c) s.x) ∷ s.rx h.to ∷ [])) (led_row f n T S s c h.to is low present h.below h.may)
  where
    made : (m : List ℕ) → IsMoved T S s.x h.to (s.ry c) m × (slice_index m s.y ≡ led f s c (slice_index (s.ry c) s.x) h.to) → IsReached f.domain T S s.y s.cy c r
    made m (moved, at_y) = record { joined = last stepped; low = r_low; fixed = r_fixed }
      where
        root_m : s.cy (slice_index m s.y) ≡ r
        root_m = ap s.cy at_y ∙ h.root_is

        m_low : slice_index m s.y < f.domain
        m_low = value_below f.domain n m s.y (is.frame.kept.tuples m moved.inside) is.y_low

        m_there : s.cy (slice_index m s.y) < f.domain
        m_there = is.known_y.present m moved.inside

        r_low : r < f.domain
        r_low = rw (← root_m) m_there

        r_fixed : s.cy r ≡ r
        r_fixed = ap s.cy (sym root_m) ∙ is.known_y.fixed (slice_index m s.y) m_low m_there ∙ root_m

        stepped : IsMoved T (Also S s.x) s.y r m (step f n s.y s.ry m r)
        stepped = steps f n T (Also S s.x) s.y s.ry s.cy m r (also_frame f n T S s.x is.frame is.x_low) is.y_low is.known_y moved.inside r_low (record { roots = root_m ∙ sym r_fixed; present = m_there })

        last : IsMoved T (Also S s.x) s.y r m (step f n s.y s.ry m r) → AreJoined T S s.y c r
        last k = record {
          one = s.ry c;
          other = step f n s.y s.ry m r;
          one_in = is.known_y.inside c low present;
          other_in = k.inside;
          same = λ j g. sym (k.same j (inl g) ∙ moved.same j g);
          one_at = is.known_y.there c low present;
          other_at = k.there;
        }

leads_same : (f : Operation) (n : ℕ) (T : List ℕ → Type 0) (S : ℕ → Type 0) (s : Sides) (c e r : ℕ) → IsSwap f n T S s → c < f.domain → s.cy c < f.domain → e < f.domain → s.cy e < f.domain →
    AreJoined T S s.y c e → LeadsTo f s c r → LeadsTo f s e r
leads_same f n T S s c e r is low present low' present' joined h = from (leads_back f n T S s c r is low present h)
  where
    from : IsReached f.domain T S s.y s.cy c r → LeadsTo f s e r
    from k = rw k.fixed at (leads f n T S s e r is low' present' (joined-trans f n T S s.y e c r is.frame is.y_low (joined-sym T S s.y c e joined) k.joined))

joined_roots : (f : Operation) (n : ℕ) (T : List ℕ → Type 0) (S : ℕ → Type 0) (s : Sides) (row : ℕ → List ℕ) (root : ℕ → ℕ) (c e : ℕ) → IsSwap f n T S s → IsMadeY f n s row root →
    c < f.domain → s.cy c < f.domain → e < f.domain → s.cy e < f.domain → AreJoined T S s.y c e → root c ≡ root e
joined_roots f n T S s row root c e is made low present low' present' joined =
    same_least f.domain (LeadsTo f s c) (LeadsTo f s e) (root c) (root e)
    (λ r h. leads_same f n T S s c e r is low present low' present' joined h)
    (λ r h. leads_same f n T S s e c r is low' present' low present (joined-sym T S s.y c e joined) h)
    (made.chosen c low present) (made.chosen e low' present')

-- the search for a value of x from the row of the root always finds one
pub finds : (f : Operation) (n : ℕ) (T : List ℕ → Type 0) (S : ℕ → Type 0) (s : Sides) (c b : ℕ) → IsSwap f n T S s → c < f.domain → s.cy c < f.domain → LeadsTo f s c b → LeadsTo f s b (s.cy c)
finds f n T S s c b is low present h = from (leads_back f n T S s c b is low present h)
  where
    from : IsReached f.domain T S s.y s.cy c b → LeadsTo f s b (s.cy c)
    from k = leads f n T S s b c is k.low (rw k.fixed k.low) (joined-sym T S s.y c b k.joined)

row_at_y : (f : Operation) (n : ℕ) (T : List ℕ → Type 0) (S : ℕ → Type 0) (s : Sides) (row : ℕ → List ℕ) (root : ℕ → ℕ) (c : ℕ) → IsSwap f n T S s → IsMadeY f n s row root →
    c < f.domain → s.cy c < f.domain → IsMoved T S s.y c (s.ry (root c)) (row c)
row_at_y f n T S s row root c is made low present =
    from (root c) (leads_back f n T S s c (root c) is low present (made.chosen c low present).holds) (made.kept c low present) (made.moved c low present) (eqb (s.cy (root c)) (s.cy c)) refl
  where
    from : (b : ℕ) → IsReached f.domain T S s.y s.cy c b → (SameRoot f.domain s.cy b c → row c ≡ s.ry c) → ((SameRoot f.domain s.cy b c → ⊥) → IsLed f n s b c (row c)) →
        (same : Bool) → eqb (s.cy b) (s.cy c) ≡ same → IsMoved T S s.y c (s.ry b) (row c)
    from b k kept moved true e = rw (kept near) (record {
      inside = is.known_y.inside c low present;
      same = λ j h. sym (is.known_y.together b c k.low low near j (inl h));
      there = is.known_y.there c low present;
    })
      where
        near : SameRoot f.domain s.cy b c
        near = record { roots = eqb-true (s.cy b) (s.cy c) e; present = rw k.fixed k.low }
    from b k kept moved false e = built (moved (λ h. eqb-false (s.cy b) (s.cy c) e h.roots))
      where
        there : s.cy b < f.domain
        there = rw k.fixed k.low

        built : IsLed f n s b c (row c) → IsMoved T S s.y c (s.ry b) (row c)
        built l = rw l.made (last (image f n (s.ry b ∷ s.rx (slice_index (s.ry b) s.x) ∷ s.rx l.to ∷ [])) (led_row f n T S s b l.to is k.low there l.below l.may))
          where
            last : (m : List ℕ) → IsMoved T S s.x l.to (s.ry b) m × (slice_index m s.y ≡ led f s b (slice_index (s.ry b) s.x) l.to) → IsMoved T S s.y c (s.ry b) (step f n s.y s.ry m c)
            last m (at_x, at_y) = whole (steps f n T (Also S s.x) s.y s.ry s.cy m c (also_frame f n T S s.x is.frame is.x_low) is.y_low is.known_y at_x.inside low (rw at_y l.meets))
              where
                whole : IsMoved T (Also S s.x) s.y c m (step f n s.y s.ry m c) → IsMoved T S s.y c (s.ry b) (step f n s.y s.ry m c)
                whole w = record { inside = w.inside; same = λ j h. w.same j (inl h) ∙ at_x.same j h; there = w.there }

-- swap, Y
pub swap_y : (f : Operation) (n : ℕ) (T : List ℕ → Type 0) (S : ℕ → Type 0) (s : Sides) (row : ℕ → List ℕ) (root : ℕ → ℕ) → IsSwap f n T S s → IsMadeY f n s row root →
    IsKnown f.domain T S s.y row root
swap_y f n T S s row root is made = record {
  inside = λ c low h. (row_at_y f n T S s row root c is made low (made.gone c low h)).inside;
  there = λ c low h. (row_at_y f n T S s row root c is made low (made.gone c low h)).there;
  present = λ t in_t. (made.chosen (slice_index t s.y) (low_at t in_t) (is.known_y.present t in_t)).below;
  together = λ a b low low' h. together a b low low' h.roots (made.gone a low h.present) (made.gone b low' (rw (← h.roots) h.present));
  joined = λ t u in_t in_u same. joined_roots f n T S s row root (slice_index t s.y) (slice_index u s.y) is made (low_at t in_t) (is.known_y.present t in_t) (low_at u in_u) (is.known_y.present u in_u)
      (record { one = t; other = u; one_in = in_t; other_in = in_u; same = same; one_at = refl; other_at = refl });
  least = λ c low h. least c low (made.gone c low h);
  fixed = λ c low h. fixed c low (made.gone c low h);
}
  where
    low_at : (t : List ℕ) → T t → slice_index t s.y < f.domain
    low_at t in_t = value_below f.domain n t s.y (is.frame.kept.tuples t in_t) is.y_low

    together : (a b : ℕ) → a < f.domain → b < f.domain → root a ≡ root b → s.cy a < f.domain → s.cy b < f.domain → Agree S (row a) (row b)
    together a b low low' same h h' j g =
        (row_at_y f n T S s row root a is made low h).same j g ∙ ap (λ r. slice_index (s.ry r) j) same ∙ sym ((row_at_y f n T S s row root b is made low' h').same j g)

    itself : (c : ℕ) → c < f.domain → s.cy c < f.domain → AreJoined T S s.y c c
    itself c low h = record {
      one = s.ry c;
      other = s.ry c;
      one_in = is.known_y.inside c low h;
      other_in = is.known_y.inside c low h;
      same = λ j g. refl;
      one_at = is.known_y.there c low h;
      other_at = is.known_y.there c low h;
    }

    least : (c : ℕ) → c < f.domain → s.cy c < f.domain → root c ≤ c
    least c low h =
        let first : root c ≤ s.cy c = (made.chosen c low h).first (s.cy c) h (leads f n T S s c c is low h (itself c low h)) in
        let old : s.cy c ≤ c = is.known_y.least c low h in
        omega (arith, first, old)

    fixed : (c : ℕ) → c < f.domain → s.cy c < f.domain → root (root c) ≡ root c
    fixed c low h = from (leads_back f n T S s c (root c) is low h (made.chosen c low h).holds)
      where
        from : IsReached f.domain T S s.y s.cy c (root c) → root (root c) ≡ root c
        from k = sym (joined_roots f n T S s row root c (root c) is made low h k.low (rw k.fixed k.low) k.joined)
