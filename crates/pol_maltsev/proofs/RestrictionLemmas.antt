-- The table of a smaller set: values at a place, later places, earlier places; and the table in the natural order.
use Rattle.std.proofs.Common.{◌≡◌, ℕ, zero, suc, ◌<◌, ◌≤◌, ◌+◌, List, [], ◌∷◌, All, arith, sym, refl, ap, ◌∙◌, ◌↔◌, ◌⊎◌, inl, inr, Bool, true, false, eqb, cond, add-one}
use Rattle.std.specs.Prelude.{slice_index}
use Rattle.std.proofs.lemmas.Bool.{cases_lt}
use Rattle.std.proofs.lemmas.List.Elements.{All-contains}
use Rattle.pol_optable.specs.Operations.{Operation, image}
use Rattle.pol_base.specs.Tuples.{IsTuple}
use Rattle.pol_optable.specs.Identities.{IsMaltsev}
use Rattle.pol_maltsev.specs.Representations.{IsPreserved}
use Rattle.pol_rows.specs.Signatures.{InSignature}
use Rattle.pol_maltsev.specs.Tables.{Agree, Also, SameRoot, IsKnown, step, IsMoved, AreJoined, IsTable}
use Rattle.pol_maltsev.specs.Orders.{IsOrder, InFront}
use Rattle.pol_maltsev.specs.Restrictions.{AreValues, IsPart, IsMadeLate, HasListed, SharesBase, IsMadeEarly, IsCovered}
use Rattle.pol_maltsev.proofs.TupleLemmas.{value_below, value-image, same_front, front_at}
use Rattle.pol_maltsev.proofs.SwapLemmas.{IsFrame, Goes, goes, steps, joined-sym, joined-trans, same_least}
use Rattle.pol_maltsev.proofs.OrderLemmas.{front_more, front_frame}

-- two present values are in one class exactly where two members agree before and have them
pub same_is_joined : (d : ℕ) (T : List ℕ → Type 0) (S : ℕ → Type 0) (p a b : ℕ) (row : ℕ → List ℕ) (root : ℕ → ℕ) → IsKnown d T S p row root → a < d → b < d → SameRoot d root a b ↔ AreJoined T S p a b
same_is_joined d T S p a b row root known low low' = (
  λ h. record {
    one = row a;
    other = row b;
    one_in = known.inside a low h.present;
    other_in = known.inside b low' (rw (← h.roots) h.present);
    same = known.together a b low low' h;
    one_at = known.there a low h.present;
    other_at = known.there b low' (rw (← h.roots) h.present);
  },
  λ j. record { roots = rw (j.one_at, j.other_at) at (known.joined j.one j.other j.one_in j.other_in j.same); present = rw j.one_at at (known.present j.one j.one_in) },
)

-- a member near t before k, with a value of V at p
pub record IsNearBy (U : List ℕ → Type 0) (S : ℕ → Type 0) (p : ℕ) (V : ℕ → Type 0) (t : List ℕ) : Type 0 where
  pub member : List ℕ
  pub inside : U member
  pub near : Agree S member t
  pub value : V (slice_index member p)

-- a step keeps the values at p in V
step_value : (f : Operation) (n k p j v : ℕ) (ord : List ℕ) (row : ℕ → ℕ → List ℕ) (root : ℕ → ℕ → ℕ) (V : ℕ → Type 0) (t : List ℕ) → p < n → AreValues f k p ord row root V →
    V (slice_index t p) → V (slice_index (row j (slice_index t j)) p) → V (slice_index (row j v) p) → V (slice_index (step f n j (row j) t v) p)
step_value f n k p j v ord row root V t p_low values h h' h'' = by (eqb (slice_index t j) v)
  where
    by : (b : Bool) → V (slice_index (cond b t (image f n (t ∷ row j (slice_index t j) ∷ row j v ∷ []))) p)
    by true = h
    by false = rw (value-image f n (t ∷ row j (slice_index t j) ∷ row j v ∷ []) p p_low) (values.closed (slice_index t p) (slice_index (row j (slice_index t j)) p) (slice_index (row j v) p) h h' h'')

-- values at A place: from the rows at the first k places each member is met before k with a value of V at p
pub values_at : (f : Operation) (n k p m : ℕ) (U : List ℕ → Type 0) (ord : List ℕ) (row : ℕ → ℕ → List ℕ) (root : ℕ → ℕ → ℕ) (V : ℕ → Type 0) (t : List ℕ) →
    IsMaltsev f → IsPreserved f n U → IsOrder n ord → k ≤ n → p < n → ((i : ℕ) → i < k → IsKnown f.domain U (InFront ord i) (slice_index ord i) (row (slice_index ord i)) (root (slice_index ord i))) →
    AreValues f k p ord row root V → U t → m < k → IsNearBy U (InFront ord (m + 1)) p V t
values_at f n k p zero U ord row root V t mal kept order k_low p_low known values in_t low = record {
  member = row (slice_index ord 0) (slice_index t (slice_index ord 0));
  inside = (known 0 low).inside (slice_index t (slice_index ord 0)) small present;
  near = λ j h. at j (front_more ord 0 j h);
  value = values.of_rows 0 (slice_index t (slice_index ord 0)) low small present;
}
  where
    small : slice_index t (slice_index ord 0) < f.domain
    small = value_below f.domain n t (slice_index ord 0) (kept.tuples t in_t) (order.below 0 (omega (arith, low, k_low)))

    present : root (slice_index ord 0) (slice_index t (slice_index ord 0)) < f.domain
    present = (known 0 low).present t in_t

    at : (j : ℕ) → Also (InFront ord 0) (slice_index ord 0) j → slice_index (row (slice_index ord 0) (slice_index t (slice_index ord 0))) j ≡ slice_index t j
    at j (inl h) = absurd (omega (arith, h.early))
    at j (inr e) = rw e ((known 0 low).there (slice_index t (slice_index ord 0)) small present)
values_at f n k p (suc m) U ord row root V t mal kept order k_low p_low known values in_t low =
    from (values_at f n k p m U ord row root V t mal kept order k_low p_low known values in_t (omega (arith, low)))
  where
    from : IsNearBy U (InFront ord (m + 1)) p V t → IsNearBy U (InFront ord (suc m + 1)) p V t
    from g = next (slice_index ord (suc m)) refl (rw (add-one m) at g.near) (known (suc m) low) (order.below (suc m) (omega (arith, low, k_low)))
      where
        next : (o : ℕ) → slice_index ord (suc m) ≡ o → Agree (InFront ord (suc m)) g.member t → IsKnown f.domain U (InFront ord (suc m)) o (row o) (root o) → o < n → IsNearBy U (InFront ord (suc m + 1)) p V t
        next o is_o near here o_low = moved (steps f n U (InFront ord (suc m)) o (row o) (root o) g.member (slice_index t o) (front_frame f n U ord (suc m) mal kept order (omega (arith, low, k_low))) o_low here g.inside t_small same)
          where
            t_small : slice_index t o < f.domain
            t_small = value_below f.domain n t o (kept.tuples t in_t) o_low

            g_small : slice_index g.member o < f.domain
            g_small = value_below f.domain n g.member o (kept.tuples g.member g.inside) o_low

            same : SameRoot f.domain (root o) (slice_index g.member o) (slice_index t o)
            same = record { roots = here.joined g.member t g.inside in_t near; present = here.present g.member g.inside }

            moved : IsMoved U (InFront ord (suc m)) o (slice_index t o) g.member (step f n o (row o) g.member (slice_index t o)) → IsNearBy U (InFront ord (suc m + 1)) p V t
            moved w = record {
              member = step f n o (row o) g.member (slice_index t o);
              inside = w.inside;
              near = λ j h. at j (front_more ord (suc m) j h);
              value = step_value f n k p o (slice_index t o) ord row root V g.member p_low values g.value
                  (rw is_o at (values.of_rows (suc m) (slice_index g.member o) low g_small (rw is_o (here.present g.member g.inside))))
                  (rw is_o at (values.of_rows (suc m) (slice_index t o) low t_small (rw is_o (here.present t in_t))));
            }
              where
                at : (j : ℕ) → Also (InFront ord (suc m)) (slice_index ord (suc m)) j → slice_index (step f n o (row o) g.member (slice_index t o)) j ≡ slice_index t j
                at j (inl h) = w.same j h ∙ near j h
                at j (inr e) = rw (e, is_o) w.there

-- later places: the old classes of the values found
pub late_known : (f : Operation) (n : ℕ) (T U : List ℕ → Type 0) (S : ℕ → Type 0) (p : ℕ) (V : ℕ → Type 0) (old_row : ℕ → List ℕ) (old : ℕ → ℕ) (row : ℕ → List ℕ) (root : ℕ → ℕ) →
    IsPreserved f n T → p < n → IsPart T U S → IsKnown f.domain T S p old_row old → IsMadeLate f.domain U S p V old row root → ((t : List ℕ) → U t → V (slice_index t p)) → IsKnown f.domain U S p row root
late_known f n T U S p V old_row old row root kept p_low part known made all = record {
  inside = λ a low h. made.inside a low (made.found a low h);
  there = λ a low h. made.there a low (made.found a low h);
  present = λ t in_t. rw (made.old_root (slice_index t p) (low_at t in_t) (all t in_t)) (known.present t (part.within t in_t));
  together = λ a b low low' h. together a b low low' h (made.found a low h.present) (made.found b low' (rw (← h.roots) h.present));
  joined = λ t u in_t in_u same.
      made.old_root (slice_index t p) (low_at t in_t) (all t in_t) ∙ known.joined t u (part.within t in_t) (part.within u in_u) same
      ∙ sym (made.old_root (slice_index u p) (low_at u in_u) (all u in_u));
  least = λ a low h. rw (made.old_root a low (made.found a low h)) (known.least a low (was a low h));
  fixed = λ a low h. rw (made.old_root a low (made.found a low h)) (fixed a low (made.found a low h) (was a low h));
}
  where
    low_at : (t : List ℕ) → U t → slice_index t p < f.domain
    low_at t in_t = value_below f.domain n t p (kept.tuples t (part.within t in_t)) p_low

    was : (a : ℕ) → a < f.domain → root a < f.domain → old a < f.domain
    was a low h = rw (← made.old_root a low (made.found a low h)) h

    together : (a b : ℕ) → a < f.domain → b < f.domain → SameRoot f.domain root a b → V a → V b → Agree S (row a) (row b)
    together a b low low' h va vb = made.together a b low low' va vb (record { roots = sym (made.old_root a low va) ∙ h.roots ∙ made.old_root b low' vb; present = was a low h.present })

    fixed : (a : ℕ) → a < f.domain → V a → old a < f.domain → root (old a) ≡ old a
    fixed a low va h = made.old_root (old a) h (made.classes a (old a) low h va (record { roots = sym (known.fixed a low h); present = h })) ∙ known.fixed a low h

-- one found member gives the rows of its whole class: a step of it is found too
pub spread : (f : Operation) (n : ℕ) (T U : List ℕ → Type 0) (S : ℕ → Type 0) (p c : ℕ) (row : ℕ → List ℕ) (root : ℕ → ℕ) (t : List ℕ) → IsFrame f n T S → p < n → IsPart T U S →
    IsKnown f.domain T S p row root → U t → c < f.domain → SameRoot f.domain root (slice_index t p) c → IsMoved U S p c t (step f n p row t c)
spread f n T U S p c row root t is low part known in_t c_low same = from (steps f n T S p row root t c is low known (part.within t in_t) c_low same)
  where
    from : IsMoved T S p c t (step f n p row t c) → IsMoved U S p c t (step f n p row t c)
    from w = record { inside = part.decided t (step f n p row t c) in_t w.inside w.same; same = w.same; there = w.there }

-- earlier places: the listed members cover the set at Q, which has the places of S and j
shared_joined : (U : List ℕ → Type 0) (S : ℕ → Type 0) (j c b : ℕ) (rows : List (List ℕ)) (base : ℕ → List ℕ) (d : ℕ) (row : ℕ → List ℕ) (root : ℕ → ℕ) → All U rows → IsMadeEarly d rows S j base row root →
    SharesBase rows S j base c b → AreJoined U S j c b
shared_joined U S j c b rows base d row root all made h = record {
  one = h.member;
  other = base b;
  one_in = All-contains U rows h.member all h.listed;
  other_in = All-contains U rows (base b) all (made.base_listed b h.owner);
  same = h.near;
  one_at = h.at;
  other_at = made.base_at b h.owner;
}

joined_shared : (f : Operation) (n : ℕ) (U : List ℕ → Type 0) (S Q : ℕ → Type 0) (j c b : ℕ) (rows : List (List ℕ)) (base : ℕ → List ℕ) (row : ℕ → List ℕ) (root : ℕ → ℕ) → IsFrame f n U S → j < n →
    ((i : ℕ) → S i → Q i) → Q j → All U rows → ((t : List ℕ) → U t → IsCovered rows Q t) → IsMadeEarly f.domain rows S j base row root → HasListed rows j b → AreJoined U S j c b → SharesBase rows S j base c b
joined_shared f n U S Q j c b rows base row root is low sub in_q all covers made owner joined =
    from (goes f n U S j b c (base b) is low (All-contains U rows (base b) all (made.base_listed b owner)) (made.base_at b owner) (joined-sym U S j c b joined))
  where
    from : Goes U S j c (base b) → SharesBase rows S j base c b
    from g = at (covers g.member g.moved.inside)
      where
        at : IsCovered rows Q g.member → SharesBase rows S j base c b
        at m = record { owner = owner; member = m.member; listed = m.listed; at = m.same j in_q ∙ g.moved.there; near = λ i h. m.same i (sub i h) ∙ g.moved.same i h }

pub early_known : (f : Operation) (n : ℕ) (U : List ℕ → Type 0) (S Q : ℕ → Type 0) (j : ℕ) (rows : List (List ℕ)) (base : ℕ → List ℕ) (row : ℕ → List ℕ) (root : ℕ → ℕ) → IsFrame f n U S → j < n →
    ((i : ℕ) → S i → Q i) → Q j → All U rows → ((t : List ℕ) → U t → IsCovered rows Q t) → IsMadeEarly f.domain rows S j base row root → IsKnown f.domain U S j row root
early_known f n U S Q j rows base row root is low sub in_q all covers made = record {
  inside = λ c c_low h. All-contains U rows (row c) all (made.listed c c_low (made.gone c c_low h));
  there = λ c c_low h. made.at c c_low (made.gone c c_low h);
  present = λ t in_t. (made.chosen (slice_index t j) (low_at t in_t) (held t in_t)).below;
  together = λ a b a_low b_low h. together a b a_low b_low h.roots (made.gone a a_low h.present) (made.gone b b_low (rw (← h.roots) h.present));
  joined = λ t u in_t in_u same. roots (slice_index t j) (slice_index u j) (low_at t in_t) (low_at u in_u) (held t in_t) (held u in_u)
      (record { one = t; other = u; one_in = in_t; other_in = in_u; same = same; one_at = refl; other_at = refl });
  least = λ c c_low h. (made.chosen c c_low (made.gone c c_low h)).first c c_low (itself c (made.gone c c_low h));
  fixed = λ c c_low h. sym (roots c (root c) c_low h (made.gone c c_low h) (made.chosen c c_low (made.gone c c_low h)).holds.owner (to_root c c_low (made.gone c c_low h)));
}
  where
    low_at : (t : List ℕ) → U t → slice_index t j < f.domain
    low_at t in_t = value_below f.domain n t j (is.kept.tuples t in_t) low

    held : (t : List ℕ) → U t → HasListed rows j (slice_index t j)
    held t in_t = from (covers t in_t)
      where
        from : IsCovered rows Q t → HasListed rows j (slice_index t j)
        from m = record { member = m.member; listed = m.listed; at = m.same j in_q }

    itself : (c : ℕ) → HasListed rows j c → SharesBase rows S j base c c
    itself c h = record { owner = h; member = base c; listed = made.base_listed c h; at = made.base_at c h; near = λ i g. refl }

    to_root : (c : ℕ) → c < f.domain → HasListed rows j c → AreJoined U S j c (root c)
    to_root c c_low h = shared_joined U S j c (root c) rows base f.domain row root all made (made.chosen c c_low h).holds

    over : (a c b : ℕ) → AreJoined U S j a c → SharesBase rows S j base a b → SharesBase rows S j base c b
    over a c b joined h = joined_shared f n U S Q j c b rows base row root is low sub in_q all covers made h.owner
        (joined-trans f n U S j c a b is low (joined-sym U S j a c joined) (shared_joined U S j a b rows base f.domain row root all made h))

    roots : (a c : ℕ) → a < f.domain → c < f.domain → HasListed rows j a → HasListed rows j c → AreJoined U S j a c → root a ≡ root c
    roots a c a_low c_low ha hc joined = same_least f.domain (SharesBase rows S j base a) (SharesBase rows S j base c) (root a) (root c)
        (λ b h. over a c b joined h) (λ b h. over c a b (joined-sym U S j a c joined) h) (made.chosen a a_low ha) (made.chosen c c_low hc)

    together : (a b : ℕ) → a < f.domain → b < f.domain → root a ≡ root b → HasListed rows j a → HasListed rows j b → Agree S (row a) (row b)
    together a b a_low b_low same ha hb i g = made.near a a_low ha i g ∙ ap (λ r. slice_index (base r) i) same ∙ sym (made.near b b_low hb i g)

-- all values of the smaller set at a later place are found
pub all_found : (f : Operation) (n k : ℕ) (T U : List ℕ → Type 0) (ord : List ℕ) (V : ℕ → Type 0) (old_row : ℕ → List ℕ) (old : ℕ → ℕ) (row : ℕ → ℕ → List ℕ) (root : ℕ → ℕ → ℕ) (t : List ℕ) →
    IsMaltsev f → IsPreserved f n T → IsPreserved f n U → IsOrder n ord → 1 ≤ k → k < n → IsPart T U (InFront ord k) → IsKnown f.domain T (InFront ord k) (slice_index ord k) old_row old →
    ((i : ℕ) → i < k → IsKnown f.domain U (InFront ord i) (slice_index ord i) (row (slice_index ord i)) (root (slice_index ord i))) →
    AreValues f k (slice_index ord k) ord row root V → ((a b : ℕ) → a < f.domain → b < f.domain → V a → SameRoot f.domain old a b → V b) → U t → V (slice_index t (slice_index ord k))
all_found f n zero T U ord V old_row old row root t mal kept kept' order one k_low part known new values classes in_t = absurd (omega (arith, one))
all_found f n (suc m) T U ord V old_row old row root t mal kept kept' order one k_low part known new values classes in_t =
    from (rw (add-one m) at (values_at f n (suc m) (slice_index ord (suc m)) m U ord row root V t mal kept' order (omega (arith, k_low)) (order.below (suc m) k_low) new values in_t (omega arith)))
  where
    from : IsNearBy U (InFront ord (suc m)) (slice_index ord (suc m)) V t → V (slice_index t (slice_index ord (suc m)))
    from g = classes (slice_index g.member (slice_index ord (suc m))) (slice_index t (slice_index ord (suc m)))
        (value_below f.domain n g.member (slice_index ord (suc m)) (kept'.tuples g.member g.inside) (order.below (suc m) k_low))
        (value_below f.domain n t (slice_index ord (suc m)) (kept'.tuples t in_t) (order.below (suc m) k_low)) g.value
        (record { roots = known.joined g.member t (part.within g.member g.inside) (part.within t in_t) g.near; present = known.present g.member (part.within g.member g.inside) })

-- more first places decide it too
pub part_more : (T U : List ℕ → Type 0) (ord : List ℕ) (q k : ℕ) → q ≤ k → IsPart T U (InFront ord q) → IsPart T U (InFront ord k)
part_more T U ord q k low part = record {
  within = part.within;
  decided = λ t u in_t in_u same. part.decided t u in_t in_u (λ j h. same j (record { index = h.index; early = omega (arith, low, h.early); place = h.place }));
}

-- restriction to the members that the first q places decide
pub restrict_table : (f : Operation) (n q : ℕ) (T U : List ℕ → Type 0) (ord : List ℕ) (old_row : ℕ → ℕ → List ℕ) (old : ℕ → ℕ → ℕ) (row : ℕ → ℕ → List ℕ) (root : ℕ → ℕ → ℕ)
    (rows : List (List ℕ)) (base : ℕ → ℕ → List ℕ) (V : ℕ → ℕ → Type 0) →
    IsMaltsev f → IsPreserved f n T → IsPreserved f n U → 1 ≤ q → IsTable n f.domain T ord old_row old → IsPart T U (InFront ord q) →
    All U rows → ((t : List ℕ) → U t → IsCovered rows (InFront ord q) t) →
    ((k : ℕ) → k < q → k < n → IsMadeEarly f.domain rows (InFront ord k) (slice_index ord k) (base k) (row (slice_index ord k)) (root (slice_index ord k))) →
    ((k : ℕ) → q ≤ k → k < n → IsMadeLate f.domain U (InFront ord k) (slice_index ord k) (V k) (old (slice_index ord k)) (row (slice_index ord k)) (root (slice_index ord k))) →
    ((k : ℕ) → q ≤ k → k < n → AreValues f k (slice_index ord k) ord row root (V k)) →
    IsTable n f.domain U ord row root
restrict_table f n q T U ord old_row old row root rows base V mal kept kept' one table part all covers early late values = record {
  order = table.order;
  known = λ k low. below (suc k) k (omega arith) low;
}
  where
    Known : ℕ → Type 0
    Known k = IsKnown f.domain U (InFront ord k) (slice_index ord k) (row (slice_index ord k)) (root (slice_index ord k))

    next : (k : ℕ) → k < n → ((i : ℕ) → i < k → Known i) → Known k
    next k low new = by (cases_lt k q)
      where
        by : (k < q) ⊎ (q ≤ k) → Known k
        by (inl before) = early_known f n U (InFront ord k) (InFront ord q) (slice_index ord k) rows (base k) (row (slice_index ord k)) (root (slice_index ord k))
            (front_frame f n U ord k mal kept' table.order (omega (arith, low))) (table.order.below k low)
            (λ i h. record { index = h.index; early = omega (arith, before, h.early); place = h.place }) (record { index = k; early = before; place = refl }) all covers (early k before low)
        by (inr after) = late_known f n T U (InFront ord k) (slice_index ord k) (V k) (old_row (slice_index ord k)) (old (slice_index ord k)) (row (slice_index ord k)) (root (slice_index ord k))
            kept (table.order.below k low) (part_more T U ord q k after part) (table.known k low) (late k after low)
            (λ t in_t. all_found f n k T U ord (V k) (old_row (slice_index ord k)) (old (slice_index ord k)) row root t mal kept kept' table.order (omega (arith, one, after)) low
            (part_more T U ord q k after part) (table.known k low) new (values k after low) (late k after low).classes in_t)

    below : (m k : ℕ) → k < m → k < n → Known k
    below zero k h low = absurd (omega (arith, h))
    below (suc m) k h low = next k low (λ i i_low. below m i (omega (arith, h, i_low)) (omega (arith, i_low, low)))

-- in the natural order the classes are the signature
pub natural_joined : (d n i a b : ℕ) (T : List ℕ → Type 0) (ord : List ℕ) → ((t : List ℕ) → T t → IsTuple d n t) → ((k : ℕ) → k < n → slice_index ord k ≡ k) → i < n →
    AreJoined T (InFront ord i) i a b ↔ InSignature T i a b
natural_joined d n i a b T ord tuples natural low = (
  λ j. record {
    one = j.one;
    other = j.other;
    one_in = j.one_in;
    other_in = j.other_in;
    one_at = j.one_at;
    other_at = j.other_at;
    same_before = same_front j.one j.other i ((tuples j.one j.one_in).long ∙ sym (tuples j.other j.other_in).long)
        (λ k k_low. j.same k (record { index = k; early = k_low; place = natural k (omega (arith, k_low, low)) }));
  },
  λ s. record {
    one = s.one;
    other = s.other;
    one_in = s.one_in;
    other_in = s.other_in;
    one_at = s.one_at;
    other_at = s.other_at;
    same = λ j h. front_at s.one s.other i j s.same_before (let e : h.index ≡ j = sym (natural h.index (omega (arith, h.early, low))) ∙ h.place in rw e at h.early);
  },
)
