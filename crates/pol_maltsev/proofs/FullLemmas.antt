-- The table of all tuples.
use Rattle.std.proofs.Common.{◌≡◌, ℕ, ◌<◌, ◌≤◌, ◌+◌, List, [], ◌∷◌, ◌++◌, length, length-append, ◌⊎◌, inl, inr, get_or, arith, sym, refl, ◌∙◌, ◌↔◌}
use Rattle.std.specs.Prelude.{slice_index}
use Rattle.std.proofs.Math.ListN.{set, replicate}
use Rattle.std.proofs.lemmas.List.{get_or-set_same, get_or-set_other, length-replicate, length-set, get_or-replicate, get_or_at, get_or_append_left}
use Rattle.std.proofs.lemmas.List.Elements.{All-set, All-from_get_or}
use Rattle.std.proofs.lemmas.Bool.{cases_order}
use Rattle.pol_base.specs.Tuples.{IsDomain, IsTuple}
use Rattle.pol_optable.specs.Operations.{Operation}
use Rattle.pol_optable.specs.Tables.{IsOpTable}
use Rattle.pol_optable.specs.Identities.{IsMaltsev}
use Rattle.pol_maltsev.specs.Orders.{InFront, IsOrder, IsNatural}
use Rattle.pol_maltsev.specs.Tables.{Agree, IsTable, IsKnown}
use Rattle.pol_maltsev.specs.Views.{ClassesView, no_classes, AreClasses, IsMade, TableView, IsTableView, InTable, IsSoundTable, IsFull, IsFullAt, AreMade, row_in, root_in}
use Rattle.pol_maltsev.proofs.OrderLemmas.{same_sides}
use Rattle.pol_maltsev.proofs.TableLemmas.{full_known}
use Rattle.pol_maltsev.proofs.MadeLemmas.{made_classes}
use Rattle.pol_maltsev.proofs.SetLemmas.{tuples_preserved, row_tuple, sound_of_table, set_is}

-- the natural order is one
pub natural_is_order : (n : ℕ) (ord : List ℕ) → IsNatural n ord → IsOrder n ord
natural_is_order n ord natural = record {
  long = natural.long;
  below = λ k low. rw (natural.itself k low) low;
  once = λ i k i_low k_low same. sym (natural.itself i i_low) ∙ same ∙ natural.itself k k_low;
  found = λ p low. record { index = p; early = low; place = natural.itself p low };
}

-- its rows and roots tell of all tuples
pub full_table : (f : Operation) (v : TableView) → IsOpTable 3 f → v.domain ≡ f.domain → IsTableView v → IsNatural v.width v.order → IsFull v → IsTable v.width f.domain (IsTuple f.domain v.width) v.order (row_in v) (root_in v)
full_table f v is same view natural full = record {
  order = natural_is_order v.width v.order natural;
  known = λ k low. rw (natural.itself k low) (at k low);
}
  where
    Row : ℕ → ℕ → List ℕ
    Row p a = row_in v p a

    here : (p a : ℕ) → p < v.width → a < f.domain → IsFullAt v.width p a (row_in v p a) (root_in v p a)
    here p a low a_low = (full p low).each a (rw same a_low)

    there : (p a : ℕ) → p < v.width → a < f.domain → slice_index (row_in v p a) p ≡ a
    there p a low a_low = rw (here p a low a_low).row_is (get_or-set_same (replicate v.width 0) p a 0 (rw (length-replicate {A = ℕ} v.width 0) low))

    agrees : (p a b : ℕ) → p < v.width → a < f.domain → b < f.domain → Agree (InFront v.order p) (row_in v p a) (row_in v p b)
    agrees p a b low a_low b_low j h =
        let before : j < p = rw (sym (natural.itself h.index (omega (arith, h.early, low))) ∙ h.place) at h.early in
        rw ((here p a low a_low).row_is, (here p b low b_low).row_is)
        (get_or-set_other (replicate v.width 0) p j a 0 (λ e. absurd (omega (arith, e, before))) ∙ sym (get_or-set_other (replicate v.width 0) p j b 0 (λ e. absurd (omega (arith, e, before)))))

    at : (p : ℕ) → p < v.width → IsKnown f.domain (IsTuple f.domain v.width) (InFront v.order p) p (row_in v p) (root_in v p)
    at p low = same_sides f v.width (IsTuple f.domain v.width) (InFront v.order p) p (row_in v p) (λ a. 0) (row_in v p) (root_in v p) (tuples_preserved f v.width is) low
        (λ a a_low. refl) (λ a a_low. (here p a low a_low).root_is)
        (full_known f.domain v.width (InFront v.order p) p (row_in v p) is.domain_is.some (λ a a_low. rw same at (row_tuple v p a view low (rw same a_low)))
        (λ a a_low. there p a low a_low) (λ a b a_low b_low. agrees p a b low a_low b_low))

-- so it is sound
pub full_sound : (f : Operation) (v : TableView) → IsOpTable 3 f → IsMaltsev f → v.domain ≡ f.domain → IsTableView v → IsNatural v.width v.order → IsFull v → IsSoundTable f v
full_sound f v is mal same view natural full = sound_of_table f v (IsTuple f.domain v.width) is mal same view (tuples_preserved f v.width is) (full_table f v is same view natural full)

-- and stands for all tuples
pub full_set : (f : Operation) (v : TableView) → IsOpTable 3 f → IsMaltsev f → v.domain ≡ f.domain → IsTableView v → IsNatural v.width v.order → IsFull v → (t : List ℕ) → InTable f v t ↔ IsTuple f.domain v.width t
full_set f v is mal same view natural full = set_is f v (IsTuple f.domain v.width) mal (tuples_preserved f v.width is) view.some_places (full_table f v is same view natural full)

-- the natural order of one place more
pub natural_more : (n : ℕ) (ord : List ℕ) → IsNatural n ord → IsNatural (n + 1) (ord ++ n ∷ [])
natural_more n ord natural = record {
  long = length-append ord (n ∷ []) ∙ rw natural.long refl;
  itself = λ k low. at k (cases_order k n) low;
}
  where
    at : (k : ℕ) → (k ≡ n) ⊎ ((k < n) ⊎ (n < k)) → k < n + 1 → slice_index (ord ++ n ∷ []) k ≡ k
    at k (inl e) low = get_or_at ord n [] 0 k (natural.long ∙ sym e) ∙ sym e
    at k (inr (inl before)) low = get_or_append_left ord (n ∷ []) 0 k (rw natural.long before) ∙ natural.itself k before
    at k (inr (inr after)) low = absurd (omega (arith, low, after))

-- the row and the root of one value
pub full_made : (d n p a : ℕ) → p < n → a < d → IsMade (IsFullAt n p) d n a (set (replicate n 0) p a) 0
full_made d n p a low a_low = record {
  tuple = record {
    long = length-set (replicate n 0) p a ∙ length-replicate {A = ℕ} n 0;
    below = All-set (λ v. v < d) (replicate n 0) p a a_low (All-from_get_or (λ v. v < d) (replicate n 0) 0 (λ k k_low. rw (get_or-replicate {A = ℕ} n k 0 0 (rw (length-replicate {A = ℕ} n 0) at k_low)) (omega (arith, a_low))));
  };
  most = omega arith;
  holds = record { row_is = refl; root_is = refl };
}

-- classes of the first places
pub record AreFull (d n count : ℕ) (places : List ClassesView) : Type 0 where
  pub long : length places ≡ count
  pub each : (p : ℕ) → p < count → AreMade (IsFullAt n p) d n d (get_or places p no_classes)

-- of one place more
pub are_full_more : (d n p : ℕ) (places : List ClassesView) (c : ClassesView) → AreFull d n p places → AreMade (IsFullAt n p) d n d c → AreFull d n (p + 1) (places ++ c ∷ [])
are_full_more d n p places c full one = record {
  long = length-append places (c ∷ []) ∙ rw full.long refl;
  each = λ q low. at q (cases_order q p) low;
}
  where
    at : (q : ℕ) → (q ≡ p) ⊎ ((q < p) ⊎ (p < q)) → q < p + 1 → AreMade (IsFullAt n q) d n d (get_or (places ++ c ∷ []) q no_classes)
    at q (inl e) low = rw (get_or_at places c [] no_classes q (full.long ∙ sym e), e) one
    at q (inr (inl before)) low = rw (get_or_append_left places (c ∷ []) no_classes q (rw full.long before)) (full.each q before)
    at q (inr (inr after)) low = absurd (omega (arith, low, after))

-- of all places
pub full_view : (d n : ℕ) (ord : List ℕ) (places : List ClassesView) → IsDomain d → 1 ≤ n → n ≤ 4096 → IsNatural n ord → AreFull d n n places →
    IsTableView (record { domain = d; width = n; order = ord; places = places })
full_view d n ord places is one few natural full = record {
  domain_is = is;
  some_places = one;
  few_places = few;
  ordered = natural.long;
  below = All-from_get_or (λ p. p < n) ord 0 (λ k low. rw (natural.itself k (rw natural.long at low)) (rw natural.long at low));
  all_places = full.long;
  classes = All-from_get_or (AreClasses d n) places no_classes (λ p low. made_classes (IsFullAt n p) d n (get_or places p no_classes) (full.each p (rw full.long at low)));
}

-- the classes of all places make a table of all tuples
pub record IsFullTable (f : Operation) (v : TableView) : Type 0 where
  pub view : IsTableView v
  pub sound : IsSoundTable f v
  pub set : (t : List ℕ) → InTable f v t ↔ IsTuple f.domain v.width t

pub full_is : (f : Operation) (d n p : ℕ) (ord : List ℕ) (places : List ClassesView) → IsOpTable 3 f → IsMaltsev f → d ≡ f.domain → 1 ≤ n → n ≤ 4096 → IsNatural n ord → n ≤ p → AreFull d n p places → p ≤ n →
    IsFullTable f (record { domain = d; width = n; order = ord; places = places })
full_is f d n p ord places is mal same one few natural low full high = from (full_view d n ord places (rw same is.domain_is) one few natural full')
  where
    end : p ≡ n
    end = omega (arith, low, high)

    full' : AreFull d n n places
    full' = rw end at full

    from : IsTableView (record { domain = d; width = n; order = ord; places = places }) → IsFullTable f (record { domain = d; width = n; order = ord; places = places })
    from view = record {
      view = view;
      sound = full_sound f (record { domain = d; width = n; order = ord; places = places }) is mal same view natural full'.each;
      set = full_set f (record { domain = d; width = n; order = ord; places = places }) is mal same view natural full'.each;
    }
