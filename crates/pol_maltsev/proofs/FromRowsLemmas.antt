-- The table of what rows stand for.
use Rattle.std.proofs.Common.{◌≡◌, ℕ, ◌<◌, ◌≤◌, ◌+◌, List, [], ◌∷◌, ◌++◌, length, length-append, get_or, All, Contains, arith, refl, sym, ◌∙◌, ◌↔◌, ◌⊎◌, inl, inr}
use Rattle.std.proofs.lemmas.Bool.{cases_lt, cases_order}
use Rattle.std.proofs.lemmas.List.{get_or_append_left, get_or_at}
use Rattle.std.proofs.lemmas.List.Elements.{All-from_get_or, Contains-get_or}
use Rattle.pol_base.specs.Tuples.{IsTuple}
use Rattle.pol_optable.specs.Operations.{Operation, image}
use Rattle.pol_optable.specs.Tables.{IsOpTable}
use Rattle.pol_rows.specs.Signatures.{InSignature}
use Rattle.pol_rows.specs.RowLists.{RowsView, IsShownBy}
use Rattle.pol_rows.proofs.PairLemmas.{in_signature-shown}
use Rattle.pol_maltsev.specs.Representations.{IsPreserved}
use Rattle.pol_maltsev.specs.Compacts.{IsCompact, Members}
use Rattle.pol_maltsev.specs.Orders.{IsNatural, InFront}
use Rattle.pol_maltsev.specs.Tables.{IsTable, IsKnown}
use Rattle.pol_maltsev.specs.FromRows.{IsLeader, IsMadeOfRows, IsValueOfRows}
use Rattle.pol_maltsev.specs.Views.{TableView, ClassesView, IsTableView, AreClasses, AreMade, IsMade, InTable, IsSoundTable, row_in, root_in, row_of, root_of, with_value, no_classes}
use Rattle.pol_maltsev.proofs.TupleLemmas.{image_tuple}
use Rattle.pol_maltsev.proofs.ClosureLemmas.{closure_of_tuples}
use Rattle.pol_maltsev.proofs.OrderLemmas.{front_frame}
use Rattle.pol_maltsev.proofs.TableLemmas.{known_of_rows}
use Rattle.pol_maltsev.proofs.SetLemmas.{set_is, sound_of_table}
use Rattle.pol_maltsev.proofs.MadeLemmas.{made_none, made_more, made_classes}
use Rattle.pol_maltsev.proofs.FullLemmas.{natural_is_order}

-- the first value that follows the front of a row with a at the place
pub leader_found : (d i a b p q : ℕ) (rows : List (List ℕ)) → b < d → ((c : ℕ) → c < b → ¬ InSignature (Contains rows) i c a) → IsShownBy rows i b a p q → IsLeader d rows i a b p q
leader_found d i a b p q rows low none shown = record {
  least = record { below = low; holds = in_signature-shown rows i b a p q shown; first = λ c c_low h. first c h (cases_lt c b) };
  shown = shown;
}
  where
    first : (c : ℕ) → InSignature (Contains rows) i c a → (c < b) ⊎ (b ≤ c) → b ≤ c
    first c h (inl less) = absurd (none c less h)
    first c h (inr more) = more

-- a row with the number p, and one with the number q, are listed
first_listed : (rows : List (List ℕ)) (i a b p q : ℕ) → IsShownBy rows i a b p q → Contains rows (get_or rows p [])
first_listed rows i a b p q shown = Contains-get_or rows p [] shown.first_known

-- where a value follows the front of a row with a, a row has a
itself : (rows : List (List ℕ)) (i a b : ℕ) → InSignature (Contains rows) i b a → InSignature (Contains rows) i a a
itself rows i a b s = record { one = s.other; other = s.other; one_in = s.other_in; other_in = s.other_in; same_before = refl; one_at = s.other_at; other_at = s.other_at }

-- the value is the root of its class
pub value_root : (f : Operation) (d n i a p q : ℕ) (rows : List (List ℕ)) (smaller : ℕ → List ℕ) → d ≡ f.domain → All (IsTuple d n) rows → IsLeader d rows i a a p q →
    IsMade (IsValueOfRows f n i rows smaller) d n a (get_or rows p []) a
value_root f d n i a p q rows smaller same tuples leader = record {
  tuple = tuples p [] leader.shown.first_known;
  most = omega (arith, leader.least.below);
  holds = record {
    gone = λ _. leader.least.holds;
    chosen = λ _. rw (← same) leader.least;
    listed = λ _. first_listed rows i a a p q leader.shown;
    there = λ _. leader.shown.first_at;
    moved = λ _ other. absurd (other refl);
  };
}

-- the value has another root, and its row is made of the row of the root
pub value_moved : (f : Operation) (d n i a b p q : ℕ) (rows : List (List ℕ)) (smaller : ℕ → List ℕ) → IsOpTable 3 f → d ≡ f.domain → All (IsTuple d n) rows → IsLeader d rows i a b p q → (b ≡ a → ⊥) →
    IsTuple d n (smaller b) → IsMade (IsValueOfRows f n i rows smaller) d n a (image f n (smaller b ∷ get_or rows p [] ∷ get_or rows q [] ∷ [])) b
value_moved f d n i a b p q rows smaller is same tuples leader other base = record {
  tuple = rw same (image_tuple f n (smaller b) (get_or rows p []) (get_or rows q []) is (rw same at base) (rw same at (tuples p [] leader.shown.first_known)) (rw same at (tuples q [] leader.shown.second_known)));
  most = omega (arith, leader.least.below);
  holds = record {
    gone = λ _. itself rows i a b leader.least.holds;
    chosen = λ _. rw (← same) leader.least;
    listed = λ e. absurd (other e);
    there = λ e. absurd (other e);
    moved = λ _ _. record { pair = pair; made = refl };
  };
}
  where
    pair : InSignature (Contains rows) i b a
    pair = record {
      one = get_or rows p [];
      other = get_or rows q [];
      one_in = Contains-get_or rows p [] leader.shown.first_known;
      other_in = Contains-get_or rows q [] leader.shown.second_known;
      same_before = leader.shown.same_before;
      one_at = leader.shown.first_at;
      other_at = leader.shown.second_at;
    }

-- no row has the value
pub value_none : (f : Operation) (d n i a : ℕ) (rows : List (List ℕ)) (smaller : ℕ → List ℕ) (row : List ℕ) → d ≡ f.domain → a < d → IsTuple d n row → ¬ InSignature (Contains rows) i a a →
    IsMade (IsValueOfRows f n i rows smaller) d n a row d
value_none f d n i a rows smaller row same low tuple none = record {
  tuple = tuple;
  most = omega arith;
  holds = record {
    gone = λ h. absurd (omega (arith, h, same));
    chosen = λ h. absurd (none h);
    listed = λ e. absurd (omega (arith, e, low));
    there = λ e. absurd (omega (arith, e, low));
    moved = λ h _. absurd (none h);
  };
}

-- the root of a value with a smaller one is made
pub leader_smaller : (d i a b p q : ℕ) (rows : List (List ℕ)) → a < d → IsLeader d rows i a b p q → (b ≡ a → ⊥) → b < a
leader_smaller d i a b p q rows low leader other = by (cases_order b a)
  where
    most : b ≤ a
    most = leader.least.first a low (itself rows i a b leader.least.holds)

    by : (b ≡ a) ⊎ ((b < a) ⊎ (a < b)) → b < a
    by (inl e) = absurd (other e)
    by (inr (inl less)) = less
    by (inr (inr more)) = absurd (omega (arith, most, more))

-- what is made of a value stays so where the rows of the smaller values stay
value_same : (f : Operation) (n i a root : ℕ) (rows : List (List ℕ)) (one other : ℕ → List ℕ) (row : List ℕ) → a < f.domain → ((b : ℕ) → b < a → other b ≡ one b) → IsValueOfRows f n i rows one a row root → IsValueOfRows f n i rows other a row root
value_same f n i a root rows one other row low same h = record {
  gone = h.gone;
  chosen = h.chosen;
  listed = h.listed;
  there = h.there;
  moved = λ s apart. rw (same root (less s apart)) (h.moved s apart);
}
  where
    less : InSignature (Contains rows) i a a → (root ≡ a → ⊥) → root < a
    less s apart = by (cases_order root a)
      where
        by : (root ≡ a) ⊎ ((root < a) ⊎ (a < root)) → root < a
        by (inl e) = absurd (apart e)
        by (inr (inl l)) = l
        by (inr (inr m)) = absurd (omega (arith, (h.chosen s).first a low s, m))

-- one value more
pub values_more : (f : Operation) (d n i a root : ℕ) (rows : List (List ℕ)) (c : ClassesView) (row : List ℕ) → a < d → d ≡ f.domain → AreMade (IsValueOfRows f n i rows (row_of c)) d n a c → IsMade (IsValueOfRows f n i rows (row_of c)) d n a row root →
    AreMade (IsValueOfRows f n i rows (row_of (with_value c row root))) d n (a + 1) (with_value c row root)
values_more f d n i a root rows c row low same made one =
    from (made_more (IsValueOfRows f n i rows (row_of c)) d n a c row root made one)
  where
    kept : (b : ℕ) → b < a → row_of (with_value c row root) b ≡ row_of c b
    kept b less = get_or_append_left c.rows (row ∷ []) [] b (rw made.all_rows less)

    from : AreMade (IsValueOfRows f n i rows (row_of c)) d n (a + 1) (with_value c row root) → AreMade (IsValueOfRows f n i rows (row_of (with_value c row root))) d n (a + 1) (with_value c row root)
    from h = record {
      all_rows = h.all_rows;
      tuples = h.tuples;
      all_roots = h.all_roots;
      most = h.most;
      each = λ b b_low. value_same f n i b (root_of (with_value c row root) b) rows (row_of c) (row_of (with_value c row root)) (row_of (with_value c row root) b) (omega (arith, b_low, low, same))
          (λ e e_low. kept e (omega (arith, e_low, b_low))) (h.each b b_low);
    }

-- of no value
pub values_none : (f : Operation) (d n i : ℕ) (rows : List (List ℕ)) → AreMade (IsValueOfRows f n i rows (row_of no_classes)) d n 0 no_classes
values_none f d n i rows = made_none (IsValueOfRows f n i rows (row_of no_classes)) d n

-- the classes of one place
abbrev IsPlaceOfRows : Operation → ℕ → ℕ → List (List ℕ) → ℕ → ClassesView → Type 0
IsPlaceOfRows f d n rows i c = AreMade (IsValueOfRows f n i rows (row_of c)) d n d c

-- the classes of the first places
pub record ArePlacesOfRows (f : Operation) (d n : ℕ) (rows : List (List ℕ)) (count : ℕ) (places : List ClassesView) : Type 0 where
  pub long : length places ≡ count
  pub each : (i : ℕ) → i < count → AreMade (IsValueOfRows f n i rows (row_of (get_or places i no_classes))) d n d (get_or places i no_classes)

pub places_of_none : (f : Operation) (d n : ℕ) (rows : List (List ℕ)) → ArePlacesOfRows f d n rows 0 []
places_of_none f d n rows = record { long = refl; each = λ i low. absurd (omega (arith, low)) }

-- of one place more
pub places_of_more : (f : Operation) (d n p : ℕ) (rows : List (List ℕ)) (places : List ClassesView) (c : ClassesView) → ArePlacesOfRows f d n rows p places → AreMade (IsValueOfRows f n p rows (row_of c)) d n d c →
    ArePlacesOfRows f d n rows (p + 1) (places ++ c ∷ [])
places_of_more f d n p rows places c so_far one = record {
  long = length-append places (c ∷ []) ∙ rw so_far.long refl;
  each = λ q low. at q (cases_order q p) low;
}
  where
    at : (q : ℕ) → (q ≡ p) ⊎ ((q < p) ⊎ (p < q)) → q < p + 1 → IsPlaceOfRows f d n rows q (get_or (places ++ c ∷ []) q no_classes)
    at q (inl e) low = rw (get_or_at places c [] no_classes q (so_far.long ∙ sym e), e) one
    at q (inr (inl before)) low = rw (get_or_append_left places (c ∷ []) no_classes q (rw so_far.long before)) (so_far.each q before)
    at q (inr (inr after)) low = absurd (omega (arith, low, after))

-- what is made at a place, as the table of rows has it
made_of_rows : (f : Operation) (n i : ℕ) (rows : List (List ℕ)) (row : ℕ → List ℕ) (root : ℕ → ℕ) → ((a : ℕ) → a < f.domain → IsValueOfRows f n i rows row a (row a) (root a)) → IsMadeOfRows f n i rows row root
made_of_rows f n i rows row root each = record {
  gone = λ a low. (each a low).gone;
  chosen = λ a low. (each a low).chosen;
  listed = λ a low. (each a low).listed;
  there = λ a low. (each a low).there;
  moved = λ a low. (each a low).moved;
}

-- a table of what the rows stand for
pub record IsTableOfRows (f : Operation) (r : RowsView) (v : TableView) : Type 0 where
  pub view : IsTableView v
  pub sound : IsSoundTable f v
  pub set : (t : List ℕ) → InTable f v t ↔ Members f r t

-- the classes of all places make one
pub table_of_rows : (f : Operation) (r : RowsView) (p : ℕ) (ord : List ℕ) (places : List ClassesView) → IsCompact f r → IsNatural r.width ord → p ≡ r.width → ArePlacesOfRows f r.domain r.width r.rows p places →
    IsTableOfRows f r (record { domain = r.domain; width = r.width; order = ord; places = places })
table_of_rows f r p ord places is natural end so_far = from (rw end at so_far)
  where
    kept : IsPreserved f r.width (Members f r)
    kept = closure_of_tuples f r.width r.rows is.operation (rw is.same_domain at is.rows_are.tuples)

    from : ArePlacesOfRows f r.domain r.width r.rows r.width places → IsTableOfRows f r (record { domain = r.domain; width = r.width; order = ord; places = places })
    from made = record {
      view = view;
      sound = sound_of_table f v (Members f r) is.operation is.maltsev is.same_domain view kept table;
      set = set_is f v (Members f r) is.maltsev kept view.some_places table;
    }
      where
        v : TableView
        v = record { domain = r.domain; width = r.width; order = ord; places = places }

        view : IsTableView v
        view = record {
          domain_is = is.rows_are.domain_is;
          some_places = is.rows_are.some_places;
          few_places = is.rows_are.few_places;
          ordered = natural.long;
          below = All-from_get_or (λ p. p < r.width) ord 0 (λ k low. rw (natural.itself k (rw natural.long at low)) (rw natural.long at low));
          all_places = made.long;
          classes = All-from_get_or (AreClasses r.domain r.width) places no_classes
              (λ p low. made_classes (IsValueOfRows f r.width p r.rows (row_of (get_or places p no_classes))) r.domain r.width (get_or places p no_classes) (made.each p (rw made.long at low)));
        }

        at : (k : ℕ) → k < r.width → IsKnown f.domain (Members f r) (InFront ord k) k (row_in v k) (root_in v k)
        at k low = known_of_rows f r.width k (Members f r) ord r.rows (row_in v k) (root_in v k)
            (front_frame f r.width (Members f r) ord k is.maltsev kept (natural_is_order r.width ord natural) (omega (arith, low))) natural.itself low is.sound.represents
            (made_of_rows f r.width k r.rows (row_in v k) (root_in v k) (λ a a_low. (made.each k low).each a (rw is.same_domain a_low)))

        table : IsTable r.width f.domain (Members f r) ord (row_in v) (root_in v)
        table = record { order = natural_is_order r.width ord natural; known = λ k low. rw (natural.itself k low) (at k low) }
