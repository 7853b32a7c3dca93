-- The rows of a table as a list: they are a compact representation of its set.
use Rattle.std.proofs.Common.{◌≡◌, ℕ, ◌<◌, ◌≤◌, ◌+◌, List, [], ◌∷◌, ◌++◌, length, length-append, Contains, Bool, true, false, cond, arith, refl, ap, ◌∙◌, ◌↔◌, ◌⊎◌, inl, inr}
use Rattle.std.proofs.lemmas.Bool.{cases_order}
use Rattle.std.proofs.lemmas.List.Elements.{All-nil, All-push, All-weaker, Contains-append_left, Contains-push}
use Rattle.pol_base.specs.Tuples.{IsTuple}
use Rattle.pol_optable.specs.Operations.{Operation}
use Rattle.pol_rows.specs.Signatures.{sum_below, count_triples}
use Rattle.pol_rows.specs.RowLists.{RowsView}
use Rattle.pol_rows.proofs.SizeLemmas.{sum_below-more, sum_below-bound, size-one}
use Rattle.pol_maltsev.specs.Representations.{IsSound}
use Rattle.pol_maltsev.specs.Compacts.{IsCompact, Members}
use Rattle.pol_maltsev.specs.Orders.{IsNatural}
use Rattle.pol_maltsev.specs.Tables.{SameRoot, ListsTable}
use Rattle.pol_maltsev.specs.Views.{TableView, IsTableView, InTable, IsSoundTable, row_in, root_in, same_in}
use Rattle.pol_maltsev.specs.Views.InTable.{listed}
use Rattle.pol_maltsev.specs.Listings.{IsRowOf, AreRowsOf, AreRowsBefore, values_in}
use Rattle.pol_maltsev.proofs.SizeLemmas.{singles-le}
use Rattle.pol_maltsev.proofs.CompactLemmas.{sound_from}
use Rattle.pol_maltsev.proofs.SetLemmas.{set_preserved, row_tuple, natural_size, natural_represents, listed_closure}

-- no row yet
pub before_none : (v : TableView) → AreRowsBefore v 0 0 (record { domain = v.domain; width = v.width; rows = [] })
before_none v = record {
  shape = record { domain = refl; width = refl };
  only = All-nil (IsRowOf v);
  each = λ p a among low a_low there. absurd (none p a among);
  few = omega arith;
}
  where
    none : (p a : ℕ) → (p < 0) ⊎ ((p ≡ 0) × (a < 0)) → ⊥
    none p a (inl early) = omega (arith, early)
    none p a (inr here) = omega (arith, here.1)

-- one value more, which a member has
pub before_more : (v : TableView) (k a : ℕ) (r s : RowsView) → k < v.width → a < v.domain → same_in v k a a ≡ true → SameRoot v.domain (root_in v k) a a → AreRowsBefore v k a r →
    s ≡ record { domain = r.domain; width = r.width; rows = r.rows ++ row_in v k a ∷ [] } → AreRowsBefore v k (a + 1) s
before_more v k a r s low a_low test same before is = rw is (record {
  shape = record { domain = before.shape.domain; width = before.shape.width };
  only = All-push (IsRowOf v) r.rows (row_in v k a) before.only (record { place = k; value = a; placed = low; below = a_low; present = same.present; row = refl });
  each = λ p b among p_low b_low there. at p b among p_low b_low there;
  few = omega (arith, length-append r.rows (row_in v k a ∷ []), before.few, sum_below-more a (λ b. cond (same_in v k b b) 1 0), one);
})
  where
    one : 1 ≤ cond (same_in v k a a) 1 0
    one = rw test (omega arith)

    at : (p b : ℕ) → (p < k) ⊎ ((p ≡ k) × (b < a + 1)) → p < v.width → b < v.domain → root_in v p b < v.domain → Contains (r.rows ++ row_in v k a ∷ []) (row_in v p b)
    at p b (inl early) p_low b_low there = Contains-append_left r.rows (row_in v k a ∷ []) (row_in v p b) (before.each p b (inl early) p_low b_low there)
    at p b (inr here) p_low b_low there = by (cases_order b a)
      where
        by : (b ≡ a) ⊎ ((b < a) ⊎ (a < b)) → Contains (r.rows ++ row_in v k a ∷ []) (row_in v p b)
        by (inl e) = rw (here.0, e) (Contains-push r.rows (row_in v k a))
        by (inr (inl less)) = Contains-append_left r.rows (row_in v k a ∷ []) (row_in v p b) (before.each p b (inr (here.0, less)) p_low b_low there)
        by (inr (inr more)) = absurd (omega (arith, here.1, more))

-- or one that none has
pub before_same : (v : TableView) (k a : ℕ) (r : RowsView) → same_in v k a a ≡ false → ¬ SameRoot v.domain (root_in v k) a a → AreRowsBefore v k a r → AreRowsBefore v k (a + 1) r
before_same v k a r test none before = record {
  shape = before.shape;
  only = before.only;
  each = λ p b among p_low b_low there. at p b among p_low b_low there;
  few = omega (arith, before.few, sum_below-more a (λ b. cond (same_in v k b b) 1 0));
}
  where
    at : (p b : ℕ) → (p < k) ⊎ ((p ≡ k) × (b < a + 1)) → p < v.width → b < v.domain → root_in v p b < v.domain → Contains r.rows (row_in v p b)
    at p b (inl early) p_low b_low there = before.each p b (inl early) p_low b_low there
    at p b (inr here) p_low b_low there = by (cases_order b a)
      where
        by : (b ≡ a) ⊎ ((b < a) ⊎ (a < b)) → Contains r.rows (row_in v p b)
        by (inl e) = absurd (none (record { roots = refl; present = rw (here.0, e) at there }))
        by (inr (inl less)) = before.each p b (inr (here.0, less)) p_low b_low there
        by (inr (inr more)) = absurd (omega (arith, here.1, more))

-- all values of the place
pub before_place : (v : TableView) (k : ℕ) (r : RowsView) → AreRowsBefore v k v.domain r → AreRowsBefore v (k + 1) 0 r
before_place v k r before = record {
  shape = before.shape;
  only = before.only;
  each = λ p a among p_low a_low there. before.each p a (at p a among a_low) p_low a_low there;
  few = omega (arith, before.few, sum_below-more k (λ p. values_in v p v.domain));
}
  where
    at : (p a : ℕ) → (p < k + 1) ⊎ ((p ≡ k + 1) × (a < 0)) → a < v.domain → (p < k) ⊎ ((p ≡ k) × (a < v.domain))
    at p a (inl early) a_low = by (cases_order p k)
      where
        by : (p ≡ k) ⊎ ((p < k) ⊎ (k < p)) → (p < k) ⊎ ((p ≡ k) × (a < v.domain))
        by (inl e) = inr (e, a_low)
        by (inr (inl less)) = inl less
        by (inr (inr more)) = absurd (omega (arith, early, more))
    at p a (inr here) a_low = absurd (omega (arith, here.1))

-- all places
pub before_all : (v : TableView) (k : ℕ) (r : RowsView) → k ≡ v.width → AreRowsBefore v k 0 r → AreRowsOf v r
before_all v k r end before = record {
  shape = before.shape;
  only = before.only;
  each = λ p a p_low a_low there. before.each p a (inl (rw end p_low)) p_low a_low there;
  few = omega (arith, before.few, ap (λ n. sum_below n (λ p. values_in v p v.domain)) end);
}

-- so few rows that there is room for one more
pub before_room : (v : TableView) (k a : ℕ) (r : RowsView) → IsTableView v → k < v.width → a < v.domain → AreRowsBefore v k a r → length r.rows < 1048576
before_room v k a r view low a_low before =
    omega (arith, before.few, sum_below-bound k 5 (λ p. values_in v p v.domain) (λ p p_low. few p v.domain view.domain_is.few), few k a (omega (arith, a_low, view.domain_is.few)), low, view.few_places)
  where
    bit : (test : Bool) → cond test 1 0 ≤ 1
    bit true = omega arith
    bit false = omega arith

    few : (p count : ℕ) → count ≤ 5 → values_in v p count ≤ 5
    few p count low = omega (arith, low, sum_below-bound count 1 (λ a. cond (same_in v p a a) 1 0) (λ a a_low. bit (same_in v p a a)))

-- the rows are at most as many as the pairs of one class
few_rows : (v : TableView) (r : RowsView) → AreRowsOf v r → length r.rows ≤ count_triples v.width v.domain (same_in v)
few_rows v r rows = omega (arith, rows.few, singles-le v.width v.domain (same_in v))

-- the row of a value that is present is a member
pub row_inside : (f : Operation) (v : TableView) (t : List ℕ) → IsSoundTable f v → IsRowOf v t → InTable f v t
row_inside f v t is h = rw h.row (listed h.place h.value h.placed (rw (← is.same_domain) h.below) (rw (← is.same_domain) h.present))

-- so the rows list the table
lists : (f : Operation) (v : TableView) (r : RowsView) → IsSoundTable f v → AreRowsOf v r → ListsTable v.width f.domain (InTable f v) (row_in v) (root_in v) r.rows
lists f v r is rows = record {
  inside = All-weaker (IsRowOf v) (InTable f v) (λ t h. row_inside f v t is h) r.rows rows.only;
  listed = λ p a low a_low there. rows.each p a low (rw is.same_domain a_low) (rw is.same_domain there);
}

-- the rows of a table in the natural order are a compact representation, and stand for its set
pub rows_stand : (f : Operation) (v : TableView) (r : RowsView) → IsSoundTable f v → IsNatural v.width v.order → AreRowsOf v r → IsCompact f r × ((t : List ℕ) → Members f r t ↔ InTable f v t)
rows_stand f v r is natural rows = (
  record {
    operation = is.operation;
    maltsev = is.maltsev;
    same_domain = rows.shape.domain ∙ is.same_domain;
    rows_are = record {
      domain_is = rw rows.shape.domain is.view.domain_is;
      some_places = rw rows.shape.width is.view.some_places;
      few_places = rw rows.shape.width is.view.few_places;
      few_rows = omega (arith, rows.few, sum_below-bound v.width 5 (λ p. values_in v p v.domain) (λ p low. few p), is.view.few_places);
      tuples = All-weaker (IsRowOf v) (IsTuple r.domain r.width) (λ t h. tuple t h) r.rows rows.only;
    };
    sound = rw rows.shape.width sound;
  },
  rw rows.shape.width (listed_closure f v r.rows is (lists f v r is rows)),
)
  where
    bit : (test : Bool) → cond test 1 0 ≤ 1
    bit true = omega arith
    bit false = omega arith

    few : (p : ℕ) → values_in v p v.domain ≤ 5
    few p = omega (arith, is.view.domain_is.few, sum_below-bound v.domain 1 (λ a. cond (same_in v p a a) 1 0) (λ a a_low. bit (same_in v p a a)))

    tuple : (t : List ℕ) → IsRowOf v t → IsTuple r.domain r.width t
    tuple t h = rw (rows.shape.domain, rows.shape.width, h.row) (row_tuple v h.place h.value is.view h.placed h.below)

    sound : IsSound f v.width r.rows
    sound = sound_from f v.width (InTable f v) r.rows is.maltsev (set_preserved f v is.operation is.same_domain is.view) is.view.some_places (natural_represents f v r.rows is natural (lists f v r is rows))
        (λ size s. omega (arith, few_rows v r rows, size-one v.width f.domain (InTable f v) size (count_triples v.width v.domain (same_in v)) s (natural_size f v is natural)))
