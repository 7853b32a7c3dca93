-- The set that a table stands for.
use Rattle.std.proofs.Common.{◌≡◌, ℕ, ◌<◌, ◌≤◌, ◌+◌, List, [], arith, ◌↔◌, ◌∙◌, subst, sym, eqb, ltb, ◌&&◌}
use Rattle.std.specs.Prelude.{slice_index}
use Rattle.pol_base.specs.Tuples.{IsTuple}
use Rattle.pol_optable.specs.Operations.{Operation}
use Rattle.pol_optable.specs.Tables.{IsOpTable}
use Rattle.pol_optable.specs.Identities.{IsMaltsev}
use Rattle.pol_maltsev.specs.Representations.{IsPreserved, InClosure, Represents}
use Rattle.pol_rows.specs.Signatures.{IsSignatureSize, count_triples}
use Rattle.pol_maltsev.specs.Orders.{InFront, IsNatural}
use Rattle.pol_maltsev.specs.Tables.{IsTable, ListsTable}
use Rattle.pol_maltsev.specs.Views.{TableView, classes_at, row_in, root_in, same_in, AreClasses, IsTableView, InTable, IsSoundTable, IsSwappedView, HaveOneShape, HaveOneSet, no_classes}
use Rattle.pol_maltsev.specs.Views.InTable.{listed, made}
use Rattle.pol_maltsev.proofs.TupleLemmas.{same_tuple, image_tuple}
use Rattle.pol_maltsev.proofs.OrderLemmas.{swap_table}
use Rattle.pol_maltsev.proofs.TableLemmas.{IsClose, close_at, same_set, table_size, table_represents, table_closure}

-- what is kept at a place
pub classes_are : (v : TableView) (p : ℕ) → IsTableView v → p < v.width → AreClasses v.domain v.width (classes_at v p)
classes_are v p view low = view.classes p no_classes (omega (arith, view.all_places))

-- the rows are tuples
pub row_tuple : (v : TableView) (p a : ℕ) → IsTableView v → p < v.width → a < v.domain → IsTuple v.domain v.width (row_in v p a)
row_tuple v p a view low a_low =
    let here : AreClasses v.domain v.width (classes_at v p) = classes_are v p view low in
    here.tuples a [] (omega (arith, here.all_rows))

-- a set that has the rows and is preserved has the members
pub set_within : (f : Operation) (v : TableView) (T : List ℕ → Type 0) → IsPreserved f v.width T → ((p a : ℕ) → p < v.width → a < f.domain → root_in v p a < f.domain → T (row_in v p a)) →
    (t : List ℕ) → InTable f v t → T t
set_within f v T kept rows t (listed p a low a_low there) = rows p a low a_low there
set_within f v T kept rows t (made q r s hq hr hs) =
    kept.keeps q r s (set_within f v T kept rows q hq) (set_within f v T kept rows r hr) (set_within f v T kept rows s hs)

-- all tuples
pub tuples_preserved : (f : Operation) (n : ℕ) → IsOpTable 3 f → IsPreserved f n (IsTuple f.domain n)
tuples_preserved f n is = record { tuples = λ t h. h; keeps = λ r s t hr hs ht. image_tuple f n r s t is hr hs ht }

-- the set is preserved
pub set_preserved : (f : Operation) (v : TableView) → IsOpTable 3 f → v.domain ≡ f.domain → IsTableView v → IsPreserved f v.width (InTable f v)
set_preserved f v is same view = record {
  tuples = set_within f v (IsTuple f.domain v.width) (tuples_preserved f v.width is) (λ p a low a_low there. rw same at (row_tuple v p a view low (rw same a_low)));
  keeps = λ r s t hr hs ht. made r s t hr hs ht;
}

-- the set that the rows and roots of a table tell of is the one that the table stands for
pub set_is : (f : Operation) (v : TableView) (T : List ℕ → Type 0) → IsMaltsev f → IsPreserved f v.width T → 1 ≤ v.width → IsTable v.width f.domain T v.order (row_in v) (root_in v) →
    (t : List ℕ) → InTable f v t ↔ T t
set_is f v T mal kept one table t = (
  within t,
  λ in_t. whole in_t (close_at f v.width v.width T (InTable f v) v.order (row_in v) (root_in v) t mal kept kept' within table (λ p a low a_low there. listed p a low a_low there) in_t one (omega arith)),
)
  where
    at : (k : ℕ) → k < v.width → (p a : ℕ) → slice_index v.order k ≡ p → a < f.domain → root_in v p a < f.domain → T (row_in v p a)
    at k low p a is a_low there = rw is at ((table.known k low).inside a a_low (rw is there))

    rows : (p a : ℕ) → p < v.width → a < f.domain → root_in v p a < f.domain → T (row_in v p a)
    rows p a low a_low there = from (table.order.found p low)
      where
        from : InFront v.order v.width p → T (row_in v p a)
        from h = at h.index h.early p a h.place a_low there

    within : (t : List ℕ) → InTable f v t → T t
    within = set_within f v T kept rows

    kept' : IsPreserved f v.width (InTable f v)
    kept' = record { tuples = λ t h. kept.tuples t (within t h); keeps = λ r s t hr hs ht. made r s t hr hs ht }

    whole : T t → IsClose (InTable f v) (InFront v.order v.width) t → InTable f v t
    whole in_t g =
        let same : g.member ≡ t = same_tuple g.member t v.width (kept.tuples g.member (within g.member g.inside)).long (kept.tuples t in_t).long (λ j j_low. g.near j (table.order.found j j_low)) in
        rw same at g.inside

-- so such a table is sound
pub sound_of_table : (f : Operation) (v : TableView) (T : List ℕ → Type 0) → IsOpTable 3 f → IsMaltsev f → v.domain ≡ f.domain → IsTableView v → IsPreserved f v.width T → IsTable v.width f.domain T v.order (row_in v) (root_in v) →
    IsSoundTable f v
sound_of_table f v T is mal same view kept table = record {
  operation = is;
  maltsev = mal;
  same_domain = same;
  view = view;
  table = same_set v.width f.domain T (InTable f v) v.order (row_in v) (root_in v) (λ t. ((set_is f v T mal kept view.some_places table t).1, (set_is f v T mal kept view.some_places table t).0)) table;
}

-- a swap keeps the set

pub swap_sound : (f : Operation) (k : ℕ) (old new : TableView) → IsSoundTable f old → k + 1 < old.width → HaveOneShape old new → IsTableView new → IsSwappedView f k old new → IsSoundTable f new × HaveOneSet f old new
swap_sound f k old new is low shape view swapped = (
  sound_of_table f new (InTable f old) is.operation is.maltsev (shape.domain ∙ is.same_domain) view kept' table,
  set_is f new (InTable f old) is.maltsev kept' view.some_places table,
)
  where
    kept : IsPreserved f old.width (InTable f old)
    kept = set_preserved f old is.operation is.same_domain is.view

    kept' : IsPreserved f new.width (InTable f old)
    kept' = rw shape.width kept

    table : IsTable new.width f.domain (InTable f old) new.order (row_in new) (root_in new)
    table = rw shape.width (swap_table f old.width k (InTable f old) old.order new.order (row_in old) (root_in old) (row_in new) (root_in new) is.maltsev kept is.table low swapped)

-- in the natural order the pairs of one class are the signature
pub natural_size : (f : Operation) (v : TableView) → IsSoundTable f v → IsNatural v.width v.order → IsSignatureSize v.width f.domain (InTable f v) (count_triples v.width v.domain (same_in v))
natural_size f v is natural =
    subst (λ d. IsSignatureSize v.width f.domain (InTable f v) (count_triples v.width d (λ i a b. eqb (root_in v i a) (root_in v i b) && ltb (root_in v i a) d))) (sym is.same_domain)
    (table_size f v.width (InTable f v) v.order (row_in v) (root_in v) (set_preserved f v is.operation is.same_domain is.view) natural.itself is.table)

-- rows that list each row of the table, and only members, represent its set
pub natural_represents : (f : Operation) (v : TableView) (rows : List (List ℕ)) → IsSoundTable f v → IsNatural v.width v.order → ListsTable v.width f.domain (InTable f v) (row_in v) (root_in v) rows → Represents v.width rows (InTable f v)
natural_represents f v rows is natural lists =
    table_represents f v.width (InTable f v) v.order (row_in v) (root_in v) rows (set_preserved f v is.operation is.same_domain is.view) natural.itself is.table lists

-- and their closure is its set
pub listed_closure : (f : Operation) (v : TableView) (rows : List (List ℕ)) → IsSoundTable f v → ListsTable v.width f.domain (InTable f v) (row_in v) (root_in v) rows → (t : List ℕ) → InClosure f v.width rows t ↔ InTable f v t
listed_closure f v rows is lists =
    table_closure f v.width (InTable f v) v.order (row_in v) (root_in v) rows is.maltsev (set_preserved f v is.operation is.same_domain is.view) is.view.some_places is.table lists
