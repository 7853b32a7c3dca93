-- The table of the members that read a row of a relation.
use Rattle.std.proofs.Common.{◌≡◌, ℕ, ◌<◌, ◌≤◌, List, length, get_or, All, arith, refl, sym, ◌∙◌, ◌↔◌}
use Rattle.std.specs.Prelude.{slice_index, ◌≢◌, AllPairs}
use Rattle.std.proofs.lemmas.List.{get_or_default}
use Rattle.std.proofs.lemmas.List.Elements.{All-from_get_or, All-weaker}
use Rattle.pol_relation.specs.Relations.{RelationView}
use Rattle.pol_optable.specs.Operations.{Operation, Preserves}
use Rattle.pol_maltsev.specs.Representations.{ReadsRow, IsPreserved}
use Rattle.pol_maltsev.specs.Orders.{IsNatural, AreFirst}
use Rattle.pol_maltsev.specs.Restrictions.{AreFirsts, AreReaders, IsRestricted}
use Rattle.pol_maltsev.specs.Scopes.{ReadsOnly}
use Rattle.pol_maltsev.specs.Views.{TableView, InTable, IsSoundTable, IsReordered}
use Rattle.pol_maltsev.specs.Views.InTable.{listed}
use Rattle.pol_maltsev.proofs.MeetingLemmas.{reads_row_kept}
use Rattle.pol_maltsev.proofs.SetLemmas.{set_preserved, set_within}
use Rattle.pol_maltsev.proofs.RestrictTables.{restricted_reads, readers_preserved}

-- where each row reads a row of a preserved relation, each member does
pub reads_only_set : (f : Operation) (v : TableView) (scope : List ℕ) (r : RelationView) → IsSoundTable f v → Preserves f r → All (λ p. p < v.width) scope → length scope ≡ r.arity → ReadsOnly v scope r.rows →
    (t : List ℕ) → InTable f v t ↔ ReadsRow (InTable f v) scope r.rows t
reads_only_set f v scope r is pres below long only t = (
  set_within f v (ReadsRow (InTable f v) scope r.rows)
      (reads_row_kept f v.width (InTable f v) scope r is.operation.arity_is (set_preserved f v is.operation is.same_domain is.view) pres below long)
      (λ p a low a_low there. record { inside = listed p a low a_low there; row = (only.each p low).each a (rw is.same_domain a_low) (rw is.same_domain there) }) t,
  λ h. h.inside,
)

-- the natural order has places
pub natural_below : (n : ℕ) (ord : List ℕ) → IsNatural n ord → All (λ p. p < n) ord
natural_below n ord natural = All-from_get_or (λ p. p < n) ord 0 (λ k low. rw (natural.itself k (rw natural.long at low)) (rw natural.long at low))

-- each of them once
pub natural_apart : (n : ℕ) (ord : List ℕ) → IsNatural n ord → AllPairs (λ p q. p ≢ q) ord
natural_apart n ord natural i j d less low same =
    let inside : j < n = rw natural.long at low in
    let at_i : get_or ord i d ≡ i = get_or_default ord i d 0 (omega (arith, less, low)) ∙ natural.itself i (omega (arith, less, inside)) in
    let at_j : get_or ord j d ≡ j = get_or_default ord j d 0 low ∙ natural.itself j inside in
    let equal : i ≡ j = sym at_i ∙ same ∙ at_j in
    omega (arith, less, equal)

-- and an order that begins with all of it is itself natural
pub natural_front : (n : ℕ) (places ord : List ℕ) → IsNatural n places → AreFirst places ord → length ord ≡ n → IsNatural n ord
natural_front n places ord natural front long = record {
  long = long;
  itself = λ k low. front k (rw natural.long low) ∙ natural.itself k low;
}

-- sets with the same members have the same readers
pub reads_row_same : (T U : List ℕ → Type 0) (scope : List ℕ) (rows : List (List ℕ)) → ((t : List ℕ) → T t → U t) → (t : List ℕ) → ReadsRow T scope rows t → ReadsRow U scope rows t
reads_row_same T U scope rows same t h = record { inside = same t h.inside; row = h.row }

-- the members that agree with readers, in another order, are those that read a row
pub met_set : (f : Operation) (scope first : List ℕ) (rows found : List (List ℕ)) (old mid cut new : TableView) → IsReordered f 0 old mid → AreFirsts mid.order scope first → AreReaders (InTable f mid) scope rows found →
    ((t : List ℕ) → InTable f cut t ↔ IsRestricted (InTable f mid) found mid.order (length first) t) → IsReordered f 0 cut new → (t : List ℕ) → InTable f new t ↔ ReadsRow (InTable f old) scope rows t
met_set f scope first rows found old mid cut new before firsts readers restricted after t = (
  λ h. reads_row_same (InTable f mid) (InTable f old) scope rows (λ u. (before.set u).0) t ((reads t).0 ((restricted t).0 ((after.set t).0 h))),
  λ h. (after.set t).1 ((restricted t).1 ((reads t).1 (reads_row_same (InTable f old) (InTable f mid) scope rows (λ u. (before.set u).1) t h))),
)
  where
    reads : (u : List ℕ) → IsRestricted (InTable f mid) found mid.order (length first) u ↔ ReadsRow (InTable f mid) scope rows u
    reads = restricted_reads (InTable f mid) mid.order scope first rows found firsts readers

-- readers are members
pub readers_inside : (T : List ℕ → Type 0) (scope : List ℕ) (rows found : List (List ℕ)) → AreReaders T scope rows found → All T found
readers_inside T scope rows found readers = All-weaker (ReadsRow T scope rows) T (λ t h. h.inside) found readers.inside
