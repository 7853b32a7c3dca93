-- A table after a restriction to the members that agree with listed ones at the first places.
use Rattle.std.proofs.Common.{◌≡◌, ℕ, ◌<◌, ◌≤◌, List, All, get_or, refl, sym, ◌∙◌, ◌↔◌, [], ◌∷◌, length}
use Rattle.std.specs.Prelude.{slice_index}
use Rattle.std.proofs.lemmas.List.Elements.{Contains-get_or, All-contains}
use Rattle.pol_optable.specs.Operations.{Operation, Preserves, image}
use Rattle.pol_relation.specs.Relations.{RelationView}
use Rattle.pol_maltsev.specs.Representations.{IsPreserved, ReadsRow}
use Rattle.pol_maltsev.specs.Orders.{InFront, IsFrontScope}
use Rattle.pol_maltsev.specs.Tables.{IsTable}
use Rattle.pol_maltsev.specs.Restrictions.{IsPart, IsRestricted, IsMadeEarly, IsMadeLate, AreValues, AreFirsts, AreReaders, first_row}
use Rattle.pol_maltsev.specs.Views.{TableView, IsTableView, InTable, IsSoundTable, HaveOneShape, row_in, root_in}
use Rattle.pol_maltsev.proofs.RestrictionLemmas.{restrict_table}
use Rattle.pol_maltsev.proofs.MeetingLemmas.{reads_row_kept}
use Rattle.pol_maltsev.proofs.TableLemmas.{reading_part}
use Rattle.pol_maltsev.proofs.NextLemmas.{readers_cover}
use Rattle.pol_maltsev.proofs.SetLemmas.{set_preserved, set_is, sound_of_table}

-- the first places decide which members are kept
pub restricted_part : (T : List ℕ → Type 0) (rows : List (List ℕ)) (ord : List ℕ) (q : ℕ) → IsPart T (IsRestricted T rows ord q) (InFront ord q)
restricted_part T rows ord q = record {
  within = λ t h. h.inside;
  decided = λ t u h in_u same. record {
    inside = in_u;
    covered = record { member = h.covered.member; listed = h.covered.listed; same = λ j g. h.covered.same j g ∙ sym (same j g) };
  };
}

-- the listed members are kept
pub listed_restricted : (T : List ℕ → Type 0) (rows : List (List ℕ)) (ord : List ℕ) (q : ℕ) → All T rows → All (IsRestricted T rows ord q) rows
listed_restricted T rows ord q all k e low = record {
  inside = all k e low;
  covered = record { member = get_or rows k e; listed = Contains-get_or rows k e low; same = λ j g. refl };
}

-- what a restriction makes of a table, where V has the values at each later place
pub record IsRestrictedView (f : Operation) (q : ℕ) (found : List (List ℕ)) (V : ℕ → ℕ → Type 0) (old new : TableView) : Type 0 where
  pub shape : HaveOneShape old new
  pub order : new.order ≡ old.order
  pub view : IsTableView new
  pub early : (k : ℕ) → k < q → k < old.width
      → IsMadeEarly f.domain found (InFront old.order k) (slice_index old.order k) (first_row found (slice_index old.order k)) (row_in new (slice_index old.order k)) (root_in new (slice_index old.order k))
  pub late : (k : ℕ) → q ≤ k → k < old.width
      → IsMadeLate f.domain (IsRestricted (InTable f old) found old.order q) (InFront old.order k) (slice_index old.order k) (V k) (root_in old (slice_index old.order k)) (row_in new (slice_index old.order k)) (root_in new (slice_index old.order k))
  pub values : (k : ℕ) → q ≤ k → k < old.width → AreValues f k (slice_index old.order k) old.order (row_in new) (root_in new) (V k)

-- the table is right for the members that are kept
restricted_table : (f : Operation) (q : ℕ) (found : List (List ℕ)) (V : ℕ → ℕ → Type 0) (old new : TableView) → IsSoundTable f old → 1 ≤ q → All (InTable f old) found → IsPreserved f old.width (IsRestricted (InTable f old) found old.order q) →
    IsRestrictedView f q found V old new → IsTable new.width f.domain (IsRestricted (InTable f old) found old.order q) new.order (row_in new) (root_in new)
restricted_table f q found V old new is one all kept made = rw (made.shape.width, made.order)
    (restrict_table f old.width q (InTable f old) (IsRestricted (InTable f old) found old.order q) old.order (row_in old) (root_in old) (row_in new) (root_in new) found (λ k. first_row found (slice_index old.order k)) V is.maltsev
    (set_preserved f old is.operation is.same_domain is.view) kept one is.table (restricted_part (InTable f old) found old.order q) (listed_restricted (InTable f old) found old.order q all) (λ t h. h.covered) made.early made.late made.values)

-- so it is sound, and stands for them
pub restricted_sound : (f : Operation) (q : ℕ) (found : List (List ℕ)) (V : ℕ → ℕ → Type 0) (old new : TableView) → IsSoundTable f old → 1 ≤ q → All (InTable f old) found → IsPreserved f old.width (IsRestricted (InTable f old) found old.order q) →
    IsRestrictedView f q found V old new → IsSoundTable f new × ((t : List ℕ) → InTable f new t ↔ IsRestricted (InTable f old) found old.order q t)
restricted_sound f q found V old new is one all kept made = (
  sound_of_table f new (IsRestricted (InTable f old) found old.order q) is.operation is.maltsev (made.shape.domain ∙ is.same_domain) made.view (rw made.shape.width kept) (restricted_table f q found V old new is one all kept made),
  set_is f new (IsRestricted (InTable f old) found old.order q) is.maltsev (rw made.shape.width kept) made.view.some_places (restricted_table f q found V old new is one all kept made),
)

-- numbers in a scope of the places that stand first make it a scope of the first places
pub firsts_front : (ord scope first : List ℕ) → AreFirsts ord scope first → IsFrontScope ord scope (length first)
firsts_front ord scope first firsts = record {
  within = firsts.within;
  meets = λ k low. record { index = slice_index first k; early = firsts.known k 0 low; place = sym (firsts.places k low) };
}

-- the members that agree with readers at the first places are those that read a row
pub restricted_reads : (T : List ℕ → Type 0) (ord scope first : List ℕ) (rows found : List (List ℕ)) → AreFirsts ord scope first → AreReaders T scope rows found →
    (t : List ℕ) → IsRestricted T found ord (length first) t ↔ ReadsRow T scope rows t
restricted_reads T ord scope first rows found firsts readers t = (
  λ h. reads h (All-contains (ReadsRow T scope rows) found h.covered.member readers.inside h.covered.listed),
  λ h. record { inside = h.inside; covered = readers_cover T ord scope (length first) rows found t (firsts_front ord scope first firsts) readers h },
)
  where
    reads : (h : IsRestricted T found ord (length first) t) → ReadsRow T scope rows h.covered.member → ReadsRow T scope rows t
    reads h g = (reading_part T ord scope (length first) rows firsts.within).decided h.covered.member t g h.inside (λ j s. sym (h.covered.same j s))

-- a set with the members of a preserved one is preserved
pub same_preserved : (f : Operation) (n : ℕ) (T U : List ℕ → Type 0) → ((t : List ℕ) → T t ↔ U t) → IsPreserved f n U → IsPreserved f n T
same_preserved f n T U same kept = record {
  tuples = λ t h. kept.tuples t ((same t).0 h);
  keeps = λ r s t hr hs ht. (same (image f n (r ∷ s ∷ t ∷ []))).1 (kept.keeps r s t ((same r).0 hr) ((same s).0 hs) ((same t).0 ht));
}

-- so they are preserved where the relation is
pub readers_preserved : (f : Operation) (v : TableView) (r : RelationView) (scope first : List ℕ) (found : List (List ℕ)) → IsSoundTable f v → Preserves f r → All (λ p. p < v.width) scope → length scope ≡ r.arity →
    AreFirsts v.order scope first → AreReaders (InTable f v) scope r.rows found → IsPreserved f v.width (IsRestricted (InTable f v) found v.order (length first))
readers_preserved f v r scope first found is pres below long firsts readers =
    same_preserved f v.width (IsRestricted (InTable f v) found v.order (length first)) (ReadsRow (InTable f v) scope r.rows) (restricted_reads (InTable f v) v.order scope first r.rows found firsts readers)
    (reads_row_kept f v.width (InTable f v) scope r is.operation.arity_is (set_preserved f v is.operation is.same_domain is.view) pres below long)
