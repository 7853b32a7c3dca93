-- The next constraint: the table of the members that read a row of a relation.
use Rattle.std.proofs.Common.{◌≡◌, ℕ, ◌<◌, ◌≤◌, List, length, All, sym, ap, ◌∙◌, get_or}
use Rattle.std.specs.Prelude.{slice_index}
use Rattle.std.proofs.lemmas.List.{get_or-map}
use Rattle.pol_optable.specs.Operations.{Operation, Preserves}
use Rattle.pol_relation.specs.Instances.{read_at}
use Rattle.pol_relation.specs.Relations.{RelationView}
use Rattle.pol_optable.specs.Identities.{IsMaltsev}
use Rattle.pol_maltsev.specs.Representations.{IsPreserved, ReadsRow}
use Rattle.pol_maltsev.specs.Tables.{Agree, IsTable}
use Rattle.pol_maltsev.specs.Orders.{InFront, IsFrontScope}
use Rattle.pol_maltsev.specs.Restrictions.{IsMadeEarly, IsMadeLate, AreValues, IsCovered, AreReaders, IsFound}
use Rattle.pol_maltsev.proofs.MeetingLemmas.{reads_row_kept}
use Rattle.pol_maltsev.proofs.RestrictionLemmas.{restrict_table}
use Rattle.pol_maltsev.proofs.TableLemmas.{reading_part}

-- members with one reading at the scope agree at the first q places
pub reading_agrees : (ord scope : List ℕ) (q : ℕ) (m t : List ℕ) → IsFrontScope ord scope q → read_at m scope ≡ read_at t scope → Agree (InFront ord q) m t
reading_agrees ord scope q m t front same j h = at (front.meets h.index h.early)
  where
    at : InFront scope (length scope) (slice_index ord h.index) → slice_index m j ≡ slice_index t j
    at e = rw (← h.place, ← e.place) (sym (get_or-map (λ v. slice_index m v) scope e.index 0 0 e.early) ∙ ap (λ w. get_or w e.index 0) same ∙ get_or-map (λ v. slice_index t v) scope e.index 0 0 e.early)

pub readers_cover : (T : List ℕ → Type 0) (ord scope : List ℕ) (q : ℕ) (words found : List (List ℕ)) (t : List ℕ) → IsFrontScope ord scope q → AreReaders T scope words found → ReadsRow T scope words t → IsCovered found (InFront ord q) t
readers_cover T ord scope q words found t front readers h = from (readers.each t h)
  where
    from : IsFound scope found (read_at t scope) → IsCovered found (InFront ord q) t
    from m = record { member = m.member; listed = m.listed; same = reading_agrees ord scope q m.member t front m.reads }

-- the next constraint
pub next_table : (f : Operation) (n q : ℕ) (T : List ℕ → Type 0) (r : RelationView) (ord scope : List ℕ) (old_row : ℕ → ℕ → List ℕ) (old : ℕ → ℕ → ℕ) (row : ℕ → ℕ → List ℕ) (root : ℕ → ℕ → ℕ)
    (found : List (List ℕ)) (base : ℕ → ℕ → List ℕ) (V : ℕ → ℕ → Type 0) →
    IsMaltsev f → f.arity ≡ 3 → IsPreserved f n T → Preserves f r → All (λ v. v < n) scope → length scope ≡ r.arity → 1 ≤ q → IsFrontScope ord scope q → IsTable n f.domain T ord old_row old →
    AreReaders T scope r.rows found →
    ((k : ℕ) → k < q → k < n → IsMadeEarly f.domain found (InFront ord k) (slice_index ord k) (base k) (row (slice_index ord k)) (root (slice_index ord k))) →
    ((k : ℕ) → q ≤ k → k < n → IsMadeLate f.domain (ReadsRow T scope r.rows) (InFront ord k) (slice_index ord k) (V k) (old (slice_index ord k)) (row (slice_index ord k)) (root (slice_index ord k))) →
    ((k : ℕ) → q ≤ k → k < n → AreValues f k (slice_index ord k) ord row root (V k)) →
    IsTable n f.domain (ReadsRow T scope r.rows) ord row root
next_table f n q T r ord scope old_row old row root found base V mal three kept pres below wide one front table readers early late values =
    restrict_table f n q T (ReadsRow T scope r.rows) ord old_row old row root found base V mal kept (reads_row_kept f n T scope r three kept pres below wide) one table
    (reading_part T ord scope q r.rows front.within) readers.inside (λ t h. readers_cover T ord scope q r.rows found t front readers h) early late values
