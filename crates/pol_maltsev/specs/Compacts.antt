-- Compact representations, after Bulatov and Dalmau, and what a solver by them answers.
use Rattle.std.specs.Prelude.{◌≡◌, ◌≤◌, ◌+◌, ℕ, List, length}
use Rattle.std.specs.Prelude.{map, slice_index, All, AllPairs, Contains}
use Rattle.pol_base.specs.Tuples.{IsBefore}
use Rattle.pol_relation.specs.Relations.{LanguageView}
use Rattle.pol_relation.specs.Instances.{InstanceView, read_at}
use Rattle.pol_optable.specs.Operations.{Operation}
use Rattle.pol_optable.specs.Tables.{IsOpTable}
use Rattle.pol_optable.specs.Identities.{IsMaltsev}
use Rattle.pol_rows.specs.Signatures.{IsSignatureSize}
use Rattle.pol_rows.specs.RowLists.{RowsView, IsRows}
use Rattle.pol_maltsev.specs.Representations.{InClosure, IsSound, MeetsFirst}

-- the rows are a compact representation of their closure under the Mal'tsev operation
pub record IsCompact (f : Operation) (v : RowsView) : Type 0 where
  pub operation : IsOpTable 3 f
  pub maltsev : IsMaltsev f
  pub same_domain : v.domain ≡ f.domain
  pub rows_are : IsRows v
  pub sound : IsSound f v.width v.rows

-- the set that the rows stand for: their closure
abbrev pub Members : Operation → RowsView → List ℕ → Type 0
Members f v = InClosure f v.width v.rows

-- the lists that the rows read at the places
abbrev pub readings : List ℕ → List (List ℕ) → List (List ℕ)
readings places rows = map (λ row. read_at row places) rows

-- one member of the set for each list that members read at the places, in ascending order of these lists
pub record AreReached (T : List ℕ → Type 0) (places : List ℕ) (rows : List (List ℕ)) : Type 0 where
  pub members : All T rows
  pub each : (t : List ℕ) → T t → Contains (readings places rows) (read_at t places)
  pub ascending : AllPairs IsBefore (readings places rows)

-- for each j up to the number of constraints, the size of the signature of the assignments that meet the first j
pub record AreSizes (lang : LanguageView) (inst : InstanceView) (sizes : List ℕ) : Type 0 where
  pub counted : length sizes ≡ length inst.constraints + 1
  pub each : (j : ℕ) → j ≤ length inst.constraints
      → IsSignatureSize (length inst.variables) lang.domain (MeetsFirst lang inst j) (slice_index sizes j)
