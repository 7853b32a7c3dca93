-- What a table tells of the assignments that meet the first constraints of an instance.
use Rattle.std.specs.Prelude.{◌≡◌, ◌<◌, ◌↔◌, ℕ, List, length}
use Rattle.pol_relation.specs.Relations.{LanguageView}
use Rattle.pol_relation.specs.Instances.{InstanceView}
use Rattle.pol_optable.specs.Operations.{Operation}
use Rattle.pol_rows.specs.Signatures.{IsSignatureSize}
use Rattle.pol_maltsev.specs.Representations.{MeetsFirst}
use Rattle.pol_maltsev.specs.Orders.{IsNatural}
use Rattle.pol_maltsev.specs.Views.{TableView, InTable, IsSoundTable, row_in, root_in}

-- a member has the value at the place
pub record IsPresent (v : TableView) (p a : ℕ) : Type 0 where
  pub below : a < v.domain
  pub present : root_in v p a < v.domain

-- the row of a value that a member has at the place
pub record IsRowAt (v : TableView) (p : ℕ) (row : List ℕ) : Type 0 where
  pub value : ℕ
  pub there : IsPresent v p value
  pub row_is : row ≡ row_in v p value

-- in the natural order of the places, a table that stands for the assignments that meet the first j constraints
pub record IsTableOfFirst (f : Operation) (lang : LanguageView) (inst : InstanceView) (j : ℕ)
    (v : TableView) : Type 0 where
  pub sound : IsSoundTable f v
  pub natural : IsNatural v.width v.order
  pub width : v.width ≡ length inst.variables
  pub set : (t : List ℕ) → InTable f v t ↔ MeetsFirst lang inst j t

-- the signature of these assignments has so many triples
abbrev pub IsSizeOfFirst : LanguageView → InstanceView → ℕ → ℕ → Type 0
IsSizeOfFirst lang inst j = IsSignatureSize (length inst.variables) lang.domain (MeetsFirst lang inst j)
