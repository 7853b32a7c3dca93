-- Finite problems over cells: masks, ties and constraints.
use Rattle.std.specs.Prelude.{◌≡◌, ◌≤◌, ◌^◌, ℕ, List, length, All}
use Rattle.pol_base.specs.Tuples.{IsDomain}
use Rattle.pol_base.specs.Masks.{AreMasks, IsWithin}
use Rattle.pol_relation.specs.Relations.{LanguageView}
use Rattle.pol_relation.specs.Instances.{ConstraintView, FitsAt, IsScope}
use Rattle.pol_csp.specs.Narrowing.{MeetsAll}
use Rattle.pol_csp.specs.Variables.{AreTies, AreTied}

-- the mask of each cell, the lower cell to which it is tied or else itself, and the constraints
pub record ProblemView : Type 0 where
  pub domain : ℕ
  pub masks : List ℕ
  pub ties : List ℕ
  pub constraints : List ConstraintView

-- a problem of 1 to 4,096 cells with at most 2^22 constraints
pub record IsProblem (p : ProblemView) : Type 0 where
  pub domain_is : IsDomain p.domain
  pub some_cells : 1 ≤ length p.masks
  pub few_cells : length p.masks ≤ 4096
  pub are_masks : AreMasks p.domain p.masks
  pub all_tied : length p.ties ≡ length p.masks
  pub are_ties : AreTies p.ties
  pub few_constraints : length p.constraints ≤ 2 ^ 22
  pub scopes : All (λ c. IsScope (length p.masks) c.scope) p.constraints

-- the problem has the domain of the language, and each constraint is one of a relation of the language
pub record FitsLanguage (lang : LanguageView) (p : ProblemView) : Type 0 where
  pub domain : p.domain ≡ lang.domain
  pub constraints : All (FitsAt lang (length p.masks)) p.constraints

-- the list is within the masks, equal at tied cells, and meets every constraint
pub record Admits (lang : LanguageView) (p : ProblemView) (xs : List ℕ) : Type 0 where
  pub within : IsWithin p.masks xs
  pub tied : AreTied p.ties xs
  pub meets : MeetsAll lang p.constraints xs

-- the problem admits the list, and it is wanted
pub record IsWanted (lang : LanguageView) (p : ProblemView) (W : List ℕ → Type 0) (xs : List ℕ) : Type 0 where
  pub admitted : Admits lang p xs
  pub wanted : W xs

-- the list meets every constraint of the problem, and is wanted
pub record IsKept (lang : LanguageView) (p : ProblemView) (W : List ℕ → Type 0) (xs : List ℕ) : Type 0 where
  pub meets : MeetsAll lang p.constraints xs
  pub wanted : W xs

-- lists over the cells of a problem of the language, for a filter that is defined for the numbers of cells of T
pub record TakesCells (T : ℕ → Type 0) (lang : LanguageView) (p : ProblemView) (n : ℕ) : Type 0 where
  pub taken : T n
  pub counted : n ≡ length p.masks
  pub fits : FitsLanguage lang p
