-- The set functions that are sought.
use Rattle.std.specs.Prelude.{◌≡◌, ◌<◌, ◌^◌, ℕ, List, Bool, IsTrue}
use Rattle.pol_relation.specs.Relations.{LanguageView}
use Rattle.pol_optable.specs.SetFunctions.{SetFunctionView, value_of_set}
use Rattle.pol_optable.specs.ClassLines.{IsSetTable}

-- the value of each set of one value is that value
abbrev pub IsIdempotent : SetFunctionView → Type 0
IsIdempotent g = (v : ℕ) → v < g.domain → value_of_set g (2 ^ v) ≡ v

-- the cells of a set function that preserves each relation and, where this is asked, is idempotent
pub record IsSought (lang : LanguageView) (idempotent : Bool) (cells : List ℕ) : Type 0 where
  pub table : IsSetTable lang cells
  pub idempotent_is : IsTrue idempotent → IsIdempotent (record { domain = lang.domain; cells = cells })
