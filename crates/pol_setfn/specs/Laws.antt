-- What a reader of folds may rely on.
use Rattle.std.specs.Prelude.{◌≡◌}
use Rattle.pol_relation.specs.Relations.{RelationView, IsRelation}
use Rattle.pol_optable.specs.Operations.{Operation, Preserves}
use Rattle.pol_optable.specs.SetFunctions.{SetFunctionView, PreservesSets}
use Rattle.pol_optable.specs.Tables.{IsOpTable}
use Rattle.pol_optable.specs.Identities.{IsSemilattice}
use Rattle.pol_setfn.specs.Folds.{IsFold}

-- what a semilattice operation preserves, its fold preserves
abbrev pub FoldPreserves : Type 0
FoldPreserves =
    (f : Operation) (g : SetFunctionView) (r : RelationView)
    → IsOpTable 2 f
    → IsSemilattice f
    → IsFold f g
    → IsRelation r
    → f.domain ≡ r.domain
    → Preserves f r
    → PreservesSets g r
