-- What the solver of the class `constant` answers.
use Rattle.std.specs.Prelude.{◌≡◌, ◌≢◌, ℕ, ◌<◌, [], length, ⊤}
use Rattle.pol_relation.specs.Relations.{LanguageView, rows_of}
use Rattle.pol_relation.specs.Instances.{InstanceView, constraint_of}
use Rattle.pol_nogood.specs.Logs.{breaking_log}
use Rattle.pol_nogood.specs.declared.log.LogAnswer.{LogAnswer}
use Rattle.pol_nogood.specs.declared.log.LogAnswer.TheVariants as answer

-- the constraint is the first whose relation is empty
pub record IsFirstEmpty (lang : LanguageView) (inst : InstanceView) (c : ℕ) : Type 0 where
  pub known : c < length inst.constraints
  pub empty : rows_of lang (constraint_of inst c).relation ≡ []
  pub first : (b : ℕ) → b < c → rows_of lang (constraint_of inst b).relation ≢ []

-- the log of a No has one step, by the first constraint whose relation is empty
abbrev pub NoRestsOnFirstEmpty : LanguageView → InstanceView → LogAnswer → Type 0
NoRestsOnFirstEmpty lang inst (answer.Yes values) = ⊤
NoRestsOnFirstEmpty lang inst (answer.No log) = (c : ℕ) × IsFirstEmpty lang inst c × (log ≡ breaking_log c)
