use Rattle.std.proofs.Common.{◌<◌, ℕ}
use Rattle.pol_relation.specs.Instances.{constraint_of}
use Rattle.pol_strong.specs.Finished.{HasScopeCases}
use Rattle.pol_strong.specs.Covers.{Adds}
use Rattle.pol_strong.proofs.covering.cover_all.Given as goal

abbrev pub invariant-loop-c : goal.invariant-loop-c
invariant-loop-c l = Adds l.lang l.inst (λ log. (k : ℕ) → k < l.c → HasScopeCases l.lang l.inst l.fn.store.most log (constraint_of l.inst k)) l.fn.store l.store
