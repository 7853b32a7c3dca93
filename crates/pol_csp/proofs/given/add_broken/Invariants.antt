use Rattle.std.proofs.Common.{◌≡◌, ◌≢◌, ◌⊎◌, ℕ, ◌<◌, All, get_or}
use Rattle.std.specs.Prelude.{Contains}
use Rattle.pol_relation.specs.Instances.{Meets, no_constraint}
use Rattle.pol_csp.specs.Narrowing.{MeetsAll}
use Rattle.pol_csp.proofs.given.add_broken.Given as goal

abbrev pub invariant-loop-c : goal.invariant-loop-c
invariant-loop-c l = record {
  few : l.added < 50;
  from : All (λ c. Contains l.initial.pool c ⊎ Contains l.problem.constraints c) l.pool;
  met : l.added ≡ 0
      → (i : ℕ)
      → i < l.c
      → Meets l.lang (get_or l.problem.constraints i no_constraint) l.values;
  broken : l.added ≢ 0 → MeetsAll l.lang l.problem.constraints l.values → ⊥;
}
