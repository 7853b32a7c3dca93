use Rattle.std.proofs.Common.{ℕ, ◌-◌, ◌<◌, ◌≤◌, ◌^◌, length}
use Rattle.std.specs.Prelude.{IsTrue}
use Rattle.std.specs.Bool.{OnFalse}
use Rattle.pol_optable.specs.Operations.{IsPolymorphism}
use Rattle.pol_indicator.specs.Closing.{AddsListed, KeepsPart}
use Rattle.pol_indicator.proofs.broken.add_relations.Given as goal

abbrev pub invariant-loop-relation : goal.invariant-loop-relation
invariant-loop-relation g l = record {
  from : l.fn.from ≤ length l.pool;
  begun : l.fn.from < length l.pool → ¬ IsPolymorphism l.fn.table l.fn.rows;
  added : AddsListed l.fn.rows g.row.K l.fn.pool l.pool;
  kept : IsTrue l.kept → (relation : ℕ) → l.fn.first ≤ relation → relation < l.relation → KeepsPart l.fn.table l.fn.rows relation 0 (2 ^ 32 - 1);
  broken : OnFalse l.kept (¬ IsPolymorphism l.fn.table l.fn.rows);
}
