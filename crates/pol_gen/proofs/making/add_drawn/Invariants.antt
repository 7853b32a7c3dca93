use Rattle.std.proofs.Common.{◌≡◌, ◌≤◌, length}
use Rattle.pol_gen.specs.Draws.{draw_constraint}
use Rattle.pol_gen.proofs.DrawLemmas.{IsOnTheWay}
use Rattle.pol_gen.proofs.making.add_drawn.Given as goal

-- the constraints so far
abbrev pub invariant-loop : goal.invariant-loop
invariant-loop l = record {
  name : l.inst.name ≡ l.fn.inst.name;
  variables : l.inst.variables ≡ l.fn.inst.variables;
  few : length l.inst.constraints ≤ l.counter;
  way : IsOnTheWay (λ constraints. constraints) l.count (draw_constraint l.lang l.v) l.fn.inst.constraints l.fn.draws l.counter l.inst.constraints l.draws;
}
