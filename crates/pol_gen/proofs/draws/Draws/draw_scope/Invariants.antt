use Rattle.std.proofs.Common.{[]}
use Rattle.pol_gen.specs.Draws.{draw}
use Rattle.pol_gen.proofs.DrawLemmas.{IsOnTheWay}
use Rattle.pol_gen.proofs.draws.Draws.draw_scope.Given as goal

abbrev pub invariant-loop : goal.invariant-loop
invariant-loop l = IsOnTheWay (λ scope. scope) l.places (draw l.v) [] l.fn.self l.counter l.scope l.self
