use Rattle.std.proofs.Common.{[]}
use Rattle.pol_gen.specs.Draws.{draw}
use Rattle.pol_gen.proofs.DrawLemmas.{IsOnTheWay}
use Rattle.pol_gen.proofs.draws.Draws.draw_values.Given as goal

abbrev pub invariant-loop : goal.invariant-loop
invariant-loop l = IsOnTheWay (λ values. values) l.v (draw l.n) [] l.fn.self l.counter l.values l.self
