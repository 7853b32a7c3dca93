use Rattle.std.proofs.Common.{◌≡◌, ◌<◌, ◌^◌, length, take, All}
use Rattle.pol_optable.specs.Breaks.{rows_at}
use Rattle.pol_indicator.specs.Indicators.{scope_of}
use Rattle.pol_indicator.proofs.scope.scope_at.Given as goal

-- the cells of the places so far
abbrev pub invariant-loop-place : goal.invariant-loop-place
invariant-loop-place g l = record {
  long : length l.scope ≡ 6;
  so_far : take l.place l.scope ≡ scope_of l.fn.r.domain l.place (rows_at l.fn.r l.fn.numbers);
  below : All (λ c. c < l.fn.r.domain ^ g.row.K) (take l.place l.scope);
}
