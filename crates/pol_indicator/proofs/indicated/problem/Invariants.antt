use Rattle.std.proofs.Common.{◌≡◌, ◌^◌, take, length}
use Rattle.pol_relation.specs.Weights.{weight_of}
use Rattle.pol_indicator.specs.Indicators.{AreIndicated}
use Rattle.pol_indicator.specs.Ruled.{AreRuled}
use Rattle.pol_indicator.proofs.indicated.problem.Given as goal

-- the constraints of the relations so far are added
abbrev pub invariant-loop-number : goal.invariant-loop-number
invariant-loop-number g l = record {
  domain : l.problem.domain ≡ l.fn.lang.domain;
  cells : length l.problem.masks ≡ l.fn.lang.domain ^ g.row.K;
  ruled : AreRuled l.fn.lang.domain (g.I.Identity.rule_of l.fn.identity l.fn.lang.domain) (l.fn.lang.domain ^ g.row.K) l.problem.masks l.problem.ties;
  indicated : AreIndicated l.fn.lang g.row.K l.number l.problem.constraints;
  counted : length l.problem.constraints ≡ weight_of g.row.K (take l.number l.fn.lang.relations);
}
