use Rattle.pol_arc.proofs.SupportLemmas.{supports_told, supports_not}
use Rattle.pol_arc.proofs.supports.supports.Goals as goal

pub returns-then-not-is_case : goal.returns-then-not-is_case
returns-then-not-is_case c = record {
  supports = supports_not c.args.masks.now c.args.scope.now c.args.x c.args.a c.args.row.now c.args.nogood.now c.is_case.result c.requires.long c.requires.pair c.is_case.ensures.case c.if-not-is_case.true;
}

pub returns : goal.returns
returns c = record {
  supports = supports_told c.args.masks.now c.args.scope.now c.args.x c.args.a c.args.row.now c.args.nogood.now c.is_case.result c.lies_in.result c.requires.long c.requires.pair c.is_case.ensures.case c.if-not-is_case.false c.lies_in.ensures.lies;
}
