use Rattle.std.proofs.Common.{◌++◌, ◌+◌, ◌-◌, arith}
use Rattle.pol_nogood.specs.Logs.{value_case}
use Rattle.pol_strong.proofs.SweepLemmas.{open_full, open_contradicted}
use Rattle.pol_strong.proofs.sweeping.next_visit.Goals as goal

pub returns-then-not-has_empty-clause-none : goal.returns-then-not-has_empty-clause-none
returns-then-not-has_empty-clause-none c beside =
    let s = c.args.store.now in
    open_full s.variables s.domain s.most s.log c.args.front.now c.args.x c.args.a c.args.most c.in-Some.next c.most-most.ensures.small (omega (arith, c.has_empty.ensures.long, c.requires.variables)) (omega (arith, c.if-most-lt2.true)) c.if-not-has_empty.ensures.full (c.in-Some.ensures.beside beside)

pub returns-in_default-clause-none : goal.returns-in_default-clause-none
returns-in_default-clause-none c beside =
    let s = c.args.store.now in
    open_contradicted s.variables s.domain (c.args.front.now ++ value_case c.args.x c.args.a) (c.args.x + 1) (c.args.most - 1) s.log c.in_default.ensures.contradicted
