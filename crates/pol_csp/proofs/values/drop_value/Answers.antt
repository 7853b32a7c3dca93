use Rattle.pol_csp.proofs.Narrowing.{drop_narrows, drop_rejects, set_falls, left_falls}
use Rattle.pol_csp.proofs.values.drop_value.Goals as goal

pub returns-then-left-eq0-clause-wiped : goal.returns-then-left-eq0-clause-wiped
returns-then-left-eq0-clause-wiped c =
    drop_rejects c.args.masks.now c.args.cell c.args.value c.without-left.result c.requires.cell c.if-left-eq0.true
    c.without-left.ensures.others

pub returns-clause-narrows : goal.returns-clause-narrows
returns-clause-narrows c =
    drop_narrows c.args.masks.now c.args.cell c.args.value c.without-left.result c.requires.cell c.if-left-eq0.false
    c.without-left.ensures.others

pub returns-clause-falls : goal.returns-clause-falls
returns-clause-falls c has =
    set_falls c.args.masks.now c.args.cell c.without-left.result c.requires.cell
    (left_falls _ c.args.value c.without-left.result c.without-left.ensures.others has)
