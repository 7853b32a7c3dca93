use Rattle.pol_csp.proofs.Narrowing.{meet_narrows, meet_rejects}
use Rattle.pol_csp.proofs.values.meet.Goals as goal

pub returns-then-left-eq0-clause-wiped : goal.returns-then-left-eq0-clause-wiped
returns-then-left-eq0-clause-wiped c = meet_rejects c.args.masks.now c.args.cell c.args.mask c.requires.cell
    c.if-left-eq0.true

pub returns-clause-narrows : goal.returns-clause-narrows
returns-clause-narrows c = meet_narrows c.args.masks.now c.args.cell c.args.mask c.requires.cell c.if-left-eq0.false
