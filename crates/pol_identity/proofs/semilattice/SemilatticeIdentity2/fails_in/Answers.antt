use Rattle.pol_optable.specs.Operations.{operation_of}
use Rattle.pol_identity.proofs.SemilatticeLemmas.{semilattice_from_rules}
use Rattle.pol_identity.proofs.semilattice.SemilatticeIdentity2.fails_in.Goals as goal

pub returns-clause-decides : goal.returns-clause-decides
returns-clause-decides c = λ cells is single obeyed passed.
    semilattice_from_rules (operation_of c.args.d 2 cells) is obeyed (c.some_clash.ensures.decides cells single passed)
