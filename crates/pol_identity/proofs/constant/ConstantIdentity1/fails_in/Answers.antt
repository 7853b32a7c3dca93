use Rattle.pol_optable.specs.Operations.{operation_of}
use Rattle.pol_identity.proofs.ConstantLemmas.{constant_from_rules}
use Rattle.pol_identity.proofs.constant.ConstantIdentity1.fails_in.Goals as goal

pub returns-clause-decides : goal.returns-clause-decides
returns-clause-decides c = λ cells is single obeyed passed.
    constant_from_rules (operation_of c.args._d 1 cells) is obeyed
