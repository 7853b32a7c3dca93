use Rattle.pol_optable.specs.Operations.{operation_of}
use Rattle.pol_identity.proofs.MaltsevLemmas.{maltsev_from_rules}
use Rattle.pol_identity.proofs.maltsev.MaltsevIdentity3.fails_in.Goals as goal

pub returns-clause-decides : goal.returns-clause-decides
returns-clause-decides c = λ cells is single obeyed passed.
    maltsev_from_rules (operation_of c.args._d 3 cells) is obeyed
