use Rattle.pol_optable.specs.Operations.{operation_of}
use Rattle.pol_identity.proofs.NearUnanimityLemmas.{near_unanimity_from_rules}
use Rattle.pol_identity.proofs.near_unanimity.NearUnanimityIdentity.fails_in.Goals as goal

pub returns-clause-decides : goal.returns-clause-decides
returns-clause-decides g c = λ cells is single obeyed passed.
    near_unanimity_from_rules g.row.K (operation_of c.args._d g.row.K cells) is c.requires.suited.0 obeyed
