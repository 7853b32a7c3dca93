use Rattle.pol_optable.specs.Operations.{operation_of}
use Rattle.pol_identity.proofs.AffineLemmas.{affine_from_rules}
use Rattle.pol_identity.proofs.affine.AffineIdentity3.fails_in.Goals as goal

pub returns-clause-decides : goal.returns-clause-decides
returns-clause-decides c = λ cells is single obeyed passed.
    affine_from_rules c.args.self.now.labels (operation_of c.args._d 3 cells) is c.requires.suited.is_labelling obeyed
