use Rattle.pol_identity.specs.ConstantLaws.{constant_obeys}
use Rattle.pol_identity.specs.NearUnanimityLaws.{near_unanimity_obeys, forced_most}
use Rattle.pol_identity.specs.MaltsevLaws.{maltsev_obeys}
use Rattle.pol_identity.specs.SemilatticeLaws.{semilattice_obeys}
use Rattle.pol_identity.specs.AffineLaws.{affine_obeys}
use Rattle.pol_identity.proofs.ConstantLemmas.{constant_from_rules}
use Rattle.pol_identity.proofs.ForcedLemmas.{most_forced}
use Rattle.pol_identity.proofs.NearUnanimityLemmas.{near_unanimity_from_rules}
use Rattle.pol_identity.proofs.MaltsevLemmas.{maltsev_from_rules}
use Rattle.pol_identity.proofs.SemilatticeLemmas.{semilattice_from_rules}
use Rattle.pol_identity.proofs.AffineLemmas.{affine_from_rules, labels_tell_cells, affine_is_maltsev}
use Rattle.pol_identity.proofs.laws.identity_laws.Goals as goal

pub returns-clause-constant : goal.returns-clause-constant
returns-clause-constant c = λ f is. (constant_obeys f is, constant_from_rules f is)

pub returns-clause-near_unanimity : goal.returns-clause-near_unanimity
returns-clause-near_unanimity c =
    λ K f enough is. (near_unanimity_obeys K f is, near_unanimity_from_rules K f is enough)

pub returns-clause-maltsev : goal.returns-clause-maltsev
returns-clause-maltsev c = λ f is. (maltsev_obeys f is, maltsev_from_rules f is)

pub returns-clause-semilattice : goal.returns-clause-semilattice
returns-clause-semilattice c = λ f is. (
  λ semilattice. (semilattice_obeys f is semilattice, semilattice.associative),
  λ both. semilattice_from_rules f is both.0 both.1,
)

pub returns-clause-affine : goal.returns-clause-affine
returns-clause-affine c =
    λ labels f is labelling. (affine_obeys labels f is labelling, affine_from_rules labels f is labelling)

pub returns-clause-affine_labels : goal.returns-clause-affine_labels
returns-clause-affine_labels c = λ f is. (
  λ affine. (
    affine.labels,
    record { size = affine.size; is_labelling = affine.is_labelling; by_labels = affine.by_labels },
  ),
  λ some. record {
    labels = some.0;
    size = some.1.size;
    is_labelling = some.1.is_labelling;
    by_labels = some.1.by_labels;
  },
)

pub returns-clause-labels_tell : goal.returns-clause-labels_tell
returns-clause-labels_tell c = λ f g labels is_f is_g same by_f by_g.
    labels_tell_cells f g labels is_f is_g same by_f.is_labelling by_f.by_labels by_g.by_labels

pub returns-clause-affine_maltsev : goal.returns-clause-affine_maltsev
returns-clause-affine_maltsev c = affine_is_maltsev

pub returns-clause-forced : goal.returns-clause-forced
returns-clause-forced c = λ arguments x enough. (forced_most arguments x, most_forced arguments x enough)
