use Rattle.pol_rows.proofs.SizeLemmas.{size-one}
use Rattle.pol_rows.proofs.PairLemmas.{in_signature-shown, shown-in_signature}
use Rattle.pol_rows.proofs.TripleLemmas.{size_counts, least_pair_one}
use Rattle.pol_rows.proofs.laws.signature_laws.Goals as goal

pub returns-clause-counts : goal.returns-clause-counts
returns-clause-counts c = size_counts

pub returns-clause-one : goal.returns-clause-one
returns-clause-one c n d one other rows first second = size-one n d _ one other first second

pub returns-clause-shown : goal.returns-clause-shown
returns-clause-shown c rows i a b = (shown-in_signature rows i a b, λ some. in_signature-shown rows i a b some.0 some.1 some.2)

pub returns-clause-least : goal.returns-clause-least
returns-clause-least c = least_pair_one
