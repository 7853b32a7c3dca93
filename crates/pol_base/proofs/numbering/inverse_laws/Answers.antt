use Rattle.pol_base.proofs.CellLemmas.{cell_of-digits_of, cell_of-IsTuple, digits_of-cell_of-IsTuple}
use Rattle.pol_base.proofs.numbering.inverse_laws.Goals as goal

pub returns-clause-digits_write : goal.returns-clause-digits_write
returns-clause-digits_write c = cell_of-digits_of

pub returns-clause-cell_has : goal.returns-clause-cell_has
returns-clause-cell_has c = λ d k t tuple. (cell_of-IsTuple d k t tuple, digits_of-cell_of-IsTuple d k t tuple)
