use Rattle.pol_modp.proofs.ClashRefutes.{clash_refutes}
use Rattle.pol_modp.proofs.laws.clash_laws.Goals as goal

pub returns : goal.returns
returns c = record { refute = λ p n equations multipliers values. clash_refutes p n equations multipliers values }
