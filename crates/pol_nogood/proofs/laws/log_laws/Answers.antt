use Rattle.pol_nogood.proofs.LogSound.{steps_sound}
use Rattle.pol_nogood.proofs.Counting.{few_steps_of_one, few_steps_of_three}
use Rattle.pol_nogood.proofs.laws.log_laws.Goals as goal

pub returns-clause-refute : goal.returns-clause-refute
returns-clause-refute c = steps_sound

pub returns-clause-one_pair : goal.returns-clause-one_pair
returns-clause-one_pair c = few_steps_of_one

pub returns-clause-three_pairs : goal.returns-clause-three_pairs
returns-clause-three_pairs c = few_steps_of_three
