use Rattle.std.proofs.Common.{refl, sym, ◌∙◌}
use Rattle.std.proofs.lemmas.Option.{none-some}
use Rattle.pol_modp.proofs.CombinationSound.{valid_combination_refutes}
use Rattle.pol_modp.proofs.CombinationTests.{valid_from_fault, fault_from_valid}
use Rattle.pol_modp.proofs.FirstFaults.{first_from_fault}
use Rattle.pol_modp.proofs.checking.check_combination.Goals as goal

pub returns-in-None-clause-valid : goal.returns-in-None-clause-valid
returns-in-None-clause-valid c =
    (λ ok. valid_from_fault c.args.lang.now c.args.inst.now c.args.combination.now (sym c.in-None.ensures.fault), λ valid. refl)

pub returns-in-None-clause-refuted : goal.returns-in-None-clause-refuted
returns-in-None-clause-refuted c = λ assignment.
    valid_combination_refutes c.args.lang.now c.args.inst.now c.args.combination.now assignment c.requires.fits
    (valid_from_fault c.args.lang.now c.args.inst.now c.args.combination.now (sym c.in-None.ensures.fault))

pub returns-in-Some-clause-valid : goal.returns-in-Some-clause-valid
returns-in-Some-clause-valid c =
    (λ ok. cc, λ valid. absurd (none-some c.in-Some.fault (sym (fault_from_valid c.args.lang.now c.args.inst.now c.args.combination.now valid) ∙ sym c.in-Some.ensures.fault)))

pub returns-in-Some-clause-first : goal.returns-in-Some-clause-first
returns-in-Some-clause-first c = first_from_fault c.args.lang.now c.args.inst.now c.args.combination.now c.in-Some.fault (sym c.in-Some.ensures.fault)
