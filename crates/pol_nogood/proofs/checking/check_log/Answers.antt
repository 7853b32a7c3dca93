use Rattle.std.proofs.Common.{refl, sym, ◌∙◌}
use Rattle.std.proofs.lemmas.Option.{none-some}
use Rattle.pol_nogood.proofs.FaultLemmas.{valid_from_fault, fault_from_valid, first_from_fault}
use Rattle.pol_nogood.proofs.LogSound.{log_sound}
use Rattle.pol_nogood.proofs.checking.check_log.Goals as goal

pub returns-in-None-clause-valid : goal.returns-in-None-clause-valid
returns-in-None-clause-valid c = (λ ok. valid_from_fault c.args.lang.now c.args.inst.now c.args.log.now (sym c.in-None.ensures.fault), λ valid. refl)

pub returns-in-None-clause-refuted : goal.returns-in-None-clause-refuted
returns-in-None-clause-refuted c = log_sound c.args.lang.now c.args.inst.now c.args.log.now (sym c.in-None.ensures.fault)

pub returns-in-Some-clause-valid : goal.returns-in-Some-clause-valid
returns-in-Some-clause-valid c =
    (λ ok. cc, λ valid. absurd (none-some c.in-Some.fault (sym (fault_from_valid c.args.lang.now c.args.inst.now c.args.log.now valid) ∙ sym c.in-Some.ensures.fault)))

pub returns-in-Some-clause-first : goal.returns-in-Some-clause-first
returns-in-Some-clause-first c = first_from_fault c.args.lang.now c.args.inst.now c.args.log.now c.in-Some.fault (sym c.in-Some.ensures.fault)
