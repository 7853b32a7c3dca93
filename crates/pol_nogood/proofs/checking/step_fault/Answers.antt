use Rattle.std.proofs.Common.{true, false, eqb, length, refl, sym, ◌∙◌}
use Rattle.std.proofs.lemmas.Bool.{eq-eqb, ne_eqb}
use Rattle.pol_nogood.specs.Logs.{cases_of}
use Rattle.pol_nogood.specs.Steps.{step_named}
use Rattle.pol_nogood.proofs.StepFaults.{fault-tested}
use Rattle.pol_nogood.proofs.checking.step_fault.Goals as goal

pub returns-in-None : goal.returns-in-None
returns-in-None c =
    let s = step_named c.step-step.result.now in
    let references = c.references-references.result.now in
    let cases = cases_of c.args.lang.now c.args.inst.now s.basis s.nogood in
    record {
      fault = fault-tested c.args.lang.now c.args.inst.now c.args.log.now c.args.s s c.requires.known c.step-step.ensures.step references c.references-references.ensures.references true true false (eqb (length references) (length cases))
          (sym c.if-not-is_placed.false ∙ c.is_placed.ensures.placed) (sym c.if-not-are_earlier.false ∙ c.are_earlier.ensures.earlier) c.in-None.ensures.covered refl;
    }

pub returns-in-Some : goal.returns-in-Some
returns-in-Some c =
    let s = step_named c.step-step.result.now in
    let references = c.references-references.result.now in
    let cases = cases_of c.args.lang.now c.args.inst.now s.basis s.nogood in
    record {
      fault = fault-tested c.args.lang.now c.args.inst.now c.args.log.now c.args.s s c.requires.known c.step-step.ensures.step references c.references-references.ensures.references true true true false
          (sym c.if-not-is_placed.false ∙ c.is_placed.ensures.placed) (sym c.if-not-are_earlier.false ∙ c.are_earlier.ensures.earlier) c.in-Some.ensures.covered
          (sym (ne_eqb (length references) (length cases) (λ same. c.if-cases-references.true (c.in-Some.ensures.count ∙ sym same))));
    }

pub returns-in-Some-2 : goal.returns-in-Some-2
returns-in-Some-2 c =
    let s = step_named c.step-step.result.now in
    let references = c.references-references.result.now in
    let cases = cases_of c.args.lang.now c.args.inst.now s.basis s.nogood in
    record {
      fault = fault-tested c.args.lang.now c.args.inst.now c.args.log.now c.args.s s c.requires.known c.step-step.ensures.step references c.references-references.ensures.references true true true true
          (sym c.if-not-is_placed.false ∙ c.is_placed.ensures.placed) (sym c.if-not-are_earlier.false ∙ c.are_earlier.ensures.earlier) c.in-Some.ensures.covered
          (sym (eq-eqb (length references) (length cases) (sym c.if-cases-references.false ∙ c.in-Some.ensures.count)));
    }
