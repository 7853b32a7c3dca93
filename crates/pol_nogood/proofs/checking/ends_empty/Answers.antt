use Rattle.std.proofs.Common.{◌≡◌, ◌-◌, ◌≤◌, ◌↔◌, Bool, true, false, IsTrue, List, [], ◌∷◌, length, refl, sym, subst, ap, ◌∙◌, arith}
use Rattle.std.proofs.lemmas.Bool.{iff_false, false_from_ne_true}
use Rattle.pol_nogood.specs.Nogoods.{Pair}
use Rattle.pol_nogood.specs.Logs.{StepView, nogood_at}
use Rattle.pol_nogood.specs.LogFaults.{ends_empty}
use Rattle.pol_nogood.proofs.FaultLemmas.{last_from_test, test_from_last}
use Rattle.pol_nogood.proofs.checking.ends_empty.Goals as goal

some_steps : (log : List StepView) → (log ≡ [] → ⊥) → 1 ≤ length log
some_steps [] some = absurd (some refl)
some_steps (s ∷ log) some = omega arith

ends : (log : List StepView) (answer : Bool) → (log ≡ [] → ⊥) → (IsTrue answer ↔ (nogood_at log (length log - 1) ≡ [])) → answer ≡ ends_empty log
ends log true some tells = sym (test_from_last log (some_steps log some) (tells.0 refl))
ends log false some tells = sym (false_from_ne_true (ends_empty log) (λ passes. iff_false tells refl (last_from_test log passes).1))

pub returns-then-not-is_empty : goal.returns-then-not-is_empty
returns-then-not-is_empty c =
    let log = c.args.log.now in
    let some = iff_false c.is_empty.ensures.empty c.if-not-is_empty.true in
    let last : c.nogood.result.now ≡ nogood_at log (length log - 1) = c.nogood.ensures.nogood ∙ (ap (λ (s : StepView). s.nogood) c.step.ensures.step ∙ ap (λ n. nogood_at log (n - 1)) c.len.ensures.steps) in
    record { ends = ends log c.is_empty-then-not-is_empty.result some (subst (λ (pairs : List Pair). IsTrue c.is_empty-then-not-is_empty.result ↔ (pairs ≡ [])) last c.is_empty-then-not-is_empty.ensures.empty) }
