use Rattle.std.proofs.Common.{ℕ, List, length, take, map, All, sym, ap, ◌∙◌, subst, arith}
use Rattle.std.proofs.lemmas.List.{length-map}
use Rattle.pol_relation.specs.Instances.{IsSolution}
use Rattle.pol_identity.specs.Labels.{labelled}
use Rattle.pol_modp.specs.Equations.{IsEquation, IsCommonSolution, IsClash}
use Rattle.pol_modp.specs.Answers.{ValuesSolve, ClashIsShown}
use Rattle.pol_modp.specs.Combinations.{CombinationView}
use Rattle.pol_modp.proofs.CombinationSound.{valid_combination_refutes}
use Rattle.pol_affine.specs.Systems.{PlacedView, AreKnown, placed_in, spread_over, used_parts}
use Rattle.pol_affine.specs.Answers.{IsSumCertificate}
use Rattle.pol_affine.proofs.Carried.{carried}
use Rattle.pol_affine.proofs.SystemLemmas.{all_known, few_placed, are_equations, solution, certificate}
use Rattle.pol_affine.proofs.solving.solve_by_labels.Goals as goal

-- each equation is one of a constraint
pub spread_equations-requires-clause-known : goal.spread_equations-requires-clause-known
spread_equations-requires-clause-known c =
    let lang = c.args.lang.now in
    let inst = c.args.inst.now in
    let labels = take lang.domain c.args.labels in
    let tables = c.in_ok-tables.tables.items in
    let placed_is = c.deref-2.ensures.value ∙ (c.in_ok-placed.ensures.placed ∙ ap (λ some. placed_in inst some (length inst.constraints)) c.deref.ensures.value) in
    subst (λ d. AreKnown d inst c.deref-2.result.now) (sym c.domain-d.ensures.domain) (subst (AreKnown lang.domain inst) (sym placed_is)
    (all_known lang inst labels tables c.domain-d.ensures.language c.requires.fits c.requires.labelling c.in_ok-tables.ensures.many c.in_ok-tables.ensures.described))

-- at most seven for each constraint
pub eliminate-requires-clause-few : goal.eliminate-requires-clause-few
eliminate-requires-clause-few c =
    let lang = c.args.lang.now in
    let inst = c.args.inst.now in
    let labels = take lang.domain c.args.labels in
    let tables = c.in_ok-tables.tables.items in
    let placed_is = c.deref-2.ensures.value ∙ (c.in_ok-placed.ensures.placed ∙ ap (λ some. placed_in inst some (length inst.constraints)) c.deref.ensures.value) in
    let many = ap length (c.deref-3.ensures.value ∙ c.in_ok-system.ensures.equations) in
    let few = few_placed lang inst labels tables c.domain-d.ensures.language c.requires.fits c.requires.labelling c.in_ok-tables.ensures.many c.in_ok-tables.ensures.described in
    omega (arith, many, length-map c.deref-2.result.now (spread_over c.domain-d.result inst), ap length placed_is, few, c.requires.few_constraints)

-- over the variables of the instance
pub eliminate-requires-clause-equations : goal.eliminate-requires-clause-equations
eliminate-requires-clause-equations c =
    let lang = c.args.lang.now in
    let inst = c.args.inst.now in
    let labels = take lang.domain c.args.labels in
    let tables = c.in_ok-tables.tables.items in
    let placed = placed_in inst tables (length inst.constraints) in
    let placed_is = c.deref-2.ensures.value ∙ (c.in_ok-placed.ensures.placed ∙ ap (λ some. placed_in inst some (length inst.constraints)) c.deref.ensures.value) in
    let size_is = c.size-2.ensures.size ∙ c.domain-d.ensures.domain in
    let system_is = c.deref-3.ensures.value ∙ (c.in_ok-system.ensures.equations ∙ (ap (λ d. map (spread_over d inst) c.deref-2.result.now) c.domain-d.ensures.domain ∙ ap (map (spread_over lang.domain inst)) placed_is)) in
    carried (λ p n system. All (IsEquation p n) system) lang.domain c.size-2.result (length inst.variables) c.variables.result (map (spread_over lang.domain inst) placed) c.deref-3.result.now
    (sym size_is) (sym c.variables.ensures.variables) (sym system_is)
    (are_equations lang inst labels tables c.domain-d.ensures.language c.requires.fits c.requires.labelling c.in_ok-tables.ensures.many c.in_ok-tables.ensures.described)

-- the values that have the labels
pub returns-in-Values-clause-yes : goal.returns-in-Values-clause-yes
returns-in-Values-clause-yes c =
    let lang = c.args.lang.now in
    let inst = c.args.inst.now in
    let labels = take lang.domain c.args.labels in
    let tables = c.in_ok-tables.tables.items in
    let placed = placed_in inst tables (length inst.constraints) in
    let placed_is = c.deref-2.ensures.value ∙ (c.in_ok-placed.ensures.placed ∙ ap (λ some. placed_in inst some (length inst.constraints)) c.deref.ensures.value) in
    let size_is = c.size-2.ensures.size ∙ c.domain-d.ensures.domain in
    let from_is = c.from.ensures ∙ (c.size.ensures.size ∙ c.domain-d.ensures.domain) in
    let system_is = c.deref-3.ensures.value ∙ (c.in_ok-system.ensures.equations ∙ (ap (λ d. map (spread_over d inst) c.deref-2.result.now) c.domain-d.ensures.domain ∙ ap (map (spread_over lang.domain inst)) placed_is)) in
    let solves = subst (ValuesSolve c.size-2.result c.variables.result c.deref-3.result.now) c.in-Values.is c.in_ok-values.ensures.values in
    let values_are = c.in_ok-values_of-in-Values.ensures.values
    ∙ (ap (λ k. map (labelled (take k c.args.labels)) c.as_slice.result.now) from_is ∙ ap (map (labelled labels)) c.as_slice.ensures.items) in
    let common = carried (λ p n system. IsCommonSolution p n system c.in-Values.values) c.size-2.result lang.domain c.variables.result (length inst.variables) c.deref-3.result.now (map (spread_over lang.domain inst) placed)
    size_is c.variables.ensures.variables system_is solves in
    subst (IsSolution lang inst) (sym values_are)
    (solution lang inst labels tables c.domain-d.ensures.language c.requires.fits c.requires.labelling c.in_ok-tables.ensures.many c.in_ok-tables.ensures.described c.in-Values.values common)

-- at most seven for each constraint
pub combined-requires-clause-few : goal.combined-requires-clause-few
combined-requires-clause-few c =
    let lang = c.args.lang.now in
    let inst = c.args.inst.now in
    let labels = take lang.domain c.args.labels in
    let tables = c.in_ok-tables.tables.items in
    let placed_is = c.deref-in-Clash.ensures.value ∙ (c.in_ok-placed.ensures.placed ∙ ap (λ some. placed_in inst some (length inst.constraints)) c.deref.ensures.value) in
    let few = few_placed lang inst labels tables c.domain-d.ensures.language c.requires.fits c.requires.labelling c.in_ok-tables.ensures.many c.in_ok-tables.ensures.described in
    omega (arith, ap length placed_is, few, c.requires.few_constraints)

-- the multipliers of the clash
pub returns-clause-certificate : goal.returns-clause-certificate
returns-clause-certificate c =
    let lang = c.args.lang.now in
    let inst = c.args.inst.now in
    let labels = take lang.domain c.args.labels in
    let tables = c.in_ok-tables.tables.items in
    let placed = placed_in inst tables (length inst.constraints) in
    let items_are = c.in_ok-placed.ensures.placed ∙ ap (λ some. placed_in inst some (length inst.constraints)) c.deref.ensures.value in
    let size_is = c.size-2.ensures.size ∙ c.domain-d.ensures.domain in
    let from_is = c.from.ensures ∙ (c.size.ensures.size ∙ c.domain-d.ensures.domain) in
    let system_is = c.deref-3.ensures.value ∙ (c.in_ok-system.ensures.equations ∙ (ap (λ d. map (spread_over d inst) c.deref-2.result.now) c.domain-d.ensures.domain ∙ ap (map (spread_over lang.domain inst)) (c.deref-2.ensures.value ∙ items_are))) in
    let shown = subst (ClashIsShown c.size-2.result c.variables.result c.deref-3.result.now) c.in-Clash.is c.in_ok-values.ensures.clash in
    let clash = carried (λ p n system. IsClash p n system c.in-Clash.multipliers) c.size-2.result lang.domain c.variables.result (length inst.variables) c.deref-3.result.now (map (spread_over lang.domain inst) placed)
    size_is c.variables.ensures.variables system_is shown in
    let made : List ℕ → List ℕ → List PlacedView → CombinationView = λ some ms all. record { labels = some; parts = used_parts ms all } in
    let combination_is = c.in_ok-combined-in-Clash.ensures.combined
    ∙ (ap (λ k. made (take k c.args.labels) c.as_slice-in-Clash.result.now c.deref-in-Clash.result.now) from_is
    ∙ (ap (λ ms. made labels ms c.deref-in-Clash.result.now) c.as_slice-in-Clash.ensures.items
    ∙ ap (made labels c.in-Clash.multipliers) (c.deref-in-Clash.ensures.value ∙ items_are))) in
    subst (IsSumCertificate lang inst) (sym combination_is)
    (certificate lang inst labels tables c.domain-d.ensures.language c.requires.fits c.requires.labelling c.in_ok-tables.ensures.many c.in_ok-tables.ensures.described c.in-Clash.multipliers clash)

pub returns-clause-no_only_without_solution : goal.returns-clause-no_only_without_solution
returns-clause-no_only_without_solution c = λ assignment solved.
    let certified : IsSumCertificate c.args.lang.now c.args.inst.now c.in_ok-combined-in-Clash.field-0 = returns-clause-certificate c in
    valid_combination_refutes c.args.lang.now c.args.inst.now c.in_ok-combined-in-Clash.field-0 assignment c.requires.fits certified.valid solved
