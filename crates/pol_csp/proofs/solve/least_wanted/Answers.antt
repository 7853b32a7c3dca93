use Rattle.std.proofs.Common.{◌≡◌, ◌∙◌, ℕ, List, sym, ap, length, take, Some, None}
use Rattle.pol_base.specs.Least.{AnswersLeast}
use Rattle.pol_relation.specs.Instances.{read_at}
use Rattle.pol_csp.specs.Searching.{IsFound}
use Rattle.pol_csp.specs.Variables.{AreShared}
use Rattle.pol_csp.proofs.SpreadLemmas.{AreSharedBy, none_tied, least_tied}
use Rattle.pol_csp.proofs.solve.least_wanted.Goals as goal

-- a variable is left without a value
pub returns-in_default : goal.returns-in_default
returns-in_default g c =
    let variables = c.in_ok-variables.variables in
    let W : List ℕ → Type 0 = g.C.Conditions.wanted c.args.conditions.now c.args.lang.now in
    record {
      least = none_tied W c.args.ties.now variables.firsts.items variables.of_cells.items c.args.masks.now
          c.requires.all_tied c.in_ok-variables.ensures.numbered
          (rw c.in_default.is at c.in_ok-shared.ensures.shared);
    }

pub least_within-requires-clause-masks : goal.least_within-requires-clause-masks
least_within-requires-clause-masks g c =
    let variables = c.in_ok-variables.variables in
    let shared : AreShared variables.firsts.items variables.of_cells.items c.args.masks.now c.in-Some.shared.items =
    rw c.in-Some.is at c.in_ok-shared.ensures.shared in
    rw c.as_slice.ensures.value (shared.are_masks c.args.lang.now.domain c.requires.masks)

-- no values of the variables are wanted
pub returns-in_default-2 : goal.returns-in_default-2
returns-in_default-2 g c =
    let firsts = c.in_ok-variables.variables.firsts.items in
    let variables = c.in_ok-variables.variables.of_cells.items in
    let shared = c.in-Some.shared.items in
    let W : List ℕ → Type 0 = g.C.Conditions.wanted c.args.conditions.now c.args.lang.now in
    let by : AreSharedBy c.args.ties.now firsts variables c.args.masks.now shared = record {
      ordered = c.requires.ties;
      all_tied = c.requires.all_tied;
      numbered = c.in_ok-variables.ensures.numbered;
      shared = rw c.in-Some.is at c.in_ok-shared.ensures.shared;
    } in
    let none : AnswersLeast (IsFound (λ xs. W (read_at xs variables)) shared) None =
    rw (c.as_slice.ensures.value, c.in_default-2.is) at c.in_ok-values.ensures.least in
    record { least = least_tied W c.args.ties.now firsts variables c.args.masks.now shared None by none }

pub returns : goal.returns
returns g c =
    let ties = c.args.ties.now in
    let firsts = c.in_ok-variables.variables.firsts.items in
    let variables = c.in_ok-variables.variables.of_cells.items in
    let shared = c.in-Some.shared.items in
    let values = c.in-Some-2.values in
    let W : List ℕ → Type 0 = g.C.Conditions.wanted c.args.conditions.now c.args.lang.now in
    let by : AreSharedBy ties firsts variables c.args.masks.now shared = record {
      ordered = c.requires.ties;
      all_tied = c.requires.all_tied;
      numbered = c.in_ok-variables.ensures.numbered;
      shared = rw c.in-Some.is at c.in_ok-shared.ensures.shared;
    } in
    let some : AnswersLeast (IsFound (λ xs. W (read_at xs variables)) shared) (Some values) =
    rw (c.as_slice.ensures.value, c.in-Some-2.is) at c.in_ok-values.ensures.least in
    let long : length ties ≡ length c.as_slice-3.result.now =
    sym (ap length c.as_slice-3.ensures.value ∙ by.numbered.long) in
    let read : c.in_ok-from_slice.field-0 ≡ read_at c.as_slice-2.result.now c.as_slice-3.result.now =
    c.in_ok-from_slice.ensures.ok ∙ ap (λ n. take n c.spread-cells.result) long ∙ c.spread-cells.ensures.read in
    rw (read, c.as_slice-2.ensures.items, c.as_slice-3.ensures.value)
    (record { least = least_tied W ties firsts variables c.args.masks.now shared (Some values) by some })
