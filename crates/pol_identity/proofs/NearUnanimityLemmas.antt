-- Near unanimity operations by their rules.
use Rattle.std.proofs.Common.{◌≡◌, ℕ, ◌<◌, ◌≤◌, List, length, subst, Option}
use Rattle.pol_base.specs.Tuples.{IsTuple, cell_of}
use Rattle.pol_optable.specs.Operations.{Operation}
use Rattle.pol_optable.specs.Identities.{IsNearUnanimity}
use Rattle.pol_optable.specs.Tables.{IsOpTable}
use Rattle.pol_identity.specs.Rules.{Obeys, ObeysAll}
use Rattle.pol_identity.specs.NearUnanimityRule.{forced_value, rule_to, near_unanimity_rule}
use Rattle.pol_identity.specs.NearUnanimityLaws.{near_unanimity_obeys}
use Rattle.pol_identity.proofs.RuleLemmas.{obeys_at}
use Rattle.pol_identity.proofs.ForcedLemmas.{IsMost, most_forced}

-- a table of three arguments or more whose cells obey is of near unanimity
pub near_unanimity_from_rules :
    (K : ℕ) (f : Operation)
    → IsOpTable K f
    → 3 ≤ K
    → ObeysAll f.cells (near_unanimity_rule f.domain K)
    → IsNearUnanimity f
near_unanimity_from_rules K f is enough obeyed = record {
  most = λ arguments x tuple below most.
      let tuple_of_K : IsTuple f.domain K arguments
      = subst (λ (k : ℕ). IsTuple f.domain k arguments) is.arity_is tuple in
      let longer : 3 ≤ length arguments = rw tuple_of_K.long enough in
      let all_but_one : IsMost arguments x = rw tuple.long most in
      subst (λ (forced : Option ℕ). Obeys f.cells (cell_of f.domain arguments) (rule_to forced))
      (most_forced arguments x longer all_but_one)
      (obeys_at K f (λ ds. rule_to (forced_value ds)) is obeyed arguments tuple_of_K);
}

-- a cell of a near unanimity operation obeys
pub near_unanimity_cell :
    (K : ℕ) (f : Operation) (d : ℕ) (cells : List ℕ) (cell : ℕ)
    → IsOpTable K f
    → d ≡ f.domain
    → cells ≡ f.cells
    → cell < length cells
    → IsNearUnanimity f
    → Obeys cells cell (near_unanimity_rule d K cell)
near_unanimity_cell K f d cells cell is domain same known near =
    let obeyed : Obeys f.cells cell (near_unanimity_rule f.domain K cell)
    = near_unanimity_obeys K f is near cell (rw (← same) known) in
    rw (same, domain) obeyed
