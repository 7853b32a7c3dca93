-- Constant operations obey their rules.
use Rattle.std.proofs.Common.{ℕ, zero, suc, ◌^◌, ◌<◌, All, ap, ◌∙◌, slice_index, lit<}
use Rattle.std.proofs.Math.Nat.{zero-lt-suc}
use Rattle.pol_base.specs.Tuples.{cell_of, digits_of}
use Rattle.pol_base.proofs.CellLemmas.{cell_of-digits_of, digits_of-below, power_some}
use Rattle.pol_optable.specs.Operations.{Operation}
use Rattle.pol_optable.specs.Identities.{IsConstant}
use Rattle.pol_optable.specs.Tables.{IsOpTable}
use Rattle.pol_identity.specs.Rules.{Obeys, ObeysAll, IsRule}
use Rattle.pol_identity.specs.ConstantRule.{constant_rule}
use Rattle.pol_identity.specs.CellLaws.{obeys_by_digits}

-- a rule names a lower cell
pub constant_ruled : (d cell : ℕ) → IsRule d cell (constant_rule cell)
constant_ruled d zero = tt
constant_ruled d (suc cell) = zero-lt-suc cell

-- a constant operation obeys every rule
pub constant_obeys : (f : Operation) → IsOpTable 1 f → IsConstant f → ObeysAll f.cells constant_rule
constant_obeys f is constant = obeys_by_digits 1 f constant_rule is obeys
  where
    obeys : (cell : ℕ) → cell < f.domain ^ 1
        → Obeys f.cells (cell_of f.domain (digits_of f.domain 1 cell)) (constant_rule cell)
    obeys zero within = tt
    obeys (suc cell) within =
        let some : 0 < f.domain ^ 1 = power_some f.domain 1 is.domain_is.some in
        let first : All (λ v. v < f.domain) (digits_of f.domain 1 0)
        = digits_of-below f.domain 1 0 is.domain_is.some some in
        let below : All (λ v. v < f.domain) (digits_of f.domain 1 (suc cell))
        = digits_of-below f.domain 1 (suc cell) is.domain_is.some within in
        constant.same _ _ (below 0 0 (lit< tt)) (first 0 0 (lit< tt))
        ∙ ap (λ c. slice_index f.cells c) (cell_of-digits_of f.domain 1 0 is.domain_is.some some)
