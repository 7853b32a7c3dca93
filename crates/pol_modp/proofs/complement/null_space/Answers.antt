use Rattle.std.proofs.Common.{◌≡◌, ◌≤◌, ℕ, ◌+◌, List, [], length, map, All, Any, Contains, sym, subst, ◌∙◌, arith}
use Rattle.std.proofs.lemmas.Result.{IfOk-weaker}
use Rattle.pol_base.specs.Tuples.{IsTuple}
use Rattle.pol_modp.specs.Equations.{EquationView, IsEquation, MeetsEquation}
use Rattle.pol_modp.specs.AffineSets.{IsAffineSet}
use Rattle.pol_modp.specs.Rows.{PivotView, IsBasis}
use Rattle.pol_modp.specs.Nulls.{IsContradiction, row_equation, HasNulls}
use Rattle.pol_modp.proofs.BasisLemmas.{at_least_two}
use Rattle.pol_modp.proofs.AffineRows.{row_equations-are, row_equations-homogeneous}
use Rattle.pol_modp.proofs.NullSpace.{rows_meet, rows_alone, contradiction}
use Rattle.pol_modp.proofs.complement.null_space.Goals as goal

pub echelon_of-requires-clause-equations : goal.echelon_of-requires-clause-equations
echelon_of-requires-clause-equations c =
    let p = c.args.p in
    let n = c.args.n in
    let some : 1 ≤ p = omega (arith, at_least_two p c.requires.prime) in
    subst (λ (system : List EquationView). All (IsEquation p (n + 1)) system) (sym (c.deref.ensures.value ∙ c.in_ok-system.ensures.equations))
    (row_equations-are p n c.args.rows.now some c.requires.rows)

pub echelon_of-requires-clause-homogeneous : goal.echelon_of-requires-clause-homogeneous
echelon_of-requires-clause-homogeneous c =
    subst (λ (system : List EquationView). All (λ (e : EquationView). e.right ≡ 0) system) (sym (c.deref.ensures.value ∙ c.in_ok-system.ensures.equations))
    (row_equations-homogeneous c.args.p c.args.rows.now)

-- the basis of the system as it was lent is one of the equations of the rows
seen_is : (p n : ℕ) (rows : List (List ℕ)) (system : List EquationView) (basis seen : List PivotView) → system ≡ map (row_equation p) rows → seen ≡ basis → IsBasis p (n + 1) system (length system) basis
    → IsBasis p (n + 1) (map (row_equation p) rows) (length (map (row_equation p) rows)) seen
seen_is p n rows system basis seen same_system same_basis is =
    subst (λ (some : List EquationView). IsBasis p (n + 1) some (length some) seen) same_system
    (subst (λ (some : List PivotView). IsBasis p (n + 1) system (length system) some) (sym same_basis) is)

pub returns : goal.returns
returns c =
    let p = c.args.p in
    let n = c.args.n in
    let rows = c.args.rows.now in
    let some = at_least_two p c.requires.prime in
    let basis = c.deref-2.result.now in
    let same_system = c.deref.ensures.value ∙ c.in_ok-system.ensures.equations in
    let is = seen_is p n rows c.deref.result.now c.in_ok-basis.basis.items basis same_system c.deref-2.ensures.value c.in_ok-basis.ensures.basis in
    let weaker = IfOk-weaker c.orthogonal.result (λ equations. HasNulls p n basis (n + 1) equations.items) in
    let nulls = c.orthogonal.ensures.nulls in
    record {
      equations = weaker (λ equations. All (IsEquation p n) equations.items) (λ equations has k d inside. (has.each k d inside).null.is_equation) nulls;
      few = weaker (λ equations. length equations.items ≤ n + 1) (λ equations has. has.few) nulls;
      rows_meet = weaker (λ equations. All (λ x. All (MeetsEquation p x) equations.items) rows) (λ equations has. rows_meet p n some rows c.requires.rows basis is equations.items has) nulls;
      only_rows = weaker (λ equations. IsAffineSet p n (Contains rows) → (x : List ℕ) → IsTuple p n x → All (MeetsEquation p x) equations.items → Contains rows x)
          (λ equations has. rows_alone p n some rows c.requires.rows basis is equations.items has) nulls;
      without_rows = weaker (λ equations. rows ≡ [] → Any (IsContradiction p n) equations.items) (λ equations has. contradiction p n some rows c.requires.rows basis is equations.items has) nulls;
    }
