-- Constant operations by their rules.
use Rattle.std.proofs.Common.{◌≡◌, ℕ, zero, suc, ◌<◌, List, [], ◌∷◌, length, arith, sym, ap, ◌∙◌, subst, slice_index, refl, All}
use Rattle.std.proofs.Math.Nat.{pow-zero}
use Rattle.std.proofs.lemmas.List.{get_or_default}
use Rattle.pol_base.specs.Tuples.{cell_of}
use Rattle.pol_optable.specs.Operations.{Operation, value_at}
use Rattle.pol_optable.specs.Identities.{IsConstant}
use Rattle.pol_optable.specs.Tables.{IsOpTable}
use Rattle.pol_optable.proofs.ConstantLemmas.{power_one}
use Rattle.pol_identity.specs.Rules.{ObeysAll}
use Rattle.pol_identity.specs.ConstantRule.{constant_rule}
use Rattle.pol_identity.specs.CellLaws.{cells_long}

cell_of_one : (d x : ℕ) → cell_of d (x ∷ []) ≡ x
cell_of_one d x = rw pow-zero (omega arith)

-- the value at an argument stands in its cell
pub value_at_one : (f : Operation) (x : ℕ) → value_at f (x ∷ []) ≡ slice_index f.cells x
value_at_one f x = ap (λ c. slice_index f.cells c) (cell_of_one f.domain x)

-- a table of one argument has a cell for each value
pub cells_of_one : (f : Operation) → IsOpTable 1 f → length f.cells ≡ f.domain
cells_of_one f is = cells_long 1 f is ∙ power_one f.domain

-- a table has a cell
pub some_cells : (f : Operation) (cells : List ℕ) → IsOpTable 1 f → cells ≡ f.cells → 0 < length cells
some_cells f cells is same = rw (same, cells_of_one f is) is.domain_is.some

-- a table is constant where the value in each cell is that of cell 0
constant_from_first :
    (f : Operation)
    → IsOpTable 1 f
    → ((cell : ℕ) → cell < length f.cells → slice_index f.cells cell ≡ slice_index f.cells 0)
    → IsConstant f
constant_from_first f is same = record {
  same = λ x y x_below y_below.
      let x_known : x < length f.cells = rw (cells_of_one f is) x_below in
      let y_known : y < length f.cells = rw (cells_of_one f is) y_below in
      value_at_one f x ∙ (same x x_known ∙ (sym (same y y_known) ∙ sym (value_at_one f y)));
}

-- a table whose cells obey is constant
pub constant_from_rules : (f : Operation) → IsOpTable 1 f → ObeysAll f.cells constant_rule → IsConstant f
constant_from_rules f is obeyed = constant_from_first f is same
  where
    same : (cell : ℕ) → cell < length f.cells → slice_index f.cells cell ≡ slice_index f.cells 0
    same zero known = refl
    same (suc cell) known = obeyed (suc cell) known

-- the same of its list of cells
pub constant_from_cells :
    (f : Operation) (cells : List ℕ)
    → IsOpTable 1 f
    → cells ≡ f.cells
    → All (λ v. v ≡ slice_index cells 0) cells
    → IsConstant f
constant_from_cells f cells is same all =
    let AsFirst : List ℕ → Type 0 = λ vs. (cell : ℕ) → cell < length vs → slice_index vs cell ≡ slice_index vs 0 in
    constant_from_first f is (subst AsFirst same (λ cell known. all cell 0 known))

-- the value in each cell of a constant operation is that of cell 0
pub cells_from_constant :
    (f : Operation) (cells : List ℕ)
    → IsOpTable 1 f
    → cells ≡ f.cells
    → IsConstant f
    → All (λ v. v ≡ slice_index cells 0) cells
cells_from_constant f cells is same constant cell d known =
    let known_of_f : cell < length f.cells = rw (← same) known in
    let within : cell < f.domain = rw (← cells_of_one f is) known_of_f in
    let as_first : slice_index f.cells cell ≡ slice_index f.cells 0
    = sym (value_at_one f cell) ∙ (constant.same cell 0 within is.domain_is.some ∙ value_at_one f 0) in
    let in_cells : slice_index cells cell ≡ slice_index cells 0
    = subst (λ (vs : List ℕ). slice_index vs cell ≡ slice_index vs 0) (sym same) as_first in
    get_or_default cells cell d 0 known ∙ in_cells
