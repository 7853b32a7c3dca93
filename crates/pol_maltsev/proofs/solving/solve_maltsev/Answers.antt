use Rattle.std.proofs.Common.{◌≡◌, ◌∙◌, ℕ, List, [], ◌∷◌, length, arith, refl}
use Rattle.std.proofs.lemmas.Option.{IfSome_then}
use Rattle.pol_relation.specs.Instances.{IsSolution, HasNoSolution}
use Rattle.pol_maltsev.specs.Solutions.{IsPresent, IsRowAt, IsTableOfFirst, IsSizeOfFirst}
use Rattle.pol_maltsev.proofs.SolvingLemmas.{table_of_none, table_size_is, sizes_begin, sizes_more, row_solves, no_row_no_solution, none_then}
use Rattle.pol_maltsev.proofs.solving.solve_maltsev.Goals as goal

-- all assignments
pub loop-c-init : goal.loop-c-init
loop-c-init c =
    let table : IsTableOfFirst c.args.op.now c.args.lang.now c.args.inst.now 0 c.in_ok-table.table =
    table_of_none c.args.op.now c.args.lang.now c.args.inst.now c.in_ok-table.table c.requires.domain c.in_ok-table.ensures.sound (rw c.in_ok-table.ensures.width c.in_ok-table.ensures.order)
    (c.in_ok-table.ensures.width ∙ c.variables.ensures.variables) (rw c.variables.ensures.variables at c.in_ok-table.ensures.set) in
    let size : IsSizeOfFirst c.args.lang.now c.args.inst.now 0 c.size-size.result =
    table_size_is c.args.op.now c.args.lang.now c.args.inst.now 0 c.size-size.result c.in_ok-table.table c.requires.domain table c.size-size.ensures.count in
    let one : c.push.new.self ≡ c.size-size.result ∷ [] = c.in_ok-push.ensures.ok ∙ rw c.new-sizes.ensures.empty refl in
    record { table = table; size = size; sizes = rw one (sizes_begin c.args.lang.now c.args.inst.now c.size-size.result size) }

-- one constraint more
pub loop-c-preserved : goal.loop-c-preserved
loop-c-preserved c = record {
  table = c.in_ok-size.ensures.table;
  size = c.in_ok-size.ensures.size;
  sizes = rw c.in_ok-push-2.ensures.ok (sizes_more c.args.lang.now c.args.inst.now c.loop-c.c c.in_ok-size.size c.loop-c.sizes c.loop-c.invariant.sizes c.in_ok-size.ensures.size);
}

-- a row of the table that is left is a solution
pub returns-clause-yes : goal.returns-clause-yes
returns-clause-yes c =
    let end : c.loop-c.c ≡ length c.args.inst.now.constraints = omega (arith, c.loop-c-test.false, c.loop-c.auto.c-end, c.constraints-c-end.ensures.constraints) in
    IfSome_then c.in_ok-solution.solution c.in_ok-solution.ensures.row
    (λ row h. row_solves c.args.op.now c.args.lang.now c.args.inst.now c.loop-c.c c.loop-c.table row end c.loop-c.invariant.table h)

-- and where it has none, there is no solution
pub returns-clause-no_only_without_solution : goal.returns-clause-no_only_without_solution
returns-clause-no_only_without_solution c =
    let end : c.loop-c.c ≡ length c.args.inst.now.constraints = omega (arith, c.loop-c-test.false, c.loop-c.auto.c-end, c.constraints-c-end.ensures.constraints) in
    none_then c.in_ok-solution.solution ((a : ℕ) → ¬ IsPresent c.loop-c.table 0 a) (HasNoSolution c.args.lang.now c.args.inst.now) c.in_ok-solution.ensures.none
    (λ none. no_row_no_solution c.args.op.now c.args.lang.now c.args.inst.now c.loop-c.c c.loop-c.table end c.loop-c.invariant.table none)
