use Rattle.std.proofs.Common.{List, ℕ, length, ◌↔◌}
use Rattle.std.proofs.lemmas.Result.{IfOk-weaker}
use Rattle.pol_maltsev.specs.Representations.{Begins}
use Rattle.pol_maltsev.specs.Restrictions.{IsRestricted}
use Rattle.pol_maltsev.specs.Views.{InTable}
use Rattle.pol_maltsev.proofs.FixingLemmas.{fixed_preserved, fixed_set}
use Rattle.pol_maltsev.proofs.table.Table.fixed.Goals as goal

-- the members that begin with the front are preserved
pub restrict-requires-clause-kept : goal.restrict-requires-clause-kept
restrict-requires-clause-kept c =
    rw c.as_slice.ensures.value
    (fixed_preserved c.args.op.now c.args.self c.args.front.now c.in_ok-found.found.items c.requires.sound c.requires.natural c.requires.few c.in_ok-found.ensures.begin)

-- and they are left
pub returns-clause-set : goal.returns-clause-set
returns-clause-set c =
    let f = c.args.op.now in
    let v = c.args.self in
    let front = c.args.front.now in
    IfOk-weaker c.restrict.result (λ t. (u : List ℕ) → InTable f t u ↔ IsRestricted (InTable f v) c.in_ok-found.found.items v.order (length front) u) (λ t. (u : List ℕ) → InTable f t u ↔ Begins (InTable f v) front u)
    (λ t set. fixed_set f v t front c.in_ok-found.found.items c.requires.sound c.requires.natural c.requires.few c.in_ok-found.ensures.begin set)
    (rw c.as_slice.ensures.value at c.restrict.ensures.set)
