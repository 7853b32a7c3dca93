use Rattle.std.proofs.Common.{◌≡◌, ◌+◌, ◌-◌, ◌*◌, ◌%◌, ◌≤◌, get_or, ap, ◌∙◌, subst, arith}
use Rattle.std.proofs.Math.Nat.{mod-lt}
use Rattle.pol_optable.proofs.HalfLemmas.{Lengthens, lengthens_more, longer_small}
use Rattle.pol_optable.proofs.table.OpTable.lengthen.Goals as goal

pub loop-value-preserved : goal.loop-value-preserved
loop-value-preserved g c =
    let f = c.args.self.now in
    let v = c.loop-value.value - 1 in
    let old = c.args.cells.now in
    let now = c.loop-value.cells in
    let next : c.loop-value.value ≡ v + 1 = omega (arith, c.loop-value-test.true) in
    let so_far = subst (λ n. Lengthens f c.args.first c.args.weight c.args.count (n * c.args.count) old now) next c.loop-value.invariant.so_far in
    let value = c.from.ensures ∙ ap (λ cells. get_or cells (c.args.first + v) 0) c.cells-values.ensures.cells in
    record {
      within = omega (arith, c.loop-value.invariant.within);
      so_far = lengthens_more f c.args.first c.args.weight c.args.count v old now c.put_raised.new.cells c.requires.some
          (omega (arith, c.loop-value.invariant.within, c.loop-value-test.true)) so_far c.put_raised.ensures.long
          (λ k inside. c.put_raised.ensures.raised k inside ∙ ap (λ n. get_or now k 0 + n * c.args.weight) value) c.put_raised.ensures.kept;
    }

pub returns-clause-small : goal.returns-clause-small
returns-clause-small g c = λ i inside.
    let count = c.args.count in
    let lower = get_or c.args.cells.now (i % count) 0 in
    let before = c.requires.small (i % count) (mod-lt i c.requires.some) in
    let all : c.loop-value.value * count ≤ i = (let none : c.loop-value.value ≡ 0 = omega (arith, c.loop-value-test.false) in rw none (omega arith)) in
    rw (c.loop-value.invariant.so_far.done i all inside)
    (longer_small g.row.K c.args.self.now c.args.first c.args.weight count i lower
    c.domain.ensures.table c.requires.within c.requires.some inside before)
