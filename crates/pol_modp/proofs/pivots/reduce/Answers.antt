use Rattle.std.proofs.Common.{◌≡◌, ◌<◌, ◌≤◌, ◌∙◌, length, get_or, refl, ap, subst, All, arith}
use Rattle.std.proofs.lemmas.List.{take_all}
use Rattle.pol_modp.specs.Rows.{PivotView}
use Rattle.pol_modp.proofs.Echelon.{reducing-took, reducing-skipped}
use Rattle.pol_modp.proofs.pivots.reduce.Goals as goal
use Rattle.pol_modp.proofs.pivots.reduce.Goals.{then-cell-ne0, else-cell-ne0}

pub loop-j-preserved : goal.loop-j-preserved
loop-j-preserved c =
    let p = c.args.p in
    let n = c.args.n in
    let basis = c.args.basis.now in
    let row = c.loop-j.row in
    let j = c.loop-j.j in
    let d : PivotView = c.index-basis-j.result in
    let inside : j < length basis = omega (arith, c.loop-j-test.true) in
    let is : d ≡ get_or basis j d = c.index-basis-j.is in
    let pivot_is : c.pivot.result ≡ (get_or basis j d).pivot = c.pivot.ensures.pivot ∙ ap (λ (b : PivotView). b.pivot) is in
    elim c.if-cell-ne0.branch [
      | then-cell-ne0 w ↦ reducing-took p n basis c.requires.echelon c.requires.positive c.args.row.now row c.requires.long j d inside c.loop-j.invariant w.cells.result.now c.if-cell-ne0.row c.pivot.result _
          (w.cells.ensures.cells ∙ ap (λ (b : PivotView). b.cells) is) pivot_is refl (w.row-is ∙ w.add_multiple.ensures.added)
      | else-cell-ne0 w ↦ reducing-skipped p n basis c.requires.echelon c.requires.positive c.args.row.now row c.requires.long j d inside c.loop-j.invariant c.if-cell-ne0.row c.pivot.result pivot_is w.if-cell-ne0.false w.row-is
    ]

pub returns-clause-zeros : goal.returns-clause-zeros
returns-clause-zeros c =
    let all : length c.args.basis.now ≤ c.loop-j.j = omega (arith, c.loop-j-test.false) in
    subst (λ rows. All (λ (b : PivotView). get_or c.loop-j.row b.pivot 0 ≡ 0) rows) (take_all c.loop-j.j c.args.basis.now all) c.loop-j.invariant.zeros
