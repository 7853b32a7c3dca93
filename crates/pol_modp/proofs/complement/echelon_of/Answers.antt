use Rattle.std.proofs.Common.{◌<◌, ◌+◌, List, length, get_or, sym, ap, ◌∙◌, subst, arith}
use Rattle.std.proofs.lemmas.List.{length_push}
use Rattle.pol_modp.proofs.AffineRows.{right_stays_zero}
use Rattle.pol_modp.proofs.BasisLemmas.{at_least_two}
use Rattle.pol_modp.specs.Rows.{IsBasis, IsReduced, PivotView, equation_at}
use Rattle.pol_modp.proofs.BasisLemmas.{basis-push, basis-skip}
use Rattle.pol_modp.proofs.complement.echelon_of.Goals as goal
use Rattle.pol_modp.proofs.complement.echelon_of.Goals.{in-Some+in_ok-push-in-Some, in-None}

pub loop-i-preserved : goal.loop-i-preserved
loop-i-preserved c =
    let p = c.args.p in
    let n = c.args.n in
    let equations = c.args.equations.now in
    let i = c.loop-i.i in
    let basis = c.loop-i.basis.items in
    let row = c.in_ok-row.row.items in
    let known : i < length equations = omega (arith, c.loop-i-test.true) in
    let is = c.loop-i.invariant.basis in
    let reduced : IsReduced p n (equation_at equations i) basis row = subst (λ (rows : List PivotView). IsReduced p n (equation_at equations i) rows row) c.deref.ensures.value c.in_ok-row.ensures.reduced in
    elim c.match-first_nonzero.branch [
      | in-Some+in_ok-push-in-Some w ↦
          let now = ap (λ v. v.items) w.basis-is ∙ w.in_ok-push-in-Some.ensures.items in
          record {
            few = omega (arith, ap length now, length_push basis w.normalized.result, c.loop-i.invariant.few);
            basis = subst (λ (rows : List PivotView). IsBasis p n equations (i + 1) rows) (sym now)
                (basis-push p n equations c.requires.equations i basis row known is reduced w.in-Some.pivot w.normalized.result w.in-Some.ensures.found.0 w.normalized.ensures.normal);
          }
      | in-None w ↦
          let now = ap (λ v. v.items) w.basis-is in
          record {
            few = omega (arith, ap length now, c.loop-i.invariant.few);
            basis = subst (λ (rows : List PivotView). IsBasis p n equations (i + 1) rows) (sym now)
                (basis-skip p n equations c.requires.equations i basis row known is reduced
                (λ k low. ap (λ some. get_or some k 0) (sym c.deref-in-loop-i.ensures.value) ∙ w.in-None.ensures.none k low)
                (right_stays_zero p n equations c.requires.equations (at_least_two p c.requires.prime) c.requires.homogeneous i basis row known is reduced));
          }
    ]
