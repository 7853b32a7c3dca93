use Rattle.std.proofs.Common.{◌≡◌, ◌≢◌, ℕ, ◌+◌, ◌-◌, ◌*◌, ◌%◌, ◌<◌, ◌∙◌, List, length, get_or, set, sym, ap, subst, arith}
use Rattle.std.proofs.lemmas.List.{length-set, get_or-set_other}
use Rattle.std.proofs.lemmas.List.Elements.{All-set}
use Rattle.pol_modp.specs.Equations.{dot}
use Rattle.pol_modp.specs.Rows.{PivotView, Vanishes}
use Rattle.pol_modp.proofs.Echelon.{substituted-more}
use Rattle.pol_modp.proofs.pivots.substitute.Goals as goal

pub loop-j-preserved : goal.loop-j-preserved
loop-j-preserved c =
    let p = c.args.p in
    let n = c.args.n in
    let basis = c.args.basis.now in
    let ys = c.loop-j.ys in
    let j = c.loop-j.j - 1 in
    let e : PivotView = c.index-basis-j.result in
    let inside : j < length basis = omega (arith, c.loop-j-test.true, c.loop-j.invariant.few) in
    let is : e ≡ get_or basis j e = c.index-basis-j.is in
    let pivot_is : c.pivot-pivot.result ≡ (get_or basis j e).pivot = c.pivot-pivot.ensures.pivot ∙ ap (λ (b : PivotView). b.pivot) is in
    let cells_are = c.cells.ensures.cells ∙ ap (λ (b : PivotView). b.cells) is in
    let k = p - c.dot_of-rest.result in
    let rest_is : c.dot_of-rest.result ≡ dot (get_or basis j e).cells ys % p = c.dot_of-rest.ensures.dot ∙ ap (λ cells. dot cells ys % p) cells_are in
    let whole : dot (get_or basis j e).cells ys % p + k ≡ p = omega (arith, rest_is, c.dot_of-rest.ensures.below) in
    let low : (get_or basis j e).pivot < n = (c.requires.echelon j e inside).pivot_below in
    let apart : n ≢ c.pivot-pivot.result = omega (arith, pivot_is, low) in
    let next : j + 1 ≡ c.loop-j.j = omega (arith, c.loop-j-test.true) in
    let here = ap (set ys c.pivot-pivot.result) c.plus_times.ensures.sum ∙ ap (λ a. set ys a ((get_or ys a 0 + 1 * k) % p)) pivot_is in
    record {
      few = omega (arith, inside);
      long = length-set ys c.pivot-pivot.result c.plus_times.result ∙ c.loop-j.invariant.long;
      below = All-set (λ v. v < p) ys c.pivot-pivot.result c.plus_times.result c.plus_times.ensures.below c.loop-j.invariant.below;
      last = get_or-set_other ys c.pivot-pivot.result n c.plus_times.result 0 apart ∙ c.loop-j.invariant.last;
      free = λ m apart_all. get_or-set_other ys c.pivot-pivot.result m c.plus_times.result 0 (λ same. apart_all j e inside (sym pivot_is ∙ sym same)) ∙ c.loop-j.invariant.free m apart_all;
      vanish = λ i d from within. subst (λ (some : List ℕ). Vanishes p (get_or basis i d).cells some) (sym here)
          (substituted-more p n basis c.requires.echelon c.requires.positive ys c.loop-j.invariant.long j e inside k whole (λ m f later less. c.loop-j.invariant.vanish m f (omega (arith, later, next)) less) i d from within);
    }
