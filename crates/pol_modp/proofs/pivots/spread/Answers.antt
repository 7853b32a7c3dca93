use Rattle.std.proofs.Common.{◌≡◌, ℕ, ◌+◌, ◌*◌, ◌%◌, ◌<◌, ◌∙◌, length, get_or, set, take, map, refl, sym, ap, arith}
use Rattle.std.specs.Prelude.{replicate}
use Rattle.std.proofs.lemmas.List.{length-set, length-map, length-take-le, map_more}
use Rattle.std.proofs.lemmas.List.Elements.{All-set, All-same, All-replicate}
use Rattle.pol_modp.specs.Equations.{dot}
use Rattle.pol_modp.proofs.Modular.{add_same}
use Rattle.pol_modp.proofs.DotLemmas.{dot-nil, dot-zeros, dot-raise}
use Rattle.pol_modp.specs.Rows.{PivotView}
use Rattle.pol_modp.proofs.Spreading.{dot-push}
use Rattle.pol_modp.proofs.pivots.spread.Goals as goal

pub loop-j-init : goal.loop-j-init
loop-j-init c =
    let p = c.args.p in
    let out = c.args.out.now in
    record {
      below = All-same (λ v. v < p) out (replicate (length out) 0) c.requires.nothing (All-replicate (λ v. v < p) (length out) 0 (omega (arith, c.requires.positive)));
      long = refl;
      spread = λ values. ap (λ some. dot values some % p) c.requires.nothing ∙ ap (λ s. s % p) (dot-zeros values (length out) ∙ sym (dot-nil c.args.multipliers.now));
    }

pub loop-j-preserved : goal.loop-j-preserved
loop-j-preserved c =
    let p = c.args.p in
    let basis = c.args.basis.now in
    let out = c.loop-j.out in
    let j = c.loop-j.j in
    let ms = c.args.multipliers.now in
    let m = get_or ms j 0 in
    let d : PivotView = c.index-basis-j.result in
    let s = c.source-source.result in
    let inside : j < length basis = omega (arith, c.loop-j-test.true) in
    let source_is : s ≡ (get_or basis j d).source = c.source-source.ensures.source ∙ ap (λ (b : PivotView). b.source) c.index-basis-j.is in
    let known : s < length out = omega (arith, source_is, c.loop-j.invariant.long, c.requires.sources j d inside) in
    record {
      below = All-set (λ v. v < p) out s c.plus_times.result c.plus_times.ensures.below c.loop-j.invariant.below;
      long = length-set out s c.plus_times.result ∙ c.loop-j.invariant.long;
      spread = λ values.
          let pick : PivotView → ℕ = λ (b : PivotView). get_or values b.source 0 in
          let so_far = map pick (take j basis) in
          let many : length so_far ≡ j = length-map (take j basis) pick ∙ length-take-le j basis (omega (arith, inside)) in
          let now = map_more pick basis j d inside in
          ap (λ some. dot values (set out s some) % p) c.plus_times.ensures.sum
          ∙ (dot-raise p values out s (1 * m) known
          ∙ (add_same p (dot values out) (dot ms so_far) (get_or values s 0 * (1 * m)) (m * get_or values s 0) (c.loop-j.invariant.spread values) (ap (λ a. a % p) (turn (get_or values s 0) m))
          ∙ (ap (λ a. (dot ms so_far + m * get_or values a 0) % p) source_is
          ∙ (ap (λ k. (dot ms so_far + get_or ms k 0 * pick (get_or basis j d)) % p) (sym many)
          ∙ (sym (ap (λ a. a % p) (dot-push ms so_far (pick (get_or basis j d))))
          ∙ ap (λ some. dot ms some % p) (sym now))))));
    }
  where
    turn : (a m : ℕ) → a * (1 * m) ≡ m * a
    turn a m = grind arith
