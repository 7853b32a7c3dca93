use Rattle.std.proofs.Common.{◌≡◌, suc, ◌+◌, ◌<◌, [], ◌∷◌, ◌++◌, length, get_or, take, ap, ◌∙◌, arith}
use Rattle.std.proofs.lemmas.List.{length_push}
use Rattle.pol_modp.specs.Combinations.{CombinationView, PartView}
use Rattle.pol_modp.specs.Parts.{part_named}
use Rattle.pol_affine.specs.Systems.{PlacedView, part_with, used_parts}
use Rattle.pol_affine.proofs.UsedParts.{used-yes, used-no}
use Rattle.pol_affine.proofs.placing.combined.Goals as goal
use Rattle.pol_affine.proofs.placing.combined.Goals.{then-multipliers-i-ne0+in_ok-part_with+in_ok-push, else-multipliers-i-ne0}

-- one equation on
pub loop-i-preserved : goal.loop-i-preserved
loop-i-preserved c =
    let ms = c.args.multipliers.now in
    let placed = c.args.placed.now in
    let i = c.loop-i.i in
    let m = get_or ms i 0 in
    let inside : i < length placed = omega (arith, c.loop-i-test.true) in
    let next : suc i ≡ i + 1 = omega arith in
    let parts_next = ap (λ k. used_parts (take k ms) (take k placed)) next in
    elim c.if-multipliers-i-ne0.branch [
      | then-multipliers-i-ne0+in_ok-part_with+in_ok-push w ↦
          let e : PlacedView = w.index-placed-i.result in
          let part = part_named w.in_ok-part_with.field-0 in
          let part_is : part ≡ part_with m (get_or placed i e) = w.in_ok-part_with.ensures.part ∙ ap (part_with m) w.index-placed-i.is in
          let now : c.if-multipliers-i-ne0.combination ≡ record { labels = c.loop-i.combination.labels; parts = c.loop-i.combination.parts ++ part ∷ [] }
          = w.combination-is ∙ w.in_ok-push.ensures.ok in (
            ap (λ (all : CombinationView). all.labels) now ∙ c.loop-i.invariant.0,
            ap (λ (all : CombinationView). all.parts) now
                ∙ (ap (λ parts. parts ++ part ∷ []) c.loop-i.invariant.1
                ∙ (ap (λ (p : PartView). used_parts (take i ms) (take i placed) ++ p ∷ []) part_is
                ∙ (used-yes ms placed i e c.requires.as_many inside w.if-multipliers-i-ne0.true ∙ parts_next))),
            omega (arith, ap (λ (all : CombinationView). length all.parts) now, length_push c.loop-i.combination.parts part, c.loop-i.invariant.2),
          )
      | else-multipliers-i-ne0 w ↦ (
        ap (λ (all : CombinationView). all.labels) w.combination-is ∙ c.loop-i.invariant.0,
        ap (λ (all : CombinationView). all.parts) w.combination-is ∙ (c.loop-i.invariant.1 ∙ (used-no ms placed i c.requires.as_many inside w.if-multipliers-i-ne0.false ∙ parts_next)),
        omega (arith, ap (λ (all : CombinationView). length all.parts) w.combination-is, c.loop-i.invariant.2),
      )
    ]
