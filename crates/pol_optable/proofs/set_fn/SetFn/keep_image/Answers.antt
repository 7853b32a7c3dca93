use Rattle.std.proofs.Common.{◌≡◌, ℕ, ◌-◌, ◌↔◌, length, take, get_or, subst, arith}
use Rattle.std.proofs.lemmas.List.{length-take-le}
use Rattle.pol_optable.specs.SetFunctions.{value_of_set}
use Rattle.pol_optable.specs.ValueWords.{HaveImage, HasNumber, HasValue}
use Rattle.pol_optable.proofs.BreakLemmas.{with_last-itself}
use Rattle.pol_optable.proofs.ChosenLemmas.{image_more}
use Rattle.pol_optable.proofs.set_fn.SetFn.keep_image.Goals as goal

pub returns : goal.returns
returns c =
    let g = c.args.self.now in
    let r = c.args.rows.now in
    let masks = c.args.masks.now in
    let front = take (length masks - 1) masks in
    let mask = get_or masks (length masks - 1) 0 in
    let hit = c.args.from.now in
    let below = c.keep.new.to in
    let long : length front ≡ length masks - 1 = length-take-le (length masks - 1) masks (omega arith) in
    let kept : (i : ℕ) → HasNumber below i ↔ (HasNumber hit i × HasValue r (length front) (value_of_set g mask) i) =
    rw (long, ← c.apply.ensures.value) c.keep.ensures.rows in
    record {
      image = subst (λ ms. HaveImage g r ms below) (with_last-itself masks c.requires.some)
          (image_more g r front mask hit c.requires.image below kept (omega (arith, c.keep.auto.to, c.requires.to)));
    }
