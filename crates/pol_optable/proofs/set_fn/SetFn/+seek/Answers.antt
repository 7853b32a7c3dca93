use Rattle.std.proofs.Common.{◌≡◌, ℕ, ◌+◌, ◌-◌, ◌^◌, ◌<◌, ◌≤◌, List, ◌++◌, length, take, drop, set, get_or, refl, sym, ap, ◌∙◌, subst, arith}
use Rattle.std.proofs.lemmas.List.{length-take-le, length-set, take-set}
use Rattle.pol_base.specs.Least.{IsLeast}
use Rattle.pol_optable.specs.SetBreaks.{GoesOnBroken, IsProjection}
use Rattle.pol_optable.specs.ValueWords.{HaveImage}
use Rattle.pol_optable.proofs.SeekLemmas.{tried_none, tried_dropped, tried_more, rest_of, rest_long, chosen_front, chosen_start, kept_front, found_behind, none_behind}
use Rattle.pol_optable.proofs.set_fn.SetFn.+seek.Goals as goal

-- the masks of the places before
front_long : (masks from : List ℕ) → length (take (length masks - length from) masks) ≡ length masks - length from
front_long masks from = length-take-le (length masks - length from) masks (omega arith)

pub loop-mask-init : goal.loop-mask-init
loop-mask-init t c =
    let start = c.args.masks.now in
    let from = c.args.from.now in
    let place = length start - length from in
    let room : length (take place start) < c.args.rows.now.arity =
    omega (arith, front_long start from, c.requires.some, c.requires.from, c.requires.places) in
    record {
      kept = refl;
      tried = tried_none c.args.self.now c.args.rows.now (take place start) c.args.bound (get_or from 0 0) (rest_of from)
          c.first_mask-mask.result room c.relation-relation.ensures.relation c.first_mask-mask.ensures.before;
    }

pub choose-requires-clause-values : goal.choose-requires-clause-values
choose-requires-clause-values t c =
    let start = c.args.masks.now in
    let from = c.args.from.now in
    let place = length start - length from in
    let now = set c.loop-mask.masks place c.loop-mask.mask in
    let long : length now ≡ length start = length-set c.loop-mask.masks place c.loop-mask.mask ∙ c.loop-mask.auto.masks in
    let fits : place + 1 ≤ length now = omega (arith, long, c.requires.some, c.requires.from, c.requires.places) in
    let index : length (take (place + 1) now) - 1 ≡ place = omega (arith, length-take-le (place + 1) now fits) in
    rw index c.values_at-values.ensures.values

pub keep_image-requires-clause-image : goal.keep_image-requires-clause-image
keep_image-requires-clause-image t c =
    let start = c.args.masks.now in
    let from = c.args.from.now in
    let place = length start - length from in
    let inside : place < length c.loop-mask.masks =
    omega (arith, c.loop-mask.auto.masks, c.requires.some, c.requires.from, c.requires.places) in
    let before = chosen_start start c.loop-mask.masks place c.loop-mask.mask inside (front_long start from) c.loop-mask.invariant.kept in
    subst (λ front. HaveImage c.args.self.now c.args.rows.now front c.args.hit.now) (sym before)
    (subst (λ n. HaveImage c.args.self.now c.args.rows.now (take (n - length from) start) c.args.hit.now)
    (sym c.requires.places) c.requires.hit)

pub loop-mask-preserved-then-not-choose : goal.loop-mask-preserved-then-not-choose
loop-mask-preserved-then-not-choose t c =
    let r = c.args.rows.now in
    let start = c.args.masks.now in
    let from = c.args.from.now in
    let place = length start - length from in
    let front = take place start in
    let mask = c.loop-mask.mask in
    let inside : place < length c.loop-mask.masks =
    omega (arith, c.loop-mask.auto.masks, c.requires.some, c.requires.from, c.requires.places) in
    let written = chosen_front start c.loop-mask.masks place mask inside c.loop-mask.invariant.kept in
    record {
      kept = take-set c.loop-mask.masks place mask ∙ c.loop-mask.invariant.kept;
      tried = tried_dropped c.args.self.now r front c.args.bound (get_or from 0 0) (rest_of from) mask c.loop-mask.invariant.tried
          (λ rest broken. c.if-not-choose.ensures.none rest
          (subst (λ ms. IsProjection r (ms ++ rest)) (sym written) broken.is_projection));
    }

pub returns-then-seek-clause-found : goal.returns-then-seek-clause-found
returns-then-seek-clause-found t c =
    let g = c.args.self.now in
    let r = c.args.rows.now in
    let start = c.args.masks.now in
    let from = c.args.from.now in
    let place = length start - length from in
    let front = take place start in
    let mask = c.loop-mask.mask in
    let now = set c.loop-mask.masks place mask in
    let new = c.seek.new.masks in
    let next = c.is_bound-next_bound.result in
    let long : length new ≡ length start =
    c.seek.auto.masks ∙ (length-set c.loop-mask.masks place mask ∙ c.loop-mask.auto.masks) in
    let inside : place < length c.loop-mask.masks =
    omega (arith, c.loop-mask.auto.masks, c.requires.some, c.requires.from, c.requires.places) in
    let written = chosen_front start c.loop-mask.masks place mask inside c.loop-mask.invariant.kept in
    let below : r.arity - length (rest_of from) ≡ place + 1 =
    omega (arith, rest_long from c.requires.some, c.requires.from, c.requires.places) in
    let kept : take (place + 1) new ≡ take (place + 1) now = subst (λ n. take n new ≡ take n now) below c.seek.ensures.kept in
    let found : IsLeast (GoesOnBroken g r (take (place + 1) now) next (rest_of from)) (drop (place + 1) new) =
    subst (λ n. IsLeast (GoesOnBroken g r (take n now) next (rest_of from)) (drop n new)) below c.if-seek.ensures.found in
    let least = found_behind g r front from c.args.bound place (front_long start from) c.requires.some mask next new
    c.is_bound-next_bound.ensures.bound (omega (arith, long, inside, c.loop-mask.auto.masks)) (kept ∙ written) c.loop-mask.invariant.tried
    (λ is. omega (arith, c.first_mask-mask.ensures.first is, c.loop-mask.auto.mask))
    (subst (λ ms. IsLeast (GoesOnBroken g r ms next (rest_of from)) (drop (place + 1) new)) written found) in
    subst (λ n. IsLeast (GoesOnBroken g r (take n start) c.args.bound from) (drop n new)) (ap (λ n. n - length from) c.requires.places) least

pub loop-mask-preserved : goal.loop-mask-preserved
loop-mask-preserved t c =
    let g = c.args.self.now in
    let r = c.args.rows.now in
    let start = c.args.masks.now in
    let from = c.args.from.now in
    let place = length start - length from in
    let front = take place start in
    let mask = c.loop-mask.mask in
    let now = set c.loop-mask.masks place mask in
    let new = c.seek.new.masks in
    let next = c.is_bound-next_bound.result in
    let inside : place < length c.loop-mask.masks =
    omega (arith, c.loop-mask.auto.masks, c.requires.some, c.requires.from, c.requires.places) in
    let written = chosen_front start c.loop-mask.masks place mask inside c.loop-mask.invariant.kept in
    let below : r.arity - length (rest_of from) ≡ place + 1 =
    omega (arith, rest_long from c.requires.some, c.requires.from, c.requires.places) in
    let kept : take (place + 1) new ≡ take (place + 1) now = subst (λ n. take n new ≡ take n now) below c.seek.ensures.kept in
    let none : (rest : List ℕ) → GoesOnBroken g r (take (place + 1) now) next (rest_of from) rest → ⊥ =
    subst (λ n. (rest : List ℕ) → GoesOnBroken g r (take n now) next (rest_of from) rest → ⊥) below c.if-seek.ensures.none in
    record {
      kept = kept_front start new place mask (front_long start from) (kept ∙ written);
      tried = tried_more g r front c.args.bound (get_or from 0 0) (rest_of from) mask next c.is_bound-next_bound.ensures.bound
          c.loop-mask.invariant.tried
          (λ rest goes. none rest (subst (λ ms. GoesOnBroken g r ms next (rest_of from) rest) (sym written) goes));
    }

pub returns-clause-none : goal.returns-clause-none
returns-clause-none t c =
    let g = c.args.self.now in
    let r = c.args.rows.now in
    let start = c.args.masks.now in
    let from = c.args.from.now in
    let place = length start - length from in
    let room : length (take place start) < r.arity =
    omega (arith, front_long start from, c.requires.some, c.requires.from, c.requires.places) in
    let all : c.set_count-mask-end.result ≡ 2 ^ r.domain = c.set_count-mask-end.ensures.count ∙ ap (λ d. 2 ^ d) c.requires.domain in
    let none = none_behind g r (take place start) from c.args.bound place (front_long start from) c.requires.some c.loop-mask.mask room
    c.relation-relation.ensures.relation (omega (arith, all, c.loop-mask-test.false)) c.loop-mask.invariant.tried in
    subst (λ n. (other : List ℕ) → GoesOnBroken g r (take n start) c.args.bound from other → ⊥) (ap (λ n. n - length from) c.requires.places) none
