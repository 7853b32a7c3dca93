use Rattle.std.proofs.Common.{◌≡◌, ℕ, ◌+◌, ◌-◌, ◌^◌, ◌<◌, ◌≤◌, List, [], ◌∷◌, ◌++◌, length, take, drop, set, refl, sym, ap, ◌∙◌, subst, arith}
use Rattle.std.proofs.lemmas.List.{length-take-le, length-set, take-set, take_all, drop_at}
use Rattle.pol_base.specs.Least.{IsLeast}
use Rattle.pol_optable.specs.SetBreaks.{GoesOnBroken, IsProjection}
use Rattle.pol_optable.specs.ValueWords.{HaveImage, IsReadAt}
use Rattle.pol_optable.specs.SetFunctions.{value_of_set}
use Rattle.pol_optable.proofs.ChosenLemmas.{chosen_projection, read_kept, unread_broken}
use Rattle.pol_optable.proofs.SeekLemmas.{tried_none, tried_dropped, chosen_front, found_last, last_broken, all_tried}
use Rattle.pol_optable.proofs.ValueWordLemmas.{refuted}
use Rattle.pol_optable.proofs.set_fn.SetFn.seek_last.Goals as goal

-- the masks with the last one written
written_is :
    (start masks : List ℕ) (mask : ℕ)
    → 1 ≤ length start
    → length masks ≡ length start
    → take (length start - 1) masks ≡ take (length start - 1) start
    → set masks (length start - 1) mask ≡ take (length start - 1) start ++ mask ∷ []
written_is start masks mask some long kept =
    let now = set masks (length start - 1) mask in
    sym (take_all (length start - 1 + 1) now (omega (arith, length-set masks (length start - 1) mask, long, some)))
    ∙ chosen_front start masks (length start - 1) mask (omega (arith, long, some)) kept

front_long : (masks : List ℕ) → length (take (length masks - 1) masks) ≡ length masks - 1
front_long masks = length-take-le (length masks - 1) masks (omega arith)

pub loop-mask-init : goal.loop-mask-init
loop-mask-init c =
    let start = c.args.masks.now in
    let is = c.relation-relation.ensures.relation in
    let room : length (take (length start - 1) start) < c.args.rows.now.arity =
    omega (arith, front_long start, is.some_places, c.requires.places) in
    record {
      kept = refl;
      tried = tried_none c.args.self.now c.args.rows.now (take (length start - 1) start) c.args.bound c.args.first []
          c.first_mask-mask.result room is c.first_mask-mask.ensures.before;
    }

pub loop-mask-preserved-then-reads : goal.loop-mask-preserved-then-reads
loop-mask-preserved-then-reads c =
    let g = c.args.self.now in
    let r = c.args.rows.now in
    let start = c.args.masks.now in
    let place = length start - 1 in
    let front = take place start in
    let mask = c.loop-mask.mask in
    let is = c.relation-relation.ensures.relation in
    let now = set c.loop-mask.masks place mask in
    let some : 1 ≤ length start = omega (arith, is.some_places, c.requires.places) in
    let written : now ≡ front ++ mask ∷ [] = written_is start c.loop-mask.masks mask some c.loop-mask.auto.masks c.loop-mask.invariant.kept in
    let whole : length (front ++ mask ∷ []) ≡ r.arity =
    ap length (sym written) ∙ (length-set c.loop-mask.masks place mask ∙ (c.loop-mask.auto.masks ∙ c.requires.places)) in
    let image : HaveImage g r front c.args.hit.now = rw c.requires.places c.requires.hit in
    let read : IsReadAt r c.args.hit.now (length front) (value_of_set g mask) =
    rw (front_long start, ← c.apply.ensures.value) (c.reads.ensures.reads.0 c.if-reads.true) in
    record {
      kept = take-set c.loop-mask.masks place mask ∙ c.loop-mask.invariant.kept;
      tried = tried_dropped g r front c.args.bound c.args.first [] mask c.loop-mask.invariant.tried
          (last_broken g r (front ++ mask ∷ []) whole (read_kept g r front mask c.args.hit.now image is whole read));
    }

pub loop-mask-preserved : goal.loop-mask-preserved
loop-mask-preserved c =
    let start = c.args.masks.now in
    let place = length start - 1 in
    let mask = c.loop-mask.mask in
    let some : 1 ≤ length start = omega (arith, c.relation-relation.ensures.relation.some_places, c.requires.places) in
    let written = written_is start c.loop-mask.masks mask some c.loop-mask.auto.masks c.loop-mask.invariant.kept in
    record {
      kept = take-set c.loop-mask.masks place mask ∙ c.loop-mask.invariant.kept;
      tried = tried_dropped c.args.self.now c.args.rows.now (take place start) c.args.bound c.args.first [] mask c.loop-mask.invariant.tried
          (λ rest broken. c.if-choose.ensures.none rest
          (subst (λ ms. IsProjection c.args.rows.now (ms ++ rest)) (sym written) broken.is_projection));
    }

pub returns-then-choose-clause-found : goal.returns-then-choose-clause-found
returns-then-choose-clause-found c =
    let g = c.args.self.now in
    let r = c.args.rows.now in
    let start = c.args.masks.now in
    let place = length start - 1 in
    let front = take place start in
    let mask = c.loop-mask.mask in
    let is = c.relation-relation.ensures.relation in
    let now = set c.loop-mask.masks place mask in
    let some : 1 ≤ length start = omega (arith, is.some_places, c.requires.places) in
    let written : now ≡ front ++ mask ∷ [] = written_is start c.loop-mask.masks mask some c.loop-mask.auto.masks c.loop-mask.invariant.kept in
    let long : length now ≡ r.arity = length-set c.loop-mask.masks place mask ∙ (c.loop-mask.auto.masks ∙ c.requires.places) in
    let whole : length (front ++ mask ∷ []) ≡ r.arity = ap length (sym written) ∙ long in
    let image : HaveImage g r front c.args.hit.now = rw c.requires.places c.requires.hit in
    let unread = λ (read : IsReadAt r c.args.hit.now (length front) (value_of_set g mask)).
    refuted c.reads.result c.if-reads.false (c.reads.ensures.reads.1 (rw (front_long start, ← c.apply.ensures.value) at read)) in
    let projection = subst (IsProjection r) written (chosen_projection r now c.choose.new.to is long c.if-choose.ensures.chosen) in
    let broken = unread_broken g r front mask c.args.hit.now image is whole unread projection in
    let least = found_last g r front c.args.bound c.args.first mask c.loop-mask.invariant.tried
    (λ bound. omega (arith, c.first_mask-mask.ensures.first bound, c.loop-mask.auto.mask)) broken in
    let last : drop place now ≡ mask ∷ [] = ap (drop place) written ∙ drop_at front (mask ∷ []) place (front_long start) in
    subst (λ n. IsLeast (GoesOnBroken g r (take n start) c.args.bound (c.args.first ∷ [])) (drop n now)) (ap (λ n. n - 1) c.requires.places)
    (subst (IsLeast (GoesOnBroken g r front c.args.bound (c.args.first ∷ []))) (sym last) least)

pub returns-clause-none : goal.returns-clause-none
returns-clause-none c =
    let g = c.args.self.now in
    let r = c.args.rows.now in
    let start = c.args.masks.now in
    let is = c.relation-relation.ensures.relation in
    let room : length (take (length start - 1) start) < r.arity =
    omega (arith, front_long start, is.some_places, c.requires.places) in
    let all : c.set_count-mask-end.result ≡ 2 ^ r.domain = c.set_count-mask-end.ensures.count ∙ ap (λ d. 2 ^ d) c.requires.domain in
    let none = all_tried g r (take (length start - 1) start) c.args.bound c.args.first [] c.loop-mask.mask room is
    (omega (arith, all, c.loop-mask-test.false)) c.loop-mask.invariant.tried in
    subst (λ n. (other : List ℕ) → GoesOnBroken g r (take n start) c.args.bound (c.args.first ∷ []) other → ⊥)
    (ap (λ n. n - 1) c.requires.places) none
