use Rattle.std.proofs.Common.{◌≡◌, ◌∙◌, Bool, true, false, not, refl}
use Rattle.std.specs.Prelude.{IsTrue}
use Rattle.pol_base.specs.Masks.{single_masks}
use Rattle.pol_csp.proofs.GivenLemmas.{follow_given, are_single, single_within}
use Rattle.pol_csp.proofs.given.GivenConditions.more.Goals as goal

pub returns-then-not-branch-clause-follow : goal.returns-then-not-branch-clause-follow
returns-then-not-branch-clause-follow g c =
    let taken = c.requires.taken in
    follow_given (g.F.Filter.wanted c.args.self.now.filter.now) c.args.lang.now c.args.self.now.problem.now _
    c.args.pool.now c.add_broken.new.pool
    taken.counted taken.fits c.requires.follow c.in_ok-add_broken.ensures.from

pub fails-requires-clause-masks : goal.fails-requires-clause-masks
fails-requires-clause-masks g c =
    rw (c.as_slice.ensures.value, c.in_ok-masks.ensures.single, c.domain.ensures.domain)
    (are_single c.args.lang.now.domain c.args.values.now c.requires.tuple.below)

pub returns-clause-follow : goal.returns-clause-follow
returns-clause-follow g c =
    let taken = c.requires.taken in
    follow_given (g.F.Filter.wanted c.args.self.now.filter.now) c.args.lang.now c.args.self.now.problem.now _
    c.args.pool.now c.add_broken.new.pool
    taken.counted taken.fits c.requires.follow c.in_ok-add_broken.ensures.from

pub returns-clause-wanted : goal.returns-clause-wanted
returns-clause-wanted g c = (
  λ kept. record {
    meets = c.in_ok-add_broken.ensures.met.0 c.if-not-branch.false;
    wanted = c.fails.ensures.told c.args.values.now single (λ failed. refuted c.fails.result kept failed);
  },
  λ kept. passed c.fails.result (λ failed. c.fails.ensures.none failed c.args.values.now
      (rw single (single_within c.args.values.now)) kept.wanted),
)
  where
    single : c.as_slice.result.now ≡ single_masks c.args.values.now
    single = c.as_slice.ensures.value ∙ c.in_ok-masks.ensures.single

    refuted : (b : Bool) → IsTrue (not b) → IsTrue b → ⊥
    refuted true kept failed = cc
    refuted false kept failed = cc

    passed : (b : Bool) → (IsTrue b → ⊥) → IsTrue (not b)
    passed true never = absurd (never refl)
    passed false never = refl
