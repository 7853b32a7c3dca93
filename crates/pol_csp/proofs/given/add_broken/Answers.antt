use Rattle.std.proofs.Common.{ℕ, ◌≡◌, ◌≢◌, ◌<◌, ◌⊎◌, ◌∙◌, inl, inr, length, get_or, arith, Bool, false, subst, sym}
use Rattle.std.proofs.Common.{refl, nat_eq, below_more}
use Rattle.std.specs.Prelude.{IsTrue}
use Rattle.std.proofs.lemmas.Bool.{cases_eq}
use Rattle.std.proofs.lemmas.Bool.Decides.{nat_tests}
use Rattle.std.proofs.lemmas.List.{get_or_default}
use Rattle.std.proofs.lemmas.List.Elements.{Contains-get_or}
use Rattle.pol_relation.specs.Instances.{ConstraintView, Meets, no_constraint}
use Rattle.pol_csp.proofs.GivenLemmas.{from_push}
use Rattle.pol_csp.proofs.given.add_broken.Goals as goal
use Rattle.pol_csp.proofs.given.add_broken.Goals.{then-not-meets+in_ok-add+else-added-eq-MOST_ADDED, else-not-meets}

pub loop-c-init : goal.loop-c-init
loop-c-init c = record {
  few = omega arith;
  from = λ k d h. inl (Contains-get_or c.args.pool.now k d h);
  met = λ e i h. absurd (omega arith);
  broken = λ ne. absurd (ne refl);
}

-- fifty that are broken
pub returns-then-added-eq-MOST_ADDED-clause-from :
    goal.returns-then-added-eq-MOST_ADDED-clause-from
returns-then-added-eq-MOST_ADDED-clause-from c =
    let given = c.args.problem.now.constraints in
    let inside : c.loop-c.c < length given = omega (
      arith,
      c.loop-c-test.true,
      c.constraints-c-end.ensures.counted,
      c.loop-c.auto.c-end,
    ) in
    rw (c.in_ok-add.ensures.ok, c.relation_of.ensures.relation, c.scope.ensures.scope)
    (from_push c.args.pool.now given c.loop-c.pool c.loop-c.c c.loop-c.invariant.from inside)

refuted : (b : Bool) → b ≡ false → IsTrue b → ⊥
refuted b e h = cc

pub loop-c-preserved : goal.loop-c-preserved
loop-c-preserved c =
    let lang = c.args.lang.now in
    let given = c.args.problem.now.constraints in
    let inside : c.loop-c.c < length given = omega (
      arith,
      c.loop-c-test.true,
      c.constraints-c-end.ensures.counted,
      c.loop-c.auto.c-end,
    ) in
    elim c.if-not-meets.branch [
      | then-not-meets+in_ok-add+else-added-eq-MOST_ADDED w ↦ record {
        few = omega (arith, w.added-is, c.loop-c.invariant.few, w.if-added-eq-MOST_ADDED.false);
        from = rw (w.pool-is, w.in_ok-add.ensures.ok, w.relation_of.ensures.relation, w.scope.ensures.scope)
            (from_push c.args.pool.now given c.loop-c.pool c.loop-c.c c.loop-c.invariant.from inside);
        met = λ e. absurd (omega (arith, w.added-is));
        broken = λ ne all. refuted c.meets.result w.if-not-meets.true
            (c.meets.ensures.meets.1 (all c.loop-c.c no_constraint inside));
      }
      | else-not-meets w ↦ record {
        few = omega (arith, w.added-is, c.loop-c.invariant.few);
        from = rw w.pool-is c.loop-c.invariant.from;
        met = λ e. below_more (λ k. Meets lang (get_or given k no_constraint) c.args.values.now) c.loop-c.c
            (c.loop-c.invariant.met (sym w.added-is ∙ e)) (c.meets.ensures.meets.0 w.if-not-meets.false);
        broken = λ ne. c.loop-c.invariant.broken (λ e. ne (w.added-is ∙ e));
      }
    ]

pub returns-clause-met : goal.returns-clause-met
returns-clause-met c = (
  λ all k d h. subst (λ (x : ConstraintView). Meets c.args.lang.now x c.args.values.now)
      (get_or_default c.args.problem.now.constraints k no_constraint d h)
      (c.loop-c.invariant.met (none c.loop-c.added all) k
      (omega (arith, c.loop-c-test.false, c.constraints-c-end.ensures.counted))),
  λ met. by (cases_eq c.loop-c.added 0) (λ ne. c.loop-c.invariant.broken ne met),
)
  where
    none : (added : ℕ) → IsTrue (nat_eq added 0) → added ≡ 0
    none added h = grind (arith, nat_tests)

    by : {added : ℕ} → (added ≡ 0) ⊎ (added ≢ 0) → ((added ≢ 0) → ⊥) → IsTrue (nat_eq added 0)
    by (inl e) broken = rw e refl
    by (inr ne) broken = absurd (broken ne)
