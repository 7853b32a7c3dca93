use Rattle.std.proofs.Common.{◌≡◌, ℕ, ◌+◌, ◌<◌, ◌⊎◌, inl, inr, subst, sym, arith}
use Rattle.std.proofs.lemmas.Bool.{cases_eq}
use Rattle.std.proofs.lemmas.List.{get_or_default}
use Rattle.pol_relation.specs.Relations.{NamedRelation, no_named, relation_of}
use Rattle.pol_optable.specs.SetFunctions.{PreservesSets}
use Rattle.pol_tests_solve.proofs.arcs.preserves.Goals as goal

pub loop-i-preserved : goal.loop-i-preserved
loop-i-preserved c =
    let here : PreservesSets c.args.g.now (relation_of c.args.language.now c.loop-i.i) =
    subst (PreservesSets c.args.g.now) c.relation.ensures.relation (c.preserves.ensures.preserves.0 c.if-not-preserves.false) in
    λ k less. by here k less (cases_eq k c.loop-i.i)
  where
    by : PreservesSets c.args.g.now (relation_of c.args.language.now c.loop-i.i) → (k : ℕ) → k < c.loop-i.i + 1 → (k ≡ c.loop-i.i) ⊎ (k ≡ c.loop-i.i → ⊥) → PreservesSets c.args.g.now (relation_of c.args.language.now k)
    by here k less (inl same) = subst (λ (n : ℕ). PreservesSets c.args.g.now (relation_of c.args.language.now n)) (sym same) here
    by here k less (inr before) = c.loop-i.invariant k (omega arith)

pub returns : goal.returns
returns c = record {
  preserves = λ _ k d inside.
      subst (λ (e : NamedRelation). PreservesSets c.args.g.now e.relation) (get_or_default c.args.language.now.relations k no_named d inside)
      (c.loop-i.invariant k (omega (arith, c.loop-i-test.false, c.len-i-end.ensures.relations)));
}
