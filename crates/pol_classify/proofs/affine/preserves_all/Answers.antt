use Rattle.std.proofs.Common.{◌<◌, length, inl, inr, arith, sym, subst, refl}
use Rattle.std.proofs.lemmas.Bool.{true≢false, cases_eq}
use Rattle.pol_relation.specs.Relations.{relation_of, no_named}
use Rattle.pol_optable.specs.Operations.{Preserves}
use Rattle.pol_classify.proofs.AffineLemmas.{all_preserved}
use Rattle.pol_classify.proofs.affine.preserves_all.Goals as goal

pub returns-then-not-preserves : goal.returns-then-not-preserves
returns-then-not-preserves c =
    let f = c.args.table.now in
    let inside : c.loop-i.i < length c.args.lang.now.relations
    = omega (arith, c.loop-i-test.true, c.len-i-end.ensures.relations) in
    record {
      preserves = (
        λ no. absurd (true≢false (sym no)),
        λ all. c.if-not-preserves.ensures.preserves.1
            (subst (Preserves f) (sym c.relation.ensures.relation) (all c.loop-i.i no_named inside)),
      );
    }

pub loop-i-preserved : goal.loop-i-preserved
loop-i-preserved c = λ i within.
    let f = c.args.table.now in
    let here : Preserves f (relation_of c.args.lang.now c.loop-i.i)
    = subst (Preserves f) c.relation.ensures.relation (c.if-not-preserves.ensures.preserves.0 refl) in
    elim (cases_eq i c.loop-i.i) [
      | inl same ↦ subst (λ n. Preserves f (relation_of c.args.lang.now n)) (sym same) here
      | inr apart ↦ c.loop-i.invariant i (omega (arith, within, apart))
    ]

pub returns : goal.returns
returns c = record {
  preserves = (
    λ yes. all_preserved c.args.table.now c.args.lang.now
        (λ i inside. c.loop-i.invariant i (omega (arith, inside, c.loop-i-test.false, c.len-i-end.ensures.relations))),
    λ all. refl,
  );
}
