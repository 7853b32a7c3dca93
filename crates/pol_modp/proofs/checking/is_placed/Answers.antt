use Rattle.std.proofs.Common.{◌≡◌, eqb, ltb, length, ◌∙◌, sym, ap, arith}
use Rattle.std.proofs.lemmas.Bool.{lt-ltb, eq-eqb}
use Rattle.pol_relation.specs.Relations.{RelationView, relation_of}
use Rattle.pol_modp.specs.Combinations.{arity_at}
use Rattle.pol_modp.specs.CombinationFaults.{are_below}
use Rattle.pol_modp.proofs.SumLemmas.{last_test}
use Rattle.pol_modp.proofs.checking.is_placed.Goals as goal

pub returns : goal.returns
returns c =
    let lang = c.args.lang.now in
    let inst = c.args.inst.now in
    let part = c.args.part.now in
    let d = lang.domain in
    let size : c.size-d.result ≡ d = c.size-d.ensures.size ∙ c.domain.ensures.domain in
    let arity : c.arity.result ≡ arity_at lang inst part.c = c.arity.ensures.arity ∙ (ap (λ (r : RelationView). r.arity) c.relation.ensures.relation ∙ ap (λ r. (relation_of lang r).arity) c.relation_of.ensures.relation) in
    let many : length part.coefs ≡ arity_at lang inst part.c = ap length (sym c.as_slice-coefs.ensures.items) ∙ (c.if-coefs-arity.false ∙ arity) in
    let last = c.are_below.ensures.below ∙ (ap (λ m. are_below m c.as_slice-coefs.result.now) size ∙ ap (are_below d) c.as_slice-coefs.ensures.items) in
    record {
      placed = last ∙ last_test (ltb part.c (length inst.constraints)) (eqb (length part.coefs) (arity_at lang inst part.c)) (ltb part.multiplier d) (ltb part.right d) (are_below d part.coefs)
          (lt-ltb part.c (length inst.constraints) (omega (arith, c.if-part-constraints.false, c.constraints.ensures.constraints))) (eq-eqb (length part.coefs) (arity_at lang inst part.c) many)
          (lt-ltb part.multiplier d (omega (arith, c.if-part-d.false, size))) (lt-ltb part.right d (omega (arith, c.if-part-d-2.false, size)));
    }
