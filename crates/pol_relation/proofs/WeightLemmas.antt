-- The sums over the relations of a language, a relation at a time.
use Rattle.std.proofs.Common.{◌≡◌, ℕ, ◌+◌, ◌-◌, ◌^◌, ◌<◌, min, List, length, take, get_or, sym, ap, ◌∙◌, arith}
use Rattle.std.proofs.lemmas.List.{take_more}
use Rattle.pol_relation.specs.Relations.{NamedRelation, no_named}
use Rattle.pol_relation.specs.Weights.{weight_of, subset_weight_of}
use Rattle.pol_relation.proofs.SumLemmas.{weight_of-push, subset_weight_of-push}

abbrev pub named_at : List NamedRelation → ℕ → NamedRelation
named_at relations i = get_or relations i no_named

-- sums that stop at a greatest number may stop early
min-sum : (a b greatest : ℕ) → min (min a greatest + min b greatest) greatest ≡ min (a + b) greatest
min-sum a b greatest = omega arith

pub weight_of-next : (k : ℕ) (relations : List NamedRelation) (i greatest : ℕ) → i < length relations → min (min (weight_of k (take i relations)) greatest + min (length (named_at relations i).relation.rows ^ k) greatest) greatest ≡ min (weight_of k (take (i + 1) relations)) greatest
weight_of-next k relations i greatest inside =
    let more = take_more relations i no_named inside in
    min-sum (weight_of k (take i relations)) (length (named_at relations i).relation.rows ^ k) greatest
    ∙ ap (λ sum. min sum greatest) (sym (ap (weight_of k) more ∙ weight_of-push k (take i relations) (named_at relations i)))

pub subset_weight_of-next : (d : ℕ) (relations : List NamedRelation) (i : ℕ) → i < length relations → subset_weight_of d (take i relations) + (2 ^ d - 1) ^ (named_at relations i).relation.arity ≡ subset_weight_of d (take (i + 1) relations)
subset_weight_of-next d relations i inside =
    sym (ap (subset_weight_of d) (take_more relations i no_named inside) ∙ subset_weight_of-push d (take i relations) (named_at relations i))
