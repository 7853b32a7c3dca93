use Rattle.std.proofs.Common.{◌≡◌, ℕ, ◌+◌, ◌*◌, ◌%◌, ◌<◌, ◌≤◌, Bool, true, false, eqb, suc, length, get_or, take, if◌then◌else◌, sym, ap, ◌∙◌, arith}
use Rattle.std.proofs.lemmas.Bool.{eq-eqb, ne_eqb}
use Rattle.pol_modp.specs.Combinations.{weight_at}
use Rattle.pol_modp.proofs.Modular.{accumulate}
use Rattle.pol_modp.proofs.SumLemmas.{weight-more, weight-all}
use Rattle.pol_modp.proofs.sums.weight_at.Goals as goal
use Rattle.pol_modp.proofs.sums.weight_at.Goals.{then-scope-i, else-scope-i}

one_more : (a b k : ℕ) (test : Bool) → test ≡ true → a ≡ b + (if test then k else 0) → a ≡ b + 1 * k
one_more a b k test passes more = more ∙ (ap (λ t. b + (if t then k else 0)) passes ∙ by b k)
  where
    by : (b k : ℕ) → b + k ≡ b + 1 * k
    by b k = grind arith

none_more : (a b k : ℕ) (test : Bool) → test ≡ false → a ≡ b + (if test then k else 0) → a ≡ b
none_more a b k test fails more = more ∙ (ap (λ t. b + (if t then k else 0)) fails ∙ by b)
  where
    by : (b : ℕ) → b + 0 ≡ b
    by b = omega arith

pub loop-i-preserved : goal.loop-i-preserved
loop-i-preserved c =
    let d = c.args.d in
    let v = c.args.v in
    let scope = c.args.scope.now in
    let coefs = c.args.coefs.now in
    let i = c.loop-i.i in
    let next : i + 1 ≡ suc i = omega arith in
    let inside : i < length coefs = omega (arith, c.loop-i-test.true) in
    let more = ap (λ n. weight_at v (take n scope) (take n coefs)) next ∙ weight-more v scope coefs i inside c.requires.as_many in
    elim c.if-scope-i.branch [
      | then-scope-i w ↦ w.sum-is ∙ accumulate d c.loop-i.sum w.plus_times-sum.result (weight_at v (take i scope) (take i coefs)) (1 * get_or coefs i 0) (weight_at v (take (i + 1) scope) (take (i + 1) coefs))
          c.loop-i.invariant w.plus_times-sum.ensures.sum (one_more _ _ _ (eqb (get_or scope i 0) v) (eq-eqb _ _ w.if-scope-i.true) more)
      | else-scope-i w ↦ w.sum-is ∙ (c.loop-i.invariant ∙ sym (ap (λ s. s % d) (none_more _ _ _ (eqb (get_or scope i 0) v) (ne_eqb _ _ w.if-scope-i.false) more)))
    ]

pub returns : goal.returns
returns c =
    let all : length c.args.coefs.now ≤ c.loop-i.i = omega (arith, c.loop-i-test.false) in
    record { weight = c.loop-i.invariant ∙ ap (λ s. s % c.args.d) (weight-all c.args.v c.args.scope.now c.args.coefs.now c.loop-i.i all) }
