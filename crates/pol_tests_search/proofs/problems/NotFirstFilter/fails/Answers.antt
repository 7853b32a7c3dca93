use Rattle.std.proofs.Common.{◌≡◌, ℕ, get_or, subst, arith, nat_eq}
use Rattle.std.specs.Prelude.{IsTrue, IsBitSet}
use Rattle.std.proofs.lemmas.Bool.Decides.{nat_tests}
use Rattle.pol_base.proofs.BitLemmas.{single_set}
use Rattle.pol_tests_search.proofs.problems.NotFirstFilter.fails.Goals as goal

pub returns-clause-none : goal.returns-clause-none
returns-clause-none c = λ only xs w other.
    let first = get_or c.args.masks.now 0 0 in
    let here : IsBitSet first (get_or xs 0 0) = w.within 0 (omega (arith, w.long, c.requires.taken)) in
    other (single_set 0 (get_or xs 0 0) (subst (λ m. IsBitSet m (get_or xs 0 0)) (one first only) here))
  where
    one : (mask : ℕ) → IsTrue (nat_eq mask 1) → mask ≡ 1
    one mask only = grind (arith, nat_tests)
