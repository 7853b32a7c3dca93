use Rattle.std.proofs.Common.{◌≡◌, ℕ, ◌^◌, List, arith, subst}
use Rattle.pol_optable.specs.Identities.{IsAffine}
use Rattle.pol_optable.specs.ClassLines.{IsTable}
use Rattle.pol_classify.specs.AffineTables.{IsTableBelow}
use Rattle.pol_classify.proofs.LeastLemmas.{least_kept}
use Rattle.pol_classify.proofs.AffineLemmas.{all_tables}
use Rattle.pol_classify.proofs.affine.least_affine.Goals as goal

pub returns-clause-least : goal.returns-clause-least
returns-clause-least c =
    let lang = c.args.lang.now in
    let all : c.label_lists-number-end.result ≡ lang.domain ^ lang.domain
    = subst (λ n. c.label_lists-number-end.result ≡ n ^ n) c.domain.ensures.domain
    c.label_lists-number-end.ensures.count in
    let ended : lang.domain ^ lang.domain ≡ c.loop-number.number
    = omega (arith, all, c.loop-number-test.false, c.loop-number.auto.number-end) in
    least_kept (IsTableBelow lang c.loop-number.number) (IsTable IsAffine 3 lang) (λ cells below. below.table) _
    (subst (λ n. (cells : List ℕ) → IsTable IsAffine 3 lang cells → IsTableBelow lang n cells) ended (all_tables lang))
    c.loop-number.invariant.least
