use Rattle.std.proofs.Common.{◌≡◌, ◌↔◌, IsTrue, sym, subst}
use Rattle.pol_base.specs.Lists.{is_same}
use Rattle.pol_base.proofs.LookupLemmas.{is_same-decides}
use Rattle.pol_cli.proofs.words.is_word.Goals as goal

pub returns : goal.returns
returns c =
    let test : c.eq.result ≡ is_same c.args.word.now c.args.known.now = c.eq.ensures in
    record { same = subst (λ result. IsTrue result ↔ (c.args.word.now ≡ c.args.known.now)) (sym test) (is_same-decides c.args.word.now c.args.known.now) }
