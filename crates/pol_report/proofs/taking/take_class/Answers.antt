use Rattle.std.proofs.Common.{◌≡◌, ◌∷◌, rules}
use Rattle.pol_report.proofs.ClassWords.{one_class-found, one_class-none}
use Rattle.pol_report.proofs.taking.take_class.Goals as goal

pub returns-in-Some : goal.returns-in-Some
returns-in-Some c =
    let token = c.in_ok-token.token.now in
    let first : c.args.tokens.now ≡ token ∷ c.take.new.tokens = search rules in
    record { took = one_class-found c.args.tokens.now c.take.new.tokens token c.in-Some.kind first c.in-Some.ensures.found }

pub returns-in-None : goal.returns-in-None
returns-in-None c =
    let token = c.in_ok-token.token.now in
    let first : c.args.tokens.now ≡ token ∷ c.take.new.tokens = search rules in
    record { took = one_class-none c.args.tokens.now c.take.new.tokens token first c.in-None.ensures.none }
