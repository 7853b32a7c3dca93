use Rattle.std.proofs.Common.{◌≡◌, ◌∷◌, ◌++◌, [], ap, ◌∙◌, rules}
use Rattle.pol_report.specs.Tokens.{as_number}
use Rattle.pol_report.proofs.CountLemmas.{to_end-first}
use Rattle.pol_report.proofs.taking.some_numbers.Goals as goal

pub returns : goal.returns
returns c =
    let v = c.in_ok-number_in.field-0 in
    let begun = c.push.new.self in
    let one : begun ≡ v ∷ [] = c.in_ok-push.ensures.ok ∙ ap (λ xs. xs ++ v ∷ []) c.new-numbers.ensures.empty in
    let token = c.in-Some.first.now in
    let first : c.args.tokens ≡ token ∷ c.next.new.self = search rules in
    record { numbers = rw (first, to_end-first as_number c.args.most begun token c.next.new.self v c.requires.some c.in_ok-number_in.ensures.number one) c.more_numbers.ensures.numbers }
