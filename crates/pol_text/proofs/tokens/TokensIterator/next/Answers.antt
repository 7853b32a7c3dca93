use Rattle.std.proofs.Common.{◌≡◌, ◌<◌, ◌∙◌, sym, refl, length, drop, arith, rules}
use Rattle.std.specs.List.{position_or_len}
use Rattle.std.proofs.lemmas.Bool.Decides.{nat_tests}
use Rattle.pol_text.proofs.LineLemmas.{is_solid, tokens_of-none, tokens_of-next}
use Rattle.pol_text.proofs.tokens.TokensIterator.next.Goals as goal

pub returns-then-is_empty-clause-steps : goal.returns-then-is_empty-clause-steps
returns-then-is_empty-clause-steps c =
    let behind : c.split_at.result.1.now ≡ drop (position_or_len is_solid c.self.inside.rest.now) c.self.inside.rest.now = rw (c.split_at.ensures.back, c.blank_length.ensures.length) refl in
    let none : length c.split_at.result.1.now ≡ 0 = grind (arith, nat_tests) in
    let empty = sym c.self.view_is ∙ tokens_of-none c.self.inside.rest.now _ behind none in
    (empty, empty)

pub returns-clause-steps : goal.returns-clause-steps
returns-clause-steps c =
    let behind : c.split_at.result.1.now ≡ drop (position_or_len is_solid c.self.inside.rest.now) c.self.inside.rest.now = rw (c.split_at.ensures.back, c.blank_length.ensures.length) refl in
    let some : 0 < length c.split_at.result.1.now = grind (arith, nat_tests) in
    let token = c.split_at-2.ensures.front in
    let rest = c.split_at-2.ensures.back in
    sym c.self.view_is ∙ tokens_of-next c.self.inside.rest.now _ _ _ behind some (rw c.solid_length.ensures.length at token) (rw c.solid_length.ensures.length at rest)

pub returns-clause-goes : goal.returns-clause-goes
returns-clause-goes c = let steps = returns-clause-steps c in search rules
