use Rattle.std.proofs.Common.{◌≡◌, ◌<◌, ◌∙◌, refl, sym, ap, length, take, drop, arith, ◌⊎◌, inl, inr, true}
use Rattle.std.specs.List.{position_or_len}
use Rattle.std.proofs.lemmas.Bool.Decides.{nat_tests}
use Rattle.pol_text.specs.Lines.{is_blank, begins_solid}
use Rattle.pol_text.proofs.LineLemmas.{is_solid, tokens_of-none}
use Rattle.pol_text.proofs.NumberLemmas.{number_next, other_next}
use Rattle.pol_text.proofs.tokens.Tokens.any_number.Goals as goal
use Rattle.pol_text.proofs.tokens.Tokens.any_number.Goals.{else-length-le-MOST_DIGITS-via-then-length-le-MOST_DIGITS+else-not-begins_solid, else-length-le-MOST_DIGITS-via-else-length-le-MOST_DIGITS}

pub returns-then-is_empty : goal.returns-then-is_empty
returns-then-is_empty c =
    let behind : c.split_at.result.1.now ≡ drop (position_or_len is_solid c.self.inside.rest.now) c.self.inside.rest.now = rw (c.split_at.ensures.back, c.blank_length.ensures.length) refl in
    let none : length c.split_at.result.1.now ≡ 0 = grind (arith, nat_tests) in
    let empty = sym c.self.view_is ∙ tokens_of-none c.self.inside.rest.now _ behind none in
    record { next = (rw empty refl, rw empty refl) }

pub returns-then-not-begins_solid : goal.returns-then-not-begins_solid
returns-then-not-begins_solid c =
    let behind : c.split_at.result.1.now ≡ drop (position_or_len is_solid c.self.inside.rest.now) c.self.inside.rest.now = rw (c.split_at.ensures.back, c.blank_length.ensures.length) refl in
    let some : 0 < length c.split_at.result.1.now = grind (arith, nat_tests) in
    let digits = c.leading_number-value.ensures in
    let next = number_next c.self.inside.rest.now _ _ _ _ behind some c.if-length-le-MOST_DIGITS.true digits.within digits.digits (digits.value c.if-length-le-MOST_DIGITS.true) c.split_at-2.ensures.back (sym c.begins_solid.ensures.solid ∙ c.if-not-begins_solid.true) in
    record { next = (rw (sym c.self.view_is ∙ next.0, next.1) refl, rw (sym c.self.view_is ∙ next.0) refl) }

pub returns : goal.returns
returns c =
    let behind : c.split_at.result.1.now ≡ drop (position_or_len is_solid c.self.inside.rest.now) c.self.inside.rest.now = rw (c.split_at.ensures.back, c.blank_length.ensures.length) refl in
    let some : 0 < length c.split_at.result.1.now = grind (arith, nat_tests) in
    let digits = c.leading_number-value.ensures in
    let token : c.split_at-3.result.0.now ≡ take (position_or_len is_blank c.split_at.result.1.now) c.split_at.result.1.now = rw (c.split_at-3.ensures.front, c.solid_length.ensures.length) refl in
    let rest : c.split_at-3.result.1.now ≡ drop (position_or_len is_blank c.split_at.result.1.now) c.split_at.result.1.now = rw (c.split_at-3.ensures.back, c.solid_length.ensures.length) refl in
    let other : (9 < c.leading_number-value.result.1) ⊎ (begins_solid (drop c.leading_number-value.result.1 c.split_at.result.1.now) ≡ true) = elim c.else-length-le-MOST_DIGITS.branch [
      | else-length-le-MOST_DIGITS-via-then-length-le-MOST_DIGITS+else-not-begins_solid w ↦ inr (ap begins_solid (sym c.split_at-2.ensures.back) ∙ sym w.begins_solid.ensures.solid ∙ w.if-not-begins_solid.false)
      | else-length-le-MOST_DIGITS-via-else-length-le-MOST_DIGITS w ↦ inl w.if-length-le-MOST_DIGITS.false
    ] in
    let next = other_next c.self.inside.rest.now _ _ _ _ behind some digits.within digits.digits digits.most other token rest in
    record { next = (rw (sym c.self.view_is ∙ next.0, next.1) refl, rw (sym c.self.view_is ∙ next.0) refl) }
