-- The number that a token writes, told by the digits at its front and the byte behind them.
use Rattle.std.proofs.Common.{◌≡◌, ℕ, zero, suc, ◌<◌, ◌≤◌, ◌⊎◌, ◌∙◌, true, false, leb, List, [], ◌∷◌, length, get_or, take, Some, None, map, ◌-◌, ◌&&◌, arith, refl, sym, ap, inl, inr, Bool, if◌then◌else◌, drop, length-take, length-drop, true≢false}
use Rattle.std.proofs.lemmas.Bool.{cases_lt, ne_eqb, le-leb, lt-leb, not-true, not-false, and_parts}
use Rattle.std.proofs.lemmas.List.{get_or-take}
use Rattle.std.proofs.lemmas.List.Folds.{list_all_at}
use Rattle.std.specs.List.{position_or_len, list_all}
use Rattle.pol_base.specs.Tuples.{cell_of}
use Rattle.pol_text.specs.Lines.{tokens_of, is_blank, begins_solid, is_digit, number_of}
use Rattle.pol_text.proofs.LineLemmas.{is_solid, IsDigit-from_test, position_or_len-le, begins_solid-blanks, tokens_of-next}

digit_not_blank : (b : ℕ) → is_digit b ≡ true → is_blank b ≡ false
digit_not_blank b digit =
    let within = IsDigit-from_test b digit in
    rw (ne_eqb b 32 (λ e. absurd (omega arith)), ne_eqb b 9 (λ e. absurd (omega arith))) refl

-- digits up to a blank or the end are a token
digits_to_blank : (bs : List ℕ) (n : ℕ) → n ≤ length bs → list_all is_digit (take n bs) ≡ true
    → begins_solid (drop n bs) ≡ false → position_or_len is_blank bs ≡ n
digits_to_blank [] n within digits ended = omega arith
digits_to_blank (b ∷ bs) zero within digits ended = rw (not-false (is_blank b) ended) refl
digits_to_blank (b ∷ bs) (suc n) within digits ended =
    let parts = and_parts (is_digit b) (list_all is_digit (take n bs)) digits in
    let rest = digits_to_blank bs n (omega arith) parts.1 ended in
    rw (digit_not_blank b parts.0) (omega arith)

-- a token reaches past its digits to a byte that is no blank
past_digits : (bs : List ℕ) (n : ℕ) → list_all is_digit (take n bs) ≡ true
    → begins_solid (drop n bs) ≡ true → n < position_or_len is_blank bs
past_digits [] zero digits solid = absurd (cc)
past_digits [] (suc n) digits solid = absurd (cc)
past_digits (b ∷ bs) zero digits solid = rw (not-true (is_blank b) solid) (omega arith)
past_digits (b ∷ bs) (suc n) digits solid =
    let parts = and_parts (is_digit b) (list_all is_digit (take n bs)) digits in
    let rest = past_digits bs n parts.1 solid in
    rw (digit_not_blank b parts.0) (omega arith)

-- one to nine digits
number_of-digits : (bs : List ℕ) → 0 < length bs → length bs ≤ 9 → list_all is_digit bs ≡ true
    → number_of bs ≡ Some (cell_of 10 (map (λ b. b - 48) bs))
number_of-digits bs some few digits = rw (le-leb 1 (length bs) some, le-leb (length bs) 9 few, digits) refl

no_number : (some few digits : Bool) (n : ℕ) → (few ≡ false) ⊎ (digits ≡ false)
    → (if some && few && digits then Some n else None) ≡ None
no_number false few digits n fails = refl
no_number true false digits n fails = refl
no_number true true false n fails = refl
no_number true true true n (inl fails) = absurd (cc)
no_number true true true n (inr fails) = absurd (cc)

-- a tenth byte, or one of the first nine that is no digit
number_of-other : (bs : List ℕ) (n : ℕ) → n < length bs → n ≤ 9 → (n < 9 → is_digit (get_or bs n 0) ≡ false)
    → number_of bs ≡ None
number_of-other bs n inside few other = elim (cases_lt n 9) [
  | inl small ↦
      let fails = list_all_at is_digit bs n 0 inside (other small) in
      no_number (leb 1 (length bs)) (leb (length bs) 9) (list_all is_digit bs) _ (inr fails)
  | inr large ↦
      let long = lt-leb (length bs) 9 (omega arith) in
      no_number (leb 1 (length bs)) (leb (length bs) 9) (list_all is_digit bs) _ (inl long)
]

-- behind the blanks at the front a token begins
behind_solid : (bs behind : List ℕ) → behind ≡ drop (position_or_len is_solid bs) bs → 0 < length behind
    → begins_solid behind ≡ true
behind_solid bs behind is some =
    let inside : position_or_len is_solid bs < length bs = omega (arith, ap length is, length-drop (position_or_len is_solid bs) bs) in
    rw is (begins_solid-blanks bs inside)

-- the first token is the digits, of which at most nine were taken, where a blank comes behind them or nothing
pub number_next : (bs behind rest : List ℕ) (n v : ℕ) → behind ≡ drop (position_or_len is_solid bs) bs
    → 0 < length behind → n ≤ 9 → n ≤ length behind → list_all is_digit (take n behind) ≡ true
    → v ≡ cell_of 10 (map (λ b. b - 48) (take n behind)) → rest ≡ drop n behind → begins_solid rest ≡ false
    → (tokens_of bs ≡ take n behind ∷ tokens_of rest) × (number_of (take n behind) ≡ Some v)
number_next bs behind rest zero v at some few within digits is rest_is ended =
    absurd (true≢false (sym (behind_solid bs behind at some) ∙ ap begins_solid (sym rest_is) ∙ ended))
number_next bs behind rest (suc n) v at some few within digits is rest_is ended =
    let ends = digits_to_blank behind (suc n) within digits (ap begins_solid (sym rest_is) ∙ ended) in
    let long = length-take (suc n) behind in
    (tokens_of-next bs behind _ rest at some (rw ends refl) (rw ends rest_is), rw is (number_of-digits (take (suc n) behind) (omega arith) (omega arith) digits))

-- a token has all digits at its front
digits_within : (bs : List ℕ) (n : ℕ) → n ≤ length bs → list_all is_digit (take n bs) ≡ true → n ≤ position_or_len is_blank bs
digits_within bs zero within digits = omega arith
digits_within [] (suc n) within digits = absurd (omega arith)
digits_within (b ∷ bs) (suc n) within digits =
    let parts = and_parts (is_digit b) (list_all is_digit (take n bs)) digits in
    let rest = digits_within bs n (omega arith) parts.1 in
    rw (digit_not_blank b parts.0) (omega arith)

many_digits : (bs : List ℕ) (n : ℕ) → n ≤ length bs → list_all is_digit (take n bs) ≡ true → 9 < n
    → number_of (take (position_or_len is_blank bs) bs) ≡ None
many_digits bs n within digits many =
    let reach = digits_within bs n within digits in
    let inside = position_or_len-le is_blank bs in
    let long = length-take (position_or_len is_blank bs) bs in
    number_of-other (take (position_or_len is_blank bs) bs) 9 (omega arith) (omega arith) (λ small. absurd (omega arith))

-- the first token is no number where it has more than nine digits at its front, or goes on behind them
other_token : (bs : List ℕ) (n : ℕ) → n ≤ length bs → list_all is_digit (take n bs) ≡ true
    → (n < length bs → is_digit (get_or bs n 0) ≡ false) → (9 < n) ⊎ (begins_solid (drop n bs) ≡ true)
    → number_of (take (position_or_len is_blank bs) bs) ≡ None
other_token bs n within digits most (inl many) = many_digits bs n within digits many
other_token bs n within digits most (inr solid) = elim (cases_lt 9 n) [
  | inl many ↦ many_digits bs n within digits many
  | inr few ↦
      let past = past_digits bs n digits solid in
      let inside = position_or_len-le is_blank bs in
      let long = length-take (position_or_len is_blank bs) bs in
      number_of-other (take (position_or_len is_blank bs) bs) n (omega arith) few
      (λ small. rw (get_or-take (position_or_len is_blank bs) bs n 0 past) (most (omega arith)))
]

-- the first token, where that is no number
pub other_next : (bs behind token rest : List ℕ) (n : ℕ) → behind ≡ drop (position_or_len is_solid bs) bs
    → 0 < length behind → n ≤ length behind → list_all is_digit (take n behind) ≡ true
    → (n < length behind → is_digit (get_or behind n 0) ≡ false) → (9 < n) ⊎ (begins_solid (drop n behind) ≡ true)
    → token ≡ take (position_or_len is_blank behind) behind → rest ≡ drop (position_or_len is_blank behind) behind
    → (tokens_of bs ≡ token ∷ tokens_of rest) × (number_of token ≡ None)
other_next bs behind token rest n at some within digits most other token_is rest_is =
    (tokens_of-next bs behind token rest at some token_is rest_is, rw token_is (other_token behind n within digits most other))
