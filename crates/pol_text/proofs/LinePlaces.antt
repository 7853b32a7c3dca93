-- The numbers and places of significant lines lie within their text.
use Rattle.std.proofs.Common.{ℕ, ◌<◌, ◌≤◌, [], ◌+◌, List, ◌∷◌, length, ◌≡◌, suc, refl, arith, Bool, true, false, cond, ◌==◌}
use Rattle.std.specs.List.{AllByRecursion}
use Rattle.pol_text.specs.Lines.{LineView, grown, lines_of, line_text, tokens_of, is_significant, significant_among}

-- the line's number is below the one bound, and the place behind it is at most the other
pub record IsWithin (numbers places : ℕ) (l : LineView) : Type 0 where
  pub number : l.number < numbers
  pub place : l.after ≤ places

-- the bytes of the lines together
abbrev pub total_length : List (List ℕ) → ℕ
total_length [] = 0
total_length (line ∷ lines) = length line + total_length lines

total_length-grown : (b : ℕ) (lines : List (List ℕ)) → total_length (grown b lines) ≡ suc (total_length lines)
total_length-grown b [] = refl
total_length-grown b (line ∷ lines) = omega arith

-- the lines are all of the text
pub total_length-lines_of : (bytes : List ℕ) → total_length (lines_of bytes) ≡ length bytes
total_length-lines_of [] = refl
total_length-lines_of (b ∷ bs) = by_byte (b == 10) (total_length-lines_of bs)
  where
    by_byte : (t : Bool) → total_length (lines_of bs) ≡ length bs → total_length (cond t ((b ∷ []) ∷ lines_of bs) (grown b (lines_of bs))) ≡ length (b ∷ bs)
    by_byte true e = omega (arith, e)
    by_byte false e = omega (arith, e, total_length-grown b (lines_of bs))

-- each significant line is within the lines that it is one of
pub significant_within : (number place numbers places : ℕ) (lines : List (List ℕ)) → number + length lines ≤ numbers → place + total_length lines ≤ places → AllByRecursion (IsWithin numbers places) (significant_among number place lines)
significant_within number place numbers places [] n p = tt
significant_within number place numbers places (line ∷ lines) n p = by_test (is_significant (tokens_of (line_text line))) (significant_within (number + 1) (place + length line) numbers places lines (omega arith) (omega arith))
  where
    by_test : (t : Bool) → AllByRecursion (IsWithin numbers places) (significant_among (number + 1) (place + length line) lines) → AllByRecursion (IsWithin numbers places) (cond t (record { number = number; tokens = tokens_of (line_text line); after = place + length line } ∷ significant_among (number + 1) (place + length line) lines) (significant_among (number + 1) (place + length line) lines))
    by_test true rest = (record { number = omega arith; place = omega arith }, rest)
    by_test false rest = rest
