-- Lines, tokens, numbers and names of a text.
use Rattle.std.specs.Prelude.{ℕ, List, [], ◌∷◌, ◌==◌, if◌then◌else◌, Bool, ◌||◌, false, not}
use Rattle.std.specs.Prelude.{◌+◌, length, slice_index_or, nat_le, ◌&&◌, ◌-◌, map, Option, Some, None}
use Rattle.std.specs.List.{list_all}
use Rattle.pol_base.specs.Tuples.{cell_of}

-- the byte goes before the first of the pieces, or is a piece of its own
abbrev pub grown : ℕ → List (List ℕ) → List (List ℕ)
grown b [] = (b ∷ []) ∷ []
grown b (p ∷ ps) = (b ∷ p) ∷ ps

-- the lines, each with the LF that ends it; bytes behind the last LF are a line where there are any
abbrev pub lines_of : List ℕ → List (List ℕ)
lines_of [] = []
lines_of (b ∷ bs) = if b == 10 then (b ∷ []) ∷ lines_of bs else grown b (lines_of bs)

-- the list without its last byte, where that is this byte
abbrev pub without_last : ℕ → List ℕ → List ℕ
without_last b [] = []
without_last b (c ∷ []) = if c == b then [] else c ∷ []
without_last b (c ∷ d ∷ rest) = c ∷ without_last b (d ∷ rest)

-- the line without its LF, and without one CR at its end
abbrev pub line_text : List ℕ → List ℕ
line_text line = without_last 13 (without_last 10 line)

-- a space or a tab
abbrev pub is_blank : ℕ → Bool
is_blank b = b == 32 || b == 9

-- a token stands at the front
abbrev pub begins_solid : List ℕ → Bool
begins_solid [] = false
begins_solid (b ∷ bs) = not (is_blank b)

-- the longest pieces without a space or a tab
abbrev pub tokens_of : List ℕ → List (List ℕ)
tokens_of [] = []
tokens_of (b ∷ bs) =
    if is_blank b then tokens_of bs else
    (if begins_solid bs then grown b (tokens_of bs) else (b ∷ []) ∷ tokens_of bs)

-- the token begins a comment
abbrev pub is_comment : List ℕ → Bool
is_comment [] = false
is_comment (b ∷ bs) = b == 35

-- there is a token, and the first one begins no comment
abbrev pub is_significant : List (List ℕ) → Bool
is_significant [] = false
is_significant (t ∷ ts) = not (is_comment t)

-- a significant line: its number, its tokens, and the place behind it
pub record LineView : Type 0 where
  pub number : ℕ
  pub tokens : List (List ℕ)
  pub after : ℕ

-- the significant ones of lines, of which the first begins at the place and has the number
abbrev pub significant_among : ℕ → ℕ → List (List ℕ) → List LineView
significant_among number place [] = []
significant_among number place (line ∷ lines) =
    if is_significant (tokens_of (line_text line))
    then record { number = number; tokens = tokens_of (line_text line); after = place + length line }
    ∷ significant_among (number + 1) (place + length line) lines
    else significant_among (number + 1) (place + length line) lines

-- the significant lines of a text whose first line has the number
abbrev pub significant_lines : ℕ → List ℕ → List LineView
significant_lines first bytes = significant_among first 0 (lines_of bytes)

-- the token at a place, and no byte where there is none
abbrev pub token_at : List (List ℕ) → ℕ → List ℕ
token_at tokens i = slice_index_or tokens i []

-- `0` to `9`
abbrev pub is_digit : ℕ → Bool
is_digit b = nat_le 48 b && nat_le b 57

-- one to nine decimal digits
abbrev pub is_number : List ℕ → Bool
is_number token = nat_le 1 (length token) && nat_le (length token) 9 && list_all is_digit token

-- the number that the token writes
abbrev pub number_of : List ℕ → Option ℕ
number_of token = if is_number token then Some (cell_of 10 (map (λ b. b - 48) token)) else None

-- `A` to `Z` and `a` to `z`
abbrev pub is_letter : ℕ → Bool
is_letter b = (nat_le 65 b && nat_le b 90) || (nat_le 97 b && nat_le b 122)

-- a letter, a digit, `_` or `-`
abbrev pub is_name_byte : ℕ → Bool
is_name_byte b = is_letter b || is_digit b || b == 95 || b == 45

-- a letter and at most 31 letters, digits, `_` and `-` behind it
abbrev pub is_name : List ℕ → Bool
is_name [] = false
is_name (b ∷ bs) = is_letter b && nat_le (length bs) 31 && list_all is_name_byte bs
