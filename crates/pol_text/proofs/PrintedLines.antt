-- The lines of a printed text, in which one space stands between tokens and an LF behind each line, and the tokens of each line.
use Rattle.std.proofs.Common.{◌≡◌, ℕ, List, [], ◌∷◌, ◌++◌, refl, ap, ◌∙◌, append_assoc, map, codes, decimal, ◌^◌, ◌<◌, true, All, Bool, not, eqb, ◌||◌, false, ◌&&◌, arith, ◌≤◌, leb, inl, inr, length, ◌+◌, suc, length-append, ◌-◌, ◌/◌, ◌%◌, Some}
use Rattle.std.specs.List.{list_all, AllByRecursion}
use Rattle.std.proofs.lemmas.Bool.{and_from, not-true, ne_eqb, leb-true, and_parts, or_cases, eqb-true, le-leb}
use Rattle.std.proofs.lemmas.List.{append-nil, map_push}
use Rattle.std.proofs.lemmas.List.Elements.{All-head, All-tail}
use Rattle.std.proofs.lemmas.List.Folds.{list_all-append}
use Rattle.std.proofs.lemmas.Fmt.{decimal_by_steps, decimal_nonempty, length-decimal-le}
use Rattle.std.proofs.Math.Nat.{div-add-mod', mod-lt}
use Rattle.pol_text.specs.Texts.{joined, spaced, spaced_texts, line_front, printed_line}
use Rattle.pol_text.specs.Lines.{is_name, is_blank, is_letter, is_digit, is_name_byte, begins_solid, tokens_of, lines_of, without_last, line_text, is_significant, LineView, significant_among, number_of}
use Rattle.pol_text.proofs.LineLemmas.{without_last-push}
use Rattle.pol_base.specs.Tuples.{cell_of}
use Rattle.pol_base.proofs.CellLemmas.{cell_of-push}

-- ---- bytes and tokens

-- no space, no tab, and no end of a line
abbrev pub is_plain : ℕ → Bool
is_plain b = not (eqb b 32 || eqb b 9 || eqb b 10 || eqb b 13)

-- no end of a line
abbrev pub is_inline : ℕ → Bool
is_inline b = not (eqb b 10 || eqb b 13)

-- a token that is printed: at least one byte, and each is plain
abbrev pub is_printed : List ℕ → Bool
is_printed [] = false
is_printed (b ∷ bs) = is_plain b && list_all is_plain bs

refuted : {P : Type 0} → false ≡ true → P
refuted e = absurd (cc)

first_two : (x y z w : Bool) → not (x || y || z || w) ≡ true → (x || y) ≡ false
first_two true y z w none = refuted none
first_two false true z w none = refuted none
first_two false false z w none = refl

last_two : (x y z w : Bool) → not (x || y || z || w) ≡ true → not (z || w) ≡ true
last_two true y z w none = refuted none
last_two false true z w none = refuted none
last_two false false z w none = none

one_of_two : (x y : Bool) → not (x || y) ≡ true → x ≡ false
one_of_two true y none = refuted none
one_of_two false y none = refl

other_of_two : (x y : Bool) → not (x || y) ≡ true → y ≡ false
other_of_two true y none = refuted none
other_of_two false y none = not-true y none

not_blank : (b : ℕ) → is_plain b ≡ true → is_blank b ≡ false
not_blank b plain = first_two (eqb b 32) (eqb b 9) (eqb b 10) (eqb b 13) plain

inline-plain : (b : ℕ) → is_plain b ≡ true → is_inline b ≡ true
inline-plain b plain = last_two (eqb b 32) (eqb b 9) (eqb b 10) (eqb b 13) plain

plain-above : (b : ℕ) → 32 < b → is_plain b ≡ true
plain-above b above = rw (ne_eqb b 32 (λ e. omega arith), ne_eqb b 9 (λ e. omega arith), ne_eqb b 10 (λ e. omega arith), ne_eqb b 13 (λ e. omega arith)) refl

within : (low high b : ℕ) → (leb low b && leb b high) ≡ true → low ≤ b
within low high b inside = leb-true low b (and_parts (leb low b) (leb b high) inside).0

letter-above : (b : ℕ) → is_letter b ≡ true → 32 < b
letter-above b letter =
    elim (or_cases (leb 65 b && leb b 90) (leb 97 b && leb b 122) letter) [
      | inl e ↦ omega (arith, within 65 90 b e)
      | inr e ↦ omega (arith, within 97 122 b e)
    ]

name_byte-above : (b : ℕ) → is_name_byte b ≡ true → 32 < b
name_byte-above b byte =
    elim (or_cases (is_letter b || is_digit b || eqb b 95) (eqb b 45) byte) [
      | inl e ↦ elim (or_cases (is_letter b || is_digit b) (eqb b 95) e) [
        | inl f ↦ elim (or_cases (is_letter b) (is_digit b) f) [
          | inl g ↦ letter-above b g
          | inr g ↦ omega (arith, within 48 57 b g)
        ]
        | inr f ↦ omega (arith, eqb-true b 95 f)
      ]
      | inr e ↦ omega (arith, eqb-true b 45 e)
    ]

name_bytes-plain : (bs : List ℕ) → list_all is_name_byte bs ≡ true → list_all is_plain bs ≡ true
name_bytes-plain [] bytes = refl
name_bytes-plain (b ∷ bs) bytes =
    let parts = and_parts (is_name_byte b) (list_all is_name_byte bs) bytes in
    and_from (is_plain b) (list_all is_plain bs) (plain-above b (name_byte-above b parts.0)) (name_bytes-plain bs parts.1)

-- a name is a token that is printed
pub is_printed-name : (name : List ℕ) → is_name name ≡ true → is_printed name ≡ true
is_printed-name [] named = named
is_printed-name (b ∷ bs) named =
    let parts = and_parts (is_letter b && leb (length bs) 31) (list_all is_name_byte bs) named in
    let first = and_parts (is_letter b) (leb (length bs) 31) parts.0 in
    and_from (is_plain b) (list_all is_plain bs) (plain-above b (letter-above b first.0)) (name_bytes-plain bs parts.1)

-- ---- the tokens of a line

token_grows : (b : ℕ) (bs t : List ℕ) (ts : List (List ℕ)) → is_blank b ≡ false → begins_solid bs ≡ true → tokens_of bs ≡ t ∷ ts → tokens_of (b ∷ bs) ≡ (b ∷ t) ∷ ts
token_grows b bs t ts start solid rest = rw (start, solid, rest) refl

token_ends : (b : ℕ) (bs : List ℕ) → is_blank b ≡ false → begins_solid bs ≡ false → tokens_of (b ∷ bs) ≡ (b ∷ []) ∷ tokens_of bs
token_ends b bs start blank = rw (start, blank) refl

solid-plain : (b : ℕ) (bs : List ℕ) → is_plain b ≡ true → begins_solid (b ∷ bs) ≡ true
solid-plain b bs plain = ap not (not_blank b plain)

-- a token and the blank behind it
pub tokens_of-more : (t bs : List ℕ) → is_printed t ≡ true → tokens_of (t ++ 32 ∷ bs) ≡ t ∷ tokens_of bs
tokens_of-more [] bs printed = refuted printed
tokens_of-more (b ∷ []) bs printed = token_ends b (32 ∷ bs) (not_blank b (and_parts (is_plain b) true printed).0) refl
tokens_of-more (b ∷ c ∷ rest) bs printed =
    let parts = and_parts (is_plain b) (list_all is_plain (c ∷ rest)) printed in
    let next = and_parts (is_plain c) (list_all is_plain rest) parts.1 in
    token_grows b (c ∷ rest ++ 32 ∷ bs) (c ∷ rest) (tokens_of bs) (not_blank b parts.0) (solid-plain c (rest ++ 32 ∷ bs) next.0) (tokens_of-more (c ∷ rest) bs parts.1)

-- a token alone
pub tokens_of-one : (t : List ℕ) → is_printed t ≡ true → tokens_of t ≡ t ∷ []
tokens_of-one [] printed = refuted printed
tokens_of-one (b ∷ []) printed = token_ends b [] (not_blank b (and_parts (is_plain b) true printed).0) refl
tokens_of-one (b ∷ c ∷ rest) printed =
    let parts = and_parts (is_plain b) (list_all is_plain (c ∷ rest)) printed in
    let next = and_parts (is_plain c) (list_all is_plain rest) parts.1 in
    token_grows b (c ∷ rest) (c ∷ rest) [] (not_blank b parts.0) (solid-plain c rest next.0) (tokens_of-one (c ∷ rest) parts.1)

pub tokens_of-line_front : (tokens : List (List ℕ)) → list_all is_printed tokens ≡ true → tokens_of (line_front tokens) ≡ tokens
tokens_of-line_front [] printed = refl
tokens_of-line_front (t ∷ []) printed =
    let first = and_parts (is_printed t) true printed in
    ap tokens_of (append-nil t) ∙ tokens_of-one t first.0
tokens_of-line_front (t ∷ u ∷ ts) printed =
    let parts = and_parts (is_printed t) (list_all is_printed (u ∷ ts)) printed in
    tokens_of-more t (u ++ spaced_texts ts) parts.0 ∙ ap (λ tokens. t ∷ tokens) (tokens_of-line_front (u ∷ ts) parts.1)

-- ---- the lines of a text

inline-bytes : (bs : List ℕ) → list_all is_plain bs ≡ true → list_all is_inline bs ≡ true
inline-bytes [] plain = refl
inline-bytes (b ∷ bs) plain =
    let parts = and_parts (is_plain b) (list_all is_plain bs) plain in
    and_from (is_inline b) (list_all is_inline bs) (inline-plain b parts.0) (inline-bytes bs parts.1)

inline-printed : (t : List ℕ) → is_printed t ≡ true → list_all is_inline t ≡ true
inline-printed [] printed = refl
inline-printed (b ∷ bs) printed = inline-bytes (b ∷ bs) printed

inline-append : (xs ys : List ℕ) → list_all is_inline xs ≡ true → list_all is_inline ys ≡ true → list_all is_inline (xs ++ ys) ≡ true
inline-append xs ys left right = list_all-append is_inline xs ys ∙ and_from (list_all is_inline xs) (list_all is_inline ys) left right

inline-spaced : (tokens : List (List ℕ)) → list_all is_printed tokens ≡ true → list_all is_inline (spaced_texts tokens) ≡ true
inline-spaced [] printed = refl
inline-spaced (t ∷ ts) printed =
    let parts = and_parts (is_printed t) (list_all is_printed ts) printed in
    inline-append t (spaced_texts ts) (inline-printed t parts.0) (inline-spaced ts parts.1)

inline-line_front : (tokens : List (List ℕ)) → list_all is_printed tokens ≡ true → list_all is_inline (line_front tokens) ≡ true
inline-line_front [] printed = refl
inline-line_front (t ∷ ts) printed =
    let parts = and_parts (is_printed t) (list_all is_printed ts) printed in
    inline-append t (spaced_texts ts) (inline-printed t parts.0) (inline-spaced ts parts.1)

line_grows : (b : ℕ) (bs line : List ℕ) (rest : List (List ℕ)) → eqb b 10 ≡ false → lines_of bs ≡ line ∷ rest → lines_of (b ∷ bs) ≡ (b ∷ line) ∷ rest
line_grows b bs line rest other first = rw (other, first) refl

-- the first line ends with the first LF
pub lines_of-line : (line rest : List ℕ) → list_all is_inline line ≡ true → lines_of (line ++ 10 ∷ rest) ≡ (line ++ 10 ∷ []) ∷ lines_of rest
lines_of-line [] rest inline = refl
lines_of-line (b ∷ bs) rest inline =
    let parts = and_parts (is_inline b) (list_all is_inline bs) inline in
    line_grows b (bs ++ 10 ∷ rest) (bs ++ 10 ∷ []) (lines_of rest) (one_of_two (eqb b 10) (eqb b 13) parts.0) (lines_of-line bs rest parts.1)

no_return : (line : List ℕ) → list_all is_inline line ≡ true → without_last 13 line ≡ line
no_return [] inline = refl
no_return (b ∷ []) inline = rw (other_of_two (eqb b 10) (eqb b 13) (and_parts (is_inline b) true inline).0) refl
no_return (b ∷ c ∷ bs) inline = ap (λ line. b ∷ line) (no_return (c ∷ bs) (and_parts (is_inline b) (list_all is_inline (c ∷ bs)) inline).1)

pub line_text-line : (line : List ℕ) → list_all is_inline line ≡ true → line_text (line ++ 10 ∷ []) ≡ line
line_text-line line inline = ap (without_last 13) (without_last-push 10 line) ∙ no_return line inline

-- the tokens of a line that is printed and is no comment
pub record IsPrintedLine (tokens : List (List ℕ)) : Type 0 where
  pub printed : list_all is_printed tokens ≡ true
  pub significant : is_significant tokens ≡ true

-- the lines of the tokens, each with its LF
abbrev pub printed_lines : List (List (List ℕ)) → List ℕ
printed_lines lines = joined printed_line lines

-- the lines of the tokens as they are read, where the first has the number and begins at the place
abbrev pub views_of : ℕ → ℕ → List (List (List ℕ)) → List LineView
views_of number place [] = []
views_of number place (tokens ∷ lines) = let after = place + length (line_front tokens ++ 10 ∷ []) in record { number = number; tokens = tokens; after = after } ∷ views_of (number + 1) after lines

pub tokens_of-printed : (tokens : List (List ℕ)) → list_all is_printed tokens ≡ true → tokens_of (line_text (line_front tokens ++ 10 ∷ [])) ≡ tokens
tokens_of-printed tokens printed = ap tokens_of (line_text-line (line_front tokens) (inline-line_front tokens printed)) ∙ tokens_of-line_front tokens printed

pub lines_of-printed : (tokens : List (List ℕ)) (rest : List ℕ) → list_all is_printed tokens ≡ true → lines_of (line_front tokens ++ 10 ∷ rest) ≡ (line_front tokens ++ 10 ∷ []) ∷ lines_of rest
lines_of-printed tokens rest printed = lines_of-line (line_front tokens) rest (inline-line_front tokens printed)

first_line : (number place : ℕ) (line : List ℕ) (tokens : List (List ℕ)) (lines : List (List ℕ)) → tokens_of (line_text line) ≡ tokens → is_significant tokens ≡ true → significant_among number place (line ∷ lines) ≡ record { number = number; tokens = tokens; after = place + length line } ∷ significant_among (number + 1) (place + length line) lines
first_line number place line tokens lines same significant = rw (same, significant) refl

-- what is behind a line and its LF
behind_line : (line rest more : List ℕ) → ((line ++ 10 ∷ []) ++ rest) ++ more ≡ line ++ 10 ∷ (rest ++ more)
behind_line line rest more = append_assoc (line ++ 10 ∷ []) rest more ∙ append_assoc line (10 ∷ []) (rest ++ more)

-- each line that is printed is read as its tokens
pub significant_among-printed : (number place : ℕ) (lines : List (List (List ℕ))) (more : List ℕ) → AllByRecursion IsPrintedLine lines → significant_among number place (lines_of (printed_lines lines ++ more)) ≡ views_of number place lines ++ significant_among (number + length lines) (place + length (printed_lines lines)) (lines_of more)
significant_among-printed number place [] more printed = rw (add_none number, add_none place) refl
  where
    add_none : (n : ℕ) → n + 0 ≡ n
    add_none n = omega arith
significant_among-printed number place (tokens ∷ lines) more printed =
    let after = place + length (line_front tokens ++ 10 ∷ []) in
    let apart : (printed_line tokens ++ printed_lines lines) ++ more ≡ line_front tokens ++ 10 ∷ (printed_lines lines ++ more) = behind_line (line_front tokens) (printed_lines lines) more in
    let split = ap lines_of apart ∙ lines_of-printed tokens (printed_lines lines ++ more) printed.0.printed in
    let first = first_line number place (line_front tokens ++ 10 ∷ []) tokens (lines_of (printed_lines lines ++ more)) (tokens_of-printed tokens printed.0.printed) printed.0.significant in
    let rest = significant_among-printed (number + 1) after lines more printed.1 in
    let numbers : number + 1 + length lines ≡ number + suc (length lines) = omega arith in
    let places : after + length (printed_lines lines) ≡ place + length (printed_line tokens ++ printed_lines lines) = omega (arith, length-append (printed_line tokens) (printed_lines lines)) in
    let behind : significant_among (number + 1 + length lines) (after + length (printed_lines lines)) (lines_of more) ≡ significant_among (number + suc (length lines)) (place + length (printed_line tokens ++ printed_lines lines)) (lines_of more) = rw (numbers, places) refl in
    ap (significant_among number place) split ∙ (first ∙ ap (λ ls. record { number = number; tokens = tokens; after = after } ∷ ls) (rest ∙ ap (λ ls. views_of (number + 1) after lines ++ ls) behind))

-- there are as many lines as are printed
pub length-lines_of-printed : (lines : List (List (List ℕ))) → AllByRecursion IsPrintedLine lines → length (lines_of (printed_lines lines)) ≡ length lines
length-lines_of-printed [] printed = refl
length-lines_of-printed (tokens ∷ lines) printed = ap (λ text. length (lines_of text)) (append_assoc (line_front tokens) (10 ∷ []) (printed_lines lines)) ∙ ap length (lines_of-printed tokens (printed_lines lines) printed.0.printed) ∙ ap suc (length-lines_of-printed lines printed.1)

-- ---- numbers

digit-above : (b : ℕ) → is_digit b ≡ true → 32 < b
digit-above b digit = omega (arith, within 48 57 b digit)

digits-plain : (ds : List ℕ) → list_all is_digit ds ≡ true → list_all is_plain ds ≡ true
digits-plain [] digits = refl
digits-plain (b ∷ ds) digits =
    let parts = and_parts (is_digit b) (list_all is_digit ds) digits in
    and_from (is_plain b) (list_all is_plain ds) (plain-above b (digit-above b parts.0)) (digits-plain ds parts.1)

some_plain : (ds : List ℕ) → 0 < length ds → list_all is_plain ds ≡ true → is_printed ds ≡ true
some_plain [] some plain = absurd (omega arith)
some_plain (b ∷ ds) some plain = plain

-- the digits write the number
record WriteDigits (n : ℕ) (ds : List ℕ) : Type 0 where
  digits : list_all is_digit ds ≡ true
  value : cell_of 10 (map (λ b. b - 48) ds) ≡ n

is_digit-digit : (n : ℕ) → n < 10 → is_digit (48 + n) ≡ true
is_digit-digit n small = and_from (leb 48 (48 + n)) (leb (48 + n) 57) (le-leb 48 (48 + n) (omega arith)) (le-leb (48 + n) 57 (omega arith))

one_digit : (n : ℕ) → n < 10 → WriteDigits n ((48 + n) ∷ [])
one_digit n small = record { digits = and_from (is_digit (48 + n)) true (is_digit-digit n small) refl; value = omega arith }

digit_more : (n : ℕ) (ds : List ℕ) → 10 ≤ n → WriteDigits (n / 10) ds → WriteDigits n (ds ++ (48 + n % 10) ∷ [])
digit_more n ds large front =
    let digit = 48 + n % 10 in
    let small : n % 10 < 10 = mod-lt n {m = 10} (omega arith) in
    let apart = ap (cell_of 10) (map_push (λ b. b - 48) ds digit) ∙ cell_of-push 10 (map (λ b. b - 48) ds) (digit - 48) in
    let value = front.value in
    let whole = div-add-mod' n 10 in
    record {
      digits = list_all-append is_digit ds (digit ∷ []) ∙ and_from (list_all is_digit ds) (is_digit digit && true) front.digits (and_from (is_digit digit) true (is_digit-digit (n % 10) small) refl);
      value = apart ∙ rw value (omega (arith, whole));
    }

decimal-writes : (n : ℕ) → n < 10 ^ 9 → WriteDigits n (decimal n)
decimal-writes n small = decimal_by_steps WriteDigits one_digit digit_more n (omega arith)

-- a number is printed as a token
pub is_printed-decimal : (n : ℕ) → n < 10 ^ 9 → is_printed (decimal n) ≡ true
is_printed-decimal n small = some_plain (decimal n) (decimal_nonempty n (omega arith)) (digits-plain (decimal n) (decimal-writes n small).digits)

-- and the token is read as the number
pub number_of-decimal : (n : ℕ) → n < 10 ^ 9 → number_of (decimal n) ≡ Some n
number_of-decimal n small =
    let written = decimal-writes n small in
    let some = le-leb 1 (length (decimal n)) (decimal_nonempty n (omega arith)) in
    let few = le-leb (length (decimal n)) 9 (length-decimal-le 9 n (omega arith) small (omega arith)) in
    let digits = written.digits in
    let value = written.value in
    rw (some, few, digits, value) refl

pub spaced-texts : (row : List ℕ) → spaced row ≡ spaced_texts (map decimal row)
spaced-texts [] = refl
spaced-texts (v ∷ row) = ap (λ bytes. codes " " ++ decimal v ++ bytes) (spaced-texts row)

pub numbers-printed : (row : List ℕ) → All (λ v. v < 10 ^ 9) row → list_all is_printed (map decimal row) ≡ true
numbers-printed [] small = refl
numbers-printed (v ∷ row) small =
    and_from (is_printed (decimal v)) (list_all is_printed (map decimal row)) (is_printed-decimal v (All-head (λ w. w < 10 ^ 9) v row small)) (numbers-printed row (All-tail (λ w. w < 10 ^ 9) v row small))

pub names-printed : (names : List (List ℕ)) → All (λ name. is_name name ≡ true) names → list_all is_printed names ≡ true
names-printed [] named = refl
names-printed (name ∷ names) named =
    and_from (is_printed name) (list_all is_printed names) (is_printed-name name (All-head (λ x. is_name x ≡ true) name names named)) (names-printed names (All-tail (λ x. is_name x ≡ true) name names named))
