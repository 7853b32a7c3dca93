-- The lines and tokens of a text, taken one by one from its front.
use Rattle.std.proofs.Common.{◌≡◌, ℕ, zero, suc, ◌<◌, true, false, eqb, List, [], ◌∷◌, length, get_or, take, drop, arith, refl, ◌≤◌, inl, inr, cond, ◌+◌, ◌≢◌, ◌++◌, ap, Bool, not, one-add, length-drop, ltb, Option, Some, None, unwrap_or, leb, ◌-◌, ◌*◌, map}
use Rattle.std.proofs.lemmas.Bool.{cases_Bool, eq-eqb, ne_eqb, eqb-true, not-true, ltb-false, le-leb, leb-true, and_parts}
use Rattle.std.proofs.lemmas.List.Recursion.{is_count_by}
use Rattle.std.proofs.lemmas.List.{nil_from_length, map_more}
use Rattle.std.specs.Prelude.{count_by}
use Rattle.std.specs.List.{position_or_len, list_all}
use Rattle.pol_text.specs.Lines.{lines_of, grown, without_last, is_blank, tokens_of, begins_solid, is_digit, is_letter, is_name_byte, is_name, is_significant}
use Rattle.pol_base.specs.Tuples.{cell_of}
use Rattle.pol_base.proofs.CellLemmas.{cell_of-push}

-- ---- lines

-- the first line ends with the first LF
pub lines_of-first : (bs : List ℕ) (n : ℕ) → n < length bs → ((k : ℕ) → k < n → eqb (get_or bs k 0) 10 ≡ false) → eqb (get_or bs n 0) 10 ≡ true → lines_of bs ≡ take (suc n) bs ∷ lines_of (drop (suc n) bs)
lines_of-first [] n small before here = absurd (omega arith)
lines_of-first (b ∷ bs) zero small before here = rw here
lines_of-first (b ∷ bs) (suc n) small before here =
    let start : eqb b 10 ≡ false = before 0 (omega arith) in
    let rest = lines_of-first bs n (omega arith) (λ k l. before (suc k) (omega arith)) here in
    rw (start, rest)

-- without an LF there is one line
pub lines_of-whole : (bs : List ℕ) → 0 < length bs → ((k : ℕ) → k < length bs → eqb (get_or bs k 0) 10 ≡ false) → lines_of bs ≡ bs ∷ []
lines_of-whole [] some none = absurd (omega arith)
lines_of-whole (b ∷ []) some none =
    let start : eqb b 10 ≡ false = none 0 (omega arith) in
    rw start
lines_of-whole (b ∷ c ∷ bs) some none =
    let start : eqb b 10 ≡ false = none 0 (omega arith) in
    let rest = lines_of-whole (c ∷ bs) (omega arith) (λ k l. none (suc k) (omega arith)) in
    rw (start, rest)

length-grown : (b : ℕ) (ps : List (List ℕ)) → 0 < length ps → length (grown b ps) ≡ length ps
length-grown b [] some = absurd (omega arith)
length-grown b (p ∷ ps) some = refl

pieces_le : (b : ℕ) (ps : List (List ℕ)) (n : ℕ) → length ps ≤ n → length (grown b ps) ≤ suc n
pieces_le b [] n few = omega arith
pieces_le b (p ∷ ps) n few = omega arith

some_piece : (b : ℕ) (ps : List (List ℕ)) → 0 < length (grown b ps)
some_piece b [] = omega arith
some_piece b (p ∷ ps) = omega arith

some_line : (b : ℕ) (bs : List ℕ) → 0 < length (lines_of (b ∷ bs))
some_line b bs = elim (cases_Bool (eqb b 10)) [ inl e ↦ rw e (omega arith) | inr e ↦ rw e (some_piece b (lines_of bs)) ]

-- how many bytes are an LF
abbrev line_ends : List ℕ → ℕ
line_ends [] = 0
line_ends (b ∷ bs) = cond (eqb b 10) (1 + line_ends bs) (line_ends bs)

line_ends-count_by : (bs : List ℕ) → line_ends bs ≡ count_by (λ b. eqb b 10) bs
line_ends-count_by bs = is_count_by line_ends (λ b. eqb b 10) refl (λ _ _. refl) bs

one_line_more : (b : ℕ) (bs : List ℕ) (n : ℕ) → 0 < length (lines_of bs) → length (lines_of bs) ≡ line_ends bs + n → length (lines_of (b ∷ bs)) ≡ line_ends (b ∷ bs) + n
one_line_more b bs n some same = elim (cases_Bool (eqb b 10)) [ inl e ↦ rw e (omega arith) | inr e ↦ rw (e, length-grown b (lines_of bs) some) same ]

-- the byte at n is the last one
ended_by : (bs : List ℕ) (n : ℕ) → length bs ≡ suc n → eqb (get_or bs n 0) 10 ≡ true → length (lines_of bs) ≡ line_ends bs + 0
ended_by [] n long last = absurd (omega arith)
ended_by (b ∷ []) zero long last = rw last
ended_by (b ∷ []) (suc n) long last = absurd (omega arith)
ended_by (b ∷ c ∷ bs) zero long last = absurd (omega arith)
ended_by (b ∷ c ∷ bs) (suc n) long last = one_line_more b (c ∷ bs) 0 (some_line c bs) (ended_by (c ∷ bs) n (omega arith) last)

open_after : (bs : List ℕ) (n : ℕ) → length bs ≡ suc n → eqb (get_or bs n 0) 10 ≡ false → length (lines_of bs) ≡ line_ends bs + 1
open_after [] n long last = absurd (omega arith)
open_after (b ∷ []) zero long last = rw last
open_after (b ∷ []) (suc n) long last = absurd (omega arith)
open_after (b ∷ c ∷ bs) zero long last = absurd (omega arith)
open_after (b ∷ c ∷ bs) (suc n) long last = one_line_more b (c ∷ bs) 1 (some_line c bs) (open_after (c ∷ bs) n (omega arith) last)

-- each line of a text that ends with LF has one
pub length-lines_of-ended : (bs : List ℕ) (n : ℕ) → length bs ≡ suc n → get_or bs n 0 ≡ 10 → length (lines_of bs) ≡ count_by (λ b. eqb b 10) bs
length-lines_of-ended bs n long last =
    let counted = ended_by bs n long (eq-eqb _ _ last) in
    let same = line_ends-count_by bs in
    omega arith

-- the last line of any other text has none
pub length-lines_of-open : (bs : List ℕ) (n : ℕ) → length bs ≡ suc n → get_or bs n 0 ≢ 10 → length (lines_of bs) ≡ count_by (λ b. eqb b 10) bs + 1
length-lines_of-open bs n long last =
    let counted = open_after bs n long (ne_eqb _ _ last) in
    let same = line_ends-count_by bs in
    omega arith

-- no line is empty
pub length-lines_of-le : (bs : List ℕ) → length (lines_of bs) ≤ length bs
length-lines_of-le [] = omega arith
length-lines_of-le (b ∷ bs) =
    let rest = length-lines_of-le bs in
    elim (cases_Bool (eqb b 10)) [ inl e ↦ rw e (omega arith) | inr e ↦ rw e (pieces_le b (lines_of bs) (length bs) rest) ]

-- ---- the end of a line

-- the byte at the end goes
pub without_last-push : (b : ℕ) (front : List ℕ) → without_last b (front ++ b ∷ []) ≡ front
without_last-push b [] = rw (eq-eqb b b refl)
without_last-push b (c ∷ []) = rw (eq-eqb b b refl)
without_last-push b (c ∷ d ∷ front) =
    let rest = without_last-push b (d ∷ front) in
    ap (λ (xs : List ℕ). c ∷ xs) rest

-- any other list stays
pub without_last-other : (b : ℕ) (bs : List ℕ) → ((front : List ℕ) → bs ≢ front ++ b ∷ []) → without_last b bs ≡ bs
without_last-other b [] other = refl
without_last-other b (c ∷ []) other = elim (cases_Bool (eqb c b)) [ inl e ↦ absurd (other [] (ap (λ (x : ℕ). x ∷ []) (eqb-true c b e))) | inr e ↦ rw e ]
without_last-other b (c ∷ d ∷ bs) other =
    let rest = without_last-other b (d ∷ bs) (λ front e. other (c ∷ front) (ap (λ (xs : List ℕ). c ∷ xs) e)) in
    ap (λ (xs : List ℕ). c ∷ xs) rest

-- ---- tokens

-- no space and no tab
abbrev pub is_solid : ℕ → Bool
is_solid b = not (is_blank b)

is_significant-grown : (b : ℕ) (ts : List (List ℕ)) → is_significant (grown b ts) ≡ not (eqb b 35)
is_significant-grown b [] = refl
is_significant-grown b (t ∷ ts) = refl

-- blanks at the front are passed over
pub tokens_of-blanks : (bs : List ℕ) → tokens_of bs ≡ tokens_of (drop (position_or_len is_solid bs) bs)
tokens_of-blanks [] = refl
tokens_of-blanks (b ∷ bs) =
    let rest = tokens_of-blanks bs in
    elim (cases_Bool (is_blank b)) [ inl e ↦ rw (e, one-add) rest | inr e ↦ rw (e, e) refl ]

-- behind the blanks at the front stands a token or nothing
pub begins_solid-blanks : (bs : List ℕ) → position_or_len is_solid bs < length bs → begins_solid (drop (position_or_len is_solid bs) bs) ≡ true
begins_solid-blanks [] some = absurd (omega arith)
begins_solid-blanks (b ∷ bs) some =
    elim (cases_Bool (is_blank b)) [
      | inl e ↦
          let further = rw e at some in
          let inside : position_or_len is_solid bs < length bs = omega (arith, further) in
          let rest = begins_solid-blanks bs inside in
          rw (e, one-add) rest
      | inr e ↦ rw (e, e) refl
    ]

no_token : (bs : List ℕ) → begins_solid bs ≡ false → position_or_len is_blank bs ≡ 0
no_token [] blank = refl
no_token (b ∷ bs) blank = rw blank refl

-- the token at the front, and the ones behind it
pub tokens_of-first : (bs : List ℕ) → begins_solid bs ≡ true → tokens_of bs ≡ take (position_or_len is_blank bs) bs ∷ tokens_of (drop (position_or_len is_blank bs) bs)
tokens_of-first [] solid = absurd (cc)
tokens_of-first (b ∷ bs) solid =
    let start : is_blank b ≡ false = not-true (is_blank b) solid in
    elim (cases_Bool (begins_solid bs)) [
      | inl e ↦ let rest = tokens_of-first bs e in rw (start, e, one-add, rest)
      | inr e ↦ let none = no_token bs e in rw (start, e, none)
    ]

-- there is no token where all are blank
pub tokens_of-none : (bs behind : List ℕ) → behind ≡ drop (position_or_len is_solid bs) bs → length behind ≡ 0 → tokens_of bs ≡ []
tokens_of-none bs behind is none =
    let passed = tokens_of-blanks bs in
    let empty = nil_from_length behind none in
    rw (passed, ← is, empty)

-- the first token stands behind the blanks
pub tokens_of-next : (bs behind token rest : List ℕ) → behind ≡ drop (position_or_len is_solid bs) bs → 0 < length behind → token ≡ take (position_or_len is_blank behind) behind → rest ≡ drop (position_or_len is_blank behind) behind → tokens_of bs ≡ token ∷ tokens_of rest
tokens_of-next bs behind token rest is some token_is rest_is =
    let inside : position_or_len is_solid bs < length bs = omega (arith, ap length is, length-drop (position_or_len is_solid bs) bs) in
    let solid : begins_solid behind ≡ true = rw is (begins_solid-blanks bs inside) in
    let first = tokens_of-first behind solid in
    let passed = tokens_of-blanks bs in
    rw (passed, ← is, token_is, rest_is) first

-- the first byte of the first token says whether it begins a comment
is_significant-first : (b : ℕ) (bs : List ℕ) → is_blank b ≡ false → is_significant (tokens_of (b ∷ bs)) ≡ not (eqb b 35)
is_significant-first b bs solid =
    elim (cases_Bool (begins_solid bs)) [
      | inl e ↦ rw (solid, e) (is_significant-grown b (tokens_of bs))
      | inr e ↦ rw (solid, e) refl
    ]

is_significant-front : (bs : List ℕ) → begins_solid bs ≡ true → is_significant (tokens_of bs) ≡ not (eqb (get_or bs 0 0) 35)
is_significant-front [] solid = absurd (cc)
is_significant-front (b ∷ bs) solid = is_significant-first b bs (not-true (is_blank b) solid)

-- the first byte behind the blanks says whether the line is significant
pub is_significant-behind : (bs behind : List ℕ) → behind ≡ drop (position_or_len is_solid bs) bs → 0 < length behind → is_significant (tokens_of bs) ≡ not (eqb (get_or behind 0 0) 35)
is_significant-behind bs behind is some =
    let inside : position_or_len is_solid bs < length bs = omega (arith, ap length is, length-drop (position_or_len is_solid bs) bs) in
    let solid : begins_solid behind ≡ true = rw is (begins_solid-blanks bs inside) in
    let passed = tokens_of-blanks bs in
    rw (passed, ← is) (is_significant-front behind solid)

-- no token is empty
pub length-tokens_of-le : (bs : List ℕ) → length (tokens_of bs) ≤ length bs
length-tokens_of-le [] = omega arith
length-tokens_of-le (b ∷ bs) =
    let rest = length-tokens_of-le bs in
    elim (cases_Bool (is_blank b)) [
      | inl e ↦ rw e (omega arith)
      | inr e ↦ elim (cases_Bool (begins_solid bs)) [ inl f ↦ rw (e, f) (pieces_le b (tokens_of bs) (length bs) rest) | inr f ↦ rw (e, f) (omega arith) ]
    ]

pub position_or_len-le : (test : ℕ → Bool) (bs : List ℕ) → position_or_len test bs ≤ length bs
position_or_len-le test [] = omega arith
position_or_len-le test (b ∷ bs) =
    let rest = position_or_len-le test bs in
    elim (cases_Bool (test b)) [ inl e ↦ rw e (omega arith) | inr e ↦ rw e (omega arith) ]

-- the first of all, or all where none passes
pub position_or_len-found : (test : ℕ → Bool) (bs : List ℕ) (r : Option ℕ) → r ≡ cond (ltb (position_or_len test bs) (length bs)) (Some (position_or_len test bs)) None → unwrap_or r (length bs) ≡ position_or_len test bs
position_or_len-found test bs r found =
    let within = position_or_len-le test bs in
    elim (cases_Bool (ltb (position_or_len test bs) (length bs))) [
      | inl e ↦ let is : r ≡ Some (position_or_len test bs) = rw e at found in rw is refl
      | inr e ↦ let is : r ≡ None = rw e at found in rw is (omega (arith, ltb-false _ _ e))
    ]

-- ---- numbers and names

-- a digit, taken from 48, is below ten
pub record IsDigit (b : ℕ) : Type 0 where
  pub low : 48 ≤ b
  pub high : b ≤ 57

pub IsDigit-from_test : (b : ℕ) → is_digit b ≡ true → IsDigit b
IsDigit-from_test b digit =
    let parts = and_parts (leb 48 b) (leb b 57) digit in
    record { low = leb-true 48 b parts.0; high = leb-true b 57 parts.1 }

-- where the first byte is a letter and the length is right, the other bytes decide
pub is_name-bytes : (bs rest : List ℕ) → 0 < length bs → rest ≡ drop 1 bs → is_letter (get_or bs 0 0) ≡ true → length rest ≤ 31 → is_name bs ≡ list_all is_name_byte rest
is_name-bytes [] rest some is letter few = absurd (omega arith)
is_name-bytes (b ∷ bs) rest some is letter few =
    let short : length bs ≤ 31 = rw is at few in
    rw (is, letter, le-leb (length bs) 31 short)

-- one digit more of the number that the bytes write
pub cell_of-digit_more : (bs : List ℕ) (i : ℕ) → i < length bs → cell_of 10 (map (λ b. b - 48) (take (i + 1) bs)) ≡ cell_of 10 (map (λ b. b - 48) (take i bs)) * 10 + (get_or bs i 0 - 48)
cell_of-digit_more bs i small = rw (map_more (λ b. b - 48) bs i 0 small) (cell_of-push 10 (map (λ b. b - 48) (take i bs)) (get_or bs i 0 - 48))
