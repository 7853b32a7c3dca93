-- Texts behind whole lines: what stands before them is read as it is without them.
use Rattle.std.proofs.Common.{◌≡◌, ℕ, zero, suc, ◌+◌, ◌≤◌, ◌==◌, Bool, true, false, cond, List, [], ◌∷◌, ◌++◌, length, drop, None, Ok, refl, ap, ◌∙◌, append_assoc}
use Rattle.std.proofs.lemmas.List.{drop-append-le}
use Rattle.pol_text.specs.Lines.{LineView, grown, lines_of, line_text, tokens_of, is_significant, significant_among, significant_lines}
use Rattle.pol_report.specs.declared.item.Item.{Item}
use Rattle.pol_report.specs.Reports.{report_text, ArePrintableItems}
use Rattle.pol_report.specs.Grammar.{report_from, items_of}
use Rattle.pol_report.proofs.ItemsReadAgain.{report_from-printed}
use Rattle.pol_lang.specs.Files.{Parsed}
use Rattle.pol_lang.specs.Grammar.{parse, first_number, extra}
use Rattle.pol_lang.proofs.SpellingLemmas.{parse-spelled}
use Rattle.pol_lang.proofs.SpelledTexts.{spelled-parses}

-- ---- whole lines

-- the text is empty or ends with an LF
abbrev pub is_whole : List ℕ → Bool
is_whole [] = true
is_whole (b ∷ []) = b == 10
is_whole (b ∷ c ∷ bs) = is_whole (c ∷ bs)

pub is_whole-ended : (front : List ℕ) → is_whole (front ++ 10 ∷ []) ≡ true
is_whole-ended [] = refl
is_whole-ended (b ∷ []) = refl
is_whole-ended (b ∷ c ∷ bs) = is_whole-ended (c ∷ bs)

-- so is what stands behind a place of it
pub is_whole-drop : (n : ℕ) (bytes : List ℕ) → is_whole bytes ≡ true → is_whole (drop n bytes) ≡ true
is_whole-drop zero bytes whole = whole
is_whole-drop (suc n) [] whole = refl
is_whole-drop (suc n) (b ∷ []) whole = is_whole-drop n [] refl
is_whole-drop (suc n) (b ∷ c ∷ bs) whole = is_whole-drop n (c ∷ bs) whole

-- ---- lines

-- there is a first one
record HasFirst (lines : List (List ℕ)) : Type 0 where
  first : List ℕ
  rest : List (List ℕ)
  same : lines ≡ first ∷ rest

grown-first : (b : ℕ) (lines : List (List ℕ)) → HasFirst (grown b lines)
grown-first b [] = record { first = b ∷ []; rest = []; same = refl }
grown-first b (line ∷ lines) = record { first = b ∷ line; rest = lines; same = refl }

lines_of-first : (b : ℕ) (bs : List ℕ) → HasFirst (lines_of (b ∷ bs))
lines_of-first b bs = by_byte (b == 10)
  where
    by_byte : (t : Bool) → HasFirst (cond t ((b ∷ []) ∷ lines_of bs) (grown b (lines_of bs)))
    by_byte true = record { first = b ∷ []; rest = lines_of bs; same = refl }
    by_byte false = grown-first b (lines_of bs)

grown-behind : (b : ℕ) (lines more : List (List ℕ)) → HasFirst lines → grown b (lines ++ more) ≡ grown b lines ++ more
grown-behind b [] more some = absurd (cc some.same)
grown-behind b (line ∷ lines) more some = refl

-- the last line of whole lines does not go on
last_byte : (b : ℕ) (text : List ℕ) (t : Bool) → t ≡ true → cond t ((b ∷ []) ∷ lines_of text) (grown b (lines_of text)) ≡ cond t ((b ∷ []) ∷ []) (grown b []) ++ lines_of text
last_byte b text true ends = refl
last_byte b text false ends = absurd (cc ends)

one_byte : (b : ℕ) (all front more : List (List ℕ)) (t : Bool) → HasFirst front → all ≡ front ++ more → cond t ((b ∷ []) ∷ all) (grown b all) ≡ cond t ((b ∷ []) ∷ front) (grown b front) ++ more
one_byte b all front more true some behind = ap (λ lines. (b ∷ []) ∷ lines) behind
one_byte b all front more false some behind = ap (grown b) behind ∙ grown-behind b front more some

-- the lines of a text behind whole lines come behind these
pub lines_of-behind : (front text : List ℕ) → is_whole front ≡ true → lines_of (front ++ text) ≡ lines_of front ++ lines_of text
lines_of-behind [] text whole = refl
lines_of-behind (b ∷ []) text whole = last_byte b text (b == 10) whole
lines_of-behind (b ∷ c ∷ bs) text whole =
    one_byte b (lines_of (c ∷ bs ++ text)) (lines_of (c ∷ bs)) (lines_of text) (b == 10) (lines_of-first c bs) (lines_of-behind (c ∷ bs) text whole)

-- ---- significant lines

-- the significant ones of lines that stand behind others, as they are read there
pub record Behind (number place : ℕ) (lines more : List (List ℕ)) : Type 0 where
  pub number_behind : ℕ
  pub place_behind : ℕ
  pub same : significant_among number place (lines ++ more) ≡ significant_among number place lines ++ significant_among number_behind place_behind more

one_line : (l : LineView) (all front behind : List LineView) (t : Bool) → all ≡ front ++ behind → cond t (l ∷ all) all ≡ cond t (l ∷ front) front ++ behind
one_line l all front behind true same = ap (λ ls. l ∷ ls) same
one_line l all front behind false same = same

pub significant-behind : (number place : ℕ) (lines more : List (List ℕ)) → Behind number place lines more
significant-behind number place [] more = record { number_behind = number; place_behind = place; same = refl }
significant-behind number place (line ∷ lines) more =
    let after = place + length line in
    let rest = significant-behind (number + 1) after lines more in
    record {
      number_behind = rest.number_behind;
      place_behind = rest.place_behind;
      same = one_line (record { number = number; tokens = tokens_of (line_text line); after = after })
          (significant_among (number + 1) after (lines ++ more)) (significant_among (number + 1) after lines)
          (significant_among rest.number_behind rest.place_behind more) (is_significant (tokens_of (line_text line))) rest.same;
    }

-- ---- files and reports

-- a file that ends with an LF is read as it is, whatever stands behind it
pub parse-behind : (bytes text : List ℕ) (found : Parsed) → is_whole bytes ≡ true → parse bytes ≡ Ok found → parse (bytes ++ text) ≡ Ok found
parse-behind bytes text found whole read =
    let spelled = parse-spelled bytes found read in
    let behind = significant-behind 1 0 (lines_of bytes) (lines_of text) in
    let later = significant_among behind.number_behind behind.place_behind (lines_of text) in
    let lines = ap (significant_among 1 0) (lines_of-behind bytes text whole) ∙ behind.same in
    spelled-parses (bytes ++ text) found (record {
      version = spelled.version;
      domain = spelled.domain;
      blocks = spelled.blocks;
      front = spelled.front;
      last = spelled.last;
      rest = spelled.rest ++ later;
      version_is = spelled.version_is;
      domain_is = spelled.domain_is;
      relations_are = spelled.relations_are;
      is_file = spelled.is_file;
      lines_are = lines ∙ (ap (λ ls. ls ++ later) spelled.lines_are ∙ append_assoc spelled.front (spelled.last ∷ spelled.rest) later);
      front_is = spelled.front_is;
      last_is = spelled.last_is;
      place_is = spelled.place_is;
      line_is = spelled.line_is;
    })

none_first : (ls : List LineView) → first_number ls ≡ None → ls ≡ []
none_first [] none = refl
none_first (l ∷ ls) none = absurd (cc none)

-- no line behind the file is significant
pub extra-none : (bytes : List ℕ) (place line : ℕ) → extra bytes place line ≡ None → significant_lines line (drop place bytes) ≡ []
unfolding extra
extra-none bytes place line none = none_first (significant_lines line (drop place bytes)) none

-- a report is read as its items behind whole lines of which none is significant
items_of-behind : (front : List ℕ) (line : ℕ) (items : List Item) → is_whole front ≡ true → significant_lines line front ≡ [] → ArePrintableItems items → items_of (front ++ report_text items) line ≡ Ok items
unfolding items_of
items_of-behind front line items whole none are =
    let text = report_text items in
    let behind = significant-behind line 0 (lines_of front) (lines_of text) in
    let later = significant_among behind.number_behind behind.place_behind (lines_of text) in
    let last = line + length (lines_of (front ++ text)) in
    let lines : significant_lines line (front ++ text) ≡ later =
    ap (significant_among line 0) (lines_of-behind front text whole) ∙ (behind.same ∙ ap (λ ls. ls ++ later) none) in
    ap (report_from last) lines ∙ report_from-printed last behind.number_behind behind.place_behind items are

-- so is one behind a file that is alone
pub items_of-behind_file : (bytes : List ℕ) (place line : ℕ) (items : List Item) → is_whole bytes ≡ true → place ≤ length bytes → extra bytes place line ≡ None → ArePrintableItems items → items_of (drop place (bytes ++ report_text items)) line ≡ Ok items
items_of-behind_file bytes place line items whole within none are =
    ap (λ some. items_of some line) (drop-append-le place bytes (report_text items) within)
    ∙ items_of-behind (drop place bytes) line items (is_whole-drop place bytes whole) (extra-none bytes place line none) are
