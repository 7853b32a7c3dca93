-- One item behind those that are read already.
use Rattle.std.proofs.Common.{◌≡◌, ℕ, zero, suc, ◌+◌, ◌-◌, ◌<◌, ◌≤◌, true, false, ltb, List, [], ◌∷◌, ◌++◌, length, Result, Ok, Err, refl, ap, sym, inl, inr, arith, codes, append_assoc}
use Rattle.std.proofs.lemmas.Bool.{cases_Bool, ltb-true, ltb-false}
use Rattle.pol_text.specs.Lines.{LineView, lines_of, significant_lines}
use Rattle.pol_text.specs.Reading.{Reads, after_line, begins_with, end_line}
use Rattle.pol_text.specs.declared.refusal.ReadFail.{ReadFail}
use Rattle.pol_text.specs.declared.refusal.ReadFail.TheVariants as read_fail
use Rattle.pol_text.specs.declared.refusal.Refusal.{Refusal}
use Rattle.pol_text.specs.declared.word.Word.{Word}
use Rattle.pol_text.specs.declared.word.Word.TheVariants.{TooManyItems}
use Rattle.pol_report.specs.declared.item.Item.{Item}
use Rattle.pol_report.specs.declared.item.Item.TheVariants as form
use Rattle.pol_report.specs.declared.opening.Opening.{Opening}
use Rattle.pol_report.specs.declared.opening.Opening.TheVariants.{Whole, Steps, Parts, SizesOfYes, SizesOfNo}
use Rattle.pol_report.specs.declared.opening.Subject.{Subject}
use Rattle.pol_report.specs.Limits.{most_items, most_steps}
use Rattle.pol_report.specs.Reports.{steps_of}
use Rattle.pol_report.specs.Tokens.{after}
use Rattle.pol_report.specs.Certificates.{step_from, part_from, sizes_from}
use Rattle.pol_report.specs.Openings.{as_subject, opening_from}
use Rattle.pol_report.specs.Grammar.{line_from, lines_from, item_from, nothing_behind, items_from, report_header, items_of}
use Rattle.pol_report.specs.Reading.{all_behind, TookLines, Ends}

-- where no item more may be read, no line opens one
never_open : (ts : List (List ℕ)) (opening : Opening) (r : Result Subject Word) → after {A = Subject × List (List ℕ)} {B = Opening} {E = Word} (after {A = Subject} {B = Subject × List (List ℕ)} {E = Word} r (λ x. Ok (x, ts))) (λ subject. Err TooManyItems) ≡ Ok opening → ⊥
never_open ts opening (Err w) e = cc
never_open ts opening (Ok x) e = cc

opens_none : (left : ℕ) (tokens : List (List ℕ)) (opening : Opening) → opening_from false left tokens ≡ Ok opening → ⊥
unfolding opening_from
opens_none left [] opening e = cc
opens_none left (t ∷ ts) opening e = never_open ts opening (as_subject t) e

room_left : (n : ℕ) → n < 64 → 64 - n ≡ suc (64 - (n + 1))
room_left n small = omega arith

no_room : (n : ℕ) → 64 ≤ n → 64 - n ≡ 0
no_room n full = omega arith

item_behind : (items : List Item) (item : Item) (read : Result (List Item) Refusal) → all_behind items (after read (λ more. Ok (item ∷ more))) ≡ all_behind (items ++ item ∷ []) read
item_behind items item (Err e) = refl
item_behind items item (Ok more) = ap (λ xs. Ok xs) (sym (append_assoc items (item ∷ []) more))

pub items-next : (last left : ℕ) (items : List Item) (l : LineView) (ls rest : List LineView) (opening : Opening) (item : Item) → begins_with (codes "end") l.tokens ≡ false → opening_from (ltb (length items) 64) left l.tokens ≡ Ok opening → item_from last opening ls ≡ Ok (item, rest) → all_behind items (items_from last (64 - length items) left (l ∷ ls)) ≡ all_behind (items ++ item ∷ []) (items_from last (64 - (length items + 1)) (left - steps_of item) rest)
items-next last left items l ls rest opening item other opens completes =
    elim (cases_Bool (ltb (length items) 64)) [
      | inl e ↦
          let open_here : opening_from true left l.tokens ≡ Ok opening = rw e at opens in
          rw (room_left (length items) (ltb-true (length items) 64 e), other, open_here, completes) (item_behind items item (items_from last (64 - (length items + 1)) (left - steps_of item) rest))
      | inr e ↦ let never : opening_from false left l.tokens ≡ Ok opening = rw e at opens in absurd (opens_none left l.tokens opening never)
    ]

-- no item begins with more than 64 before it
pub items-room : (left : ℕ) (items : List Item) (tokens : List (List ℕ)) (opening : Opening) → opening_from (ltb (length items) 64) left tokens ≡ Ok opening → length items < 64
items-room left items tokens opening opens =
    elim (cases_Bool (ltb (length items) 64)) [
      | inl e ↦ ltb-true (length items) 64 e
      | inr e ↦ let never : opening_from false left tokens ≡ Ok opening = rw e at opens in absurd (opens_none left tokens opening never)
    ]

pub items-refused : (last left : ℕ) (items : List Item) (l : LineView) (ls : List LineView) (word : Word) → begins_with (codes "end") l.tokens ≡ false → opening_from (ltb (length items) 64) left l.tokens ≡ Err word → all_behind items (items_from last (64 - length items) left (l ∷ ls)) ≡ Err (record { line = l.number; word = word })
items-refused last left items l ls word other opens =
    elim (cases_Bool (ltb (length items) 64)) [
      | inl e ↦
          let open_here : opening_from true left l.tokens ≡ Err word = rw e at opens in
          rw (room_left (length items) (ltb-true (length items) 64 e), other, open_here) refl
      | inr e ↦
          let open_here : opening_from false left l.tokens ≡ Err word = rw e at opens in
          rw (no_room (length items) (ltb-false (length items) 64 e), other, open_here) refl
    ]

pub items-broken : (last left : ℕ) (items : List Item) (l : LineView) (ls : List LineView) (opening : Opening) (refusal : Refusal) → begins_with (codes "end") l.tokens ≡ false → opening_from (ltb (length items) 64) left l.tokens ≡ Ok opening → item_from last opening ls ≡ Err refusal → all_behind items (items_from last (64 - length items) left (l ∷ ls)) ≡ Err refusal
items-broken last left items l ls opening refusal other opens breaks =
    elim (cases_Bool (ltb (length items) 64)) [
      | inl e ↦
          let open_here : opening_from true left l.tokens ≡ Ok opening = rw e at opens in
          rw (room_left (length items) (ltb-true (length items) 64 e), other, open_here, breaks) refl
      | inr e ↦ let never : opening_from false left l.tokens ≡ Ok opening = rw e at opens in absurd (opens_none left l.tokens opening never)
    ]

pub items-end : (last room left : ℕ) (items : List Item) (l : LineView) (ls : List LineView) → begins_with (codes "end") l.tokens ≡ true → all_behind items (items_from last room left (l ∷ ls)) ≡ all_behind items (after_line l (end_line l.tokens) (λ _. nothing_behind ls))
items-end last zero left items l ls ends = rw ends refl
items-end last (suc room) left items l ls ends = rw ends refl

-- ---- how many lines are left

abbrev unwrap_rest : {A E : Type 0} → List LineView → Result (A × List LineView) E → List LineView
unwrap_rest none (Err e) = none
unwrap_rest none (Ok read) = read.1

line_left : {A : Type 0} (l : LineView) (ls rest : List LineView) (x : A) (r : Result A Word) → after_line {A = A} {B = A × List LineView} l r (λ y. Ok (y, ls)) ≡ Ok (x, rest) → ls ≡ rest
line_left l ls rest x (Err w) e = absurd (cc)
line_left l ls rest x (Ok y) e = ap (λ r. unwrap_rest rest r) e

line-shorter : {A : Type 0} (last : ℕ) (judge : List (List ℕ) → Result A Word) (ls rest : List LineView) (x : A) → line_from last judge ls ≡ Ok (x, rest) → length rest ≤ length ls
line-shorter last judge [] rest x e = absurd (cc)
line-shorter last judge (l ∷ ls) rest x e = let same = line_left l ls rest x (judge l.tokens) e in omega (arith, ap length same)

-- what passed
record Went {A B E : Type 0} (read : Result A E) (next : A → Result B E) (found : B) : Type 0 where
  value : A
  accepted : read ≡ Ok value
  on : next value ≡ Ok found

went : {A B E : Type 0} (read : Result A E) (next : A → Result B E) (found : B) → after read next ≡ Ok found → Went read next found
went (Err w) next found e = absurd (cc)
went (Ok x) next found e = record { value = x; accepted = refl; on = e }

lines-shorter : {A : Type 0} (last : ℕ) (judge : List (List ℕ) → Result A Word) (n : ℕ) (ls rest : List LineView) (xs : List A) → lines_from last judge n ls ≡ Ok (xs, rest) → length rest ≤ length ls
lines-shorter last judge zero ls rest xs e = let same : ls ≡ rest = ap (λ r. unwrap_rest rest r) e in omega (arith, ap length same)
lines-shorter last judge (suc n) ls rest xs e =
    let first = went (line_from last judge ls) (λ read. after (lines_from last judge n read.1) (λ more. Ok (read.0 ∷ more.0, more.1))) (xs, rest) e in
    let later = went (lines_from last judge n first.value.1) (λ more. Ok (first.value.0 ∷ more.0, more.1)) (xs, rest) first.on in
    let same : later.value.1 ≡ rest = ap (λ r. unwrap_rest rest r) later.on in
    let a = line-shorter last judge ls first.value.1 first.value.0 first.accepted in
    let b = lines-shorter last judge n first.value.1 later.value.1 later.value.0 later.accepted in
    omega (arith, a, b, ap length same)

pub item-shorter : (last : ℕ) (opening : Opening) (ls rest : List LineView) (item : Item) → item_from last opening ls ≡ Ok (item, rest) → length rest ≤ length ls
item-shorter last (Whole whole) ls rest item e = let same : ls ≡ rest = ap (λ r. unwrap_rest rest r) e in omega (arith, ap length same)
item-shorter last (Steps name class count) ls rest item e =
    let w = went (lines_from last step_from count ls) (λ log. Ok (form.NoLog name class log.0, log.1)) (item, rest) e in
    let same : w.value.1 ≡ rest = ap (λ r. unwrap_rest rest r) w.on in
    let a = lines-shorter last step_from count ls w.value.1 w.value.0 w.accepted in
    omega (arith, a, ap length same)
item-shorter last (Parts name labels count) ls rest item e =
    let w = went (lines_from last part_from count ls) (λ parts. Ok (form.NoSum name (record { labels = labels; parts = parts.0 }), parts.1)) (item, rest) e in
    let same : w.value.1 ≡ rest = ap (λ r. unwrap_rest rest r) w.on in
    let a = lines-shorter last part_from count ls w.value.1 w.value.0 w.accepted in
    omega (arith, a, ap length same)
item-shorter last (SizesOfYes name values) ls rest item e =
    let w = went (line_from last sizes_from ls) (λ sizes. Ok (form.YesSizes name values sizes.0, sizes.1)) (item, rest) e in
    let same : w.value.1 ≡ rest = ap (λ r. unwrap_rest rest r) w.on in
    let a = line-shorter last sizes_from ls w.value.1 w.value.0 w.accepted in
    omega (arith, a, ap length same)
item-shorter last (SizesOfNo name) ls rest item e =
    let w = went (line_from last sizes_from ls) (λ sizes. Ok (form.NoSizes name sizes.0, sizes.1)) (item, rest) e in
    let same : w.value.1 ≡ rest = ap (λ r. unwrap_rest rest r) w.on in
    let a = line-shorter last sizes_from ls w.value.1 w.value.0 w.accepted in
    omega (arith, a, ap length same)

-- ---- the whole text

-- behind the head the items come
pub items_of-behind : (bytes : List ℕ) (line version : ℕ) (head : LineView) (ls : List LineView) → significant_lines line bytes ≡ head ∷ ls → report_header head.tokens ≡ Ok version → items_of bytes line ≡ items_from (line + length (lines_of bytes)) most_items most_steps ls
unfolding items_of
items_of-behind bytes line version head ls lines header = rw (lines, header) refl

-- the first line is no head
pub items_of-headless : (bytes : List ℕ) (line : ℕ) (word : Word) (head : LineView) (ls : List LineView) → significant_lines line bytes ≡ head ∷ ls → report_header head.tokens ≡ Err word → items_of bytes line ≡ Err (record { line = head.number; word = word })
unfolding items_of
items_of-headless bytes line word head ls lines header = rw (lines, header) refl

pub reads_from_end : {U V A : Type 0} (whole : U → V) (fail : ReadFail) (read : Result (List A) Refusal) (all : Result V Refusal) → Ends (Err fail) read → ((refusal : Refusal) → read ≡ Err refusal → all ≡ Err refusal) → Reads whole (Err fail) all
reads_from_end whole read_fail.NoMemory read all ends so = tt
reads_from_end whole (read_fail.Refused refusal) read all ends so = so (refusal) ends

pub reads_from_lines : {X Y U V R : Type 0} (view : X → Y) (whole : U → V) (fail : ReadFail) (left : R) (read : Result (Y × R) Refusal) (all : Result V Refusal) → TookLines view (Err fail) left read → ((refusal : Refusal) → read ≡ Err refusal → all ≡ Err refusal) → Reads whole (Err fail) all
reads_from_lines view whole read_fail.NoMemory left read all took so = tt
reads_from_lines view whole (read_fail.Refused refusal) left read all took so = so (refusal) took
