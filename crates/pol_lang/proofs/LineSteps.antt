-- Entry lines that are accepted one behind another, and `end`: just these are the rest of a file, behind what was read so far.
use Rattle.std.proofs.Common.{◌≡◌, ℕ, Bool, true, false, cond, List, [], ◌∷◌, ◌++◌, ◌+◌, Ok, map, codes, refl, sym, ap, subst}
use Rattle.pol_text.specs.Lines.{LineView}
use Rattle.pol_text.specs.Reading.{begins_with, after_line, end_line}
use Rattle.pol_text.proofs.ReadingLemmas.{after_line-ok}
use Rattle.pol_lang.specs.Files.{FileView, Parsed}
use Rattle.pol_lang.specs.Grammar.{entry_line, rest_of_file}
use Rattle.pol_lang.proofs.AcceptedLines.{end_line-writes}

-- the line is an entry with which the file goes on
pub record IsStep (file : FileView) (tokens : List (List ℕ)) (next : FileView) : Type 0 where
  pub goes_on : begins_with (codes "end") tokens ≡ false
  pub accepted : entry_line file tokens ≡ Ok next

-- the lines are entries with which the file becomes the next
abbrev pub Reads : FileView → List (List (List ℕ)) → FileView → Type 0
Reads file [] next = file ≡ next
Reads file (tokens ∷ lines) next = (middle : FileView) × IsStep file tokens middle × Reads middle lines next

pub Reads-append : (file middle next : FileView) (lines more : List (List (List ℕ))) → Reads file lines middle → Reads middle more next → Reads file (lines ++ more) next
Reads-append file middle next [] more reads later = subst (λ (f : FileView). Reads f more next) (sym reads) later
Reads-append file middle next (tokens ∷ lines) more reads later = (reads.0, reads.1, Reads-append reads.0 middle next lines more reads.2 later)

-- the first of the lines, up to `end`, make the file what was found
pub record ReadsToEnd (file : FileView) (lines : List LineView) (found : Parsed) : Type 0 where
  pub front : List LineView
  pub last : LineView
  pub rest : List LineView
  pub lines_are : lines ≡ front ++ last ∷ rest
  pub reads : Reads file (map (λ l. l.tokens) front) found.file
  pub last_is : last.tokens ≡ codes "end" ∷ []
  pub place_is : found.place ≡ last.after
  pub line_is : found.line ≡ last.number + 1

pub rest_of_file-reads : (file next : FileView) (n : ℕ) (front : List LineView) (last : LineView) (rest : List LineView) → Reads file (map (λ l. l.tokens) front) next → last.tokens ≡ codes "end" ∷ [] → rest_of_file file n (front ++ last ∷ rest) ≡ Ok (record { file = next; place = last.after; line = last.number + 1 })
rest_of_file-reads file next n [] last rest reads ends = rw (ends, reads) refl
rest_of_file-reads file next n (l ∷ front) last rest reads ends =
    let later = rest_of_file-reads reads.0 next n front last rest reads.2 ends in
    rw (reads.1.goes_on, reads.1.accepted) later

pub reads-rest_of_file : (file : FileView) (n : ℕ) (lines : List LineView) (found : Parsed) → rest_of_file file n lines ≡ Ok found → ReadsToEnd file lines found
reads-rest_of_file file n [] found e = cc
reads-rest_of_file file n (l ∷ ls) found e = by (begins_with (codes "end") l.tokens) refl (λ next h. reads-rest_of_file next n ls found h) e
  where
    ended : Parsed
    ended = record { file = file; place = l.after; line = l.number + 1 }

    by : (ends : Bool) → begins_with (codes "end") l.tokens ≡ ends → ((next : FileView) → rest_of_file next n ls ≡ Ok found → ReadsToEnd next ls found) → cond ends (after_line l (end_line l.tokens) (λ _. Ok ended)) (after_line l (entry_line file l.tokens) (λ next. rest_of_file next n ls)) ≡ Ok found → ReadsToEnd file (l ∷ ls) found
    by true begins later h =
        let p = after_line-ok l (end_line l.tokens) (λ _. Ok ended) found h in
        let same : ended ≡ found = cc in
        subst (ReadsToEnd file (l ∷ ls)) same (record { front = []; last = l; rest = ls; lines_are = refl; reads = refl; last_is = end_line-writes l.tokens p.value begins p.accepted; place_is = refl; line_is = refl })
    by false begins later h =
        let p = after_line-ok l (entry_line file l.tokens) (λ next. rest_of_file next n ls) found h in
        let to_end = later p.value p.went_on in
        record {
          front = l ∷ to_end.front;
          last = to_end.last;
          rest = to_end.rest;
          lines_are = ap (λ lines. l ∷ lines) to_end.lines_are;
          reads = (p.value, record { goes_on = begins; accepted = p.accepted }, to_end.reads);
          last_is = to_end.last_is;
          place_is = to_end.place_is;
          line_is = to_end.line_is;
        }
