-- What the grammar of files says of the place and the line behind a file.
use Rattle.std.proofs.Common.{ℕ, ◌≤◌, [], ◌≡◌, ◌+◌, Bool, true, false, cond, List, ◌∷◌, Ok, subst, arith, codes, length}
use Rattle.std.specs.List.{AllByRecursion}
use Rattle.pol_lang.specs.Files.{Parsed, FileView}
use Rattle.pol_text.specs.Lines.{LineView, lines_of, significant_lines}
use Rattle.pol_text.specs.Reading.{after_line, begins_with, end_line}
use Rattle.pol_lang.specs.Grammar.{entry_line, rest_of_file, header_line, domain_line, begun_file, file_from_domain, file_of, parse}
use Rattle.pol_text.proofs.LinePlaces.{IsWithin, total_length-lines_of, significant_within}
use Rattle.pol_text.proofs.ReadingLemmas.{Passed, after_line-ok}
use Rattle.pol_text.proofs.LineLemmas.{length-lines_of-le}

-- where a file ends in its text
pub record EndsWithin (numbers places : ℕ) (found : Parsed) : Type 0 where
  pub line : found.line ≤ numbers
  pub place : found.place ≤ places

pub rest_of_file-within : (numbers places : ℕ) (file : FileView) (last : ℕ) (ls : List LineView) (found : Parsed) → AllByRecursion (IsWithin numbers places) ls → rest_of_file file last ls ≡ Ok found → EndsWithin numbers places found
rest_of_file-within numbers places file last [] found within e = cc
rest_of_file-within numbers places file last (l ∷ ls) found within e = by_keyword (begins_with (codes "end") l.tokens) (λ next h. rest_of_file-within numbers places next last ls found within.1 h) e
  where
    at_end : Passed (end_line l.tokens) (λ _. Ok (record { file = file; place = l.after; line = l.number + 1 })) found → EndsWithin numbers places found
    at_end p =
        let here : IsWithin numbers places l = within.0 in
        let within_here : EndsWithin numbers places (record { file = file; place = l.after; line = l.number + 1 }) = record { line = omega arith; place = omega arith } in
        let same : record { file = file; place = l.after; line = l.number + 1 } ≡ found = cc in
        subst (EndsWithin numbers places) same within_here

    by_keyword : (t : Bool) → ((next : FileView) → rest_of_file next last ls ≡ Ok found → EndsWithin numbers places found) → cond t (after_line l (end_line l.tokens) (λ _. Ok (record { file = file; place = l.after; line = l.number + 1 }))) (after_line l (entry_line file l.tokens) (λ next. rest_of_file next last ls)) ≡ Ok found → EndsWithin numbers places found
    by_keyword true later h = at_end (after_line-ok l (end_line l.tokens) (λ _. Ok (record { file = file; place = l.after; line = l.number + 1 })) found h)
    by_keyword false later h = let p = after_line-ok l (entry_line file l.tokens) (λ next. rest_of_file next last ls) found h in later p.value p.went_on

-- the place behind a file lies in the text, and the line that begins there is one of its lines or the next
pub parse-within : (bytes : List ℕ) (found : Parsed) → parse bytes ≡ Ok found → EndsWithin (length bytes + 1) (length bytes) found
unfolding parse
parse-within bytes found e = by_header (significant_lines 1 bytes) (significant_within 1 0 (length bytes + 1) (length bytes) (lines_of bytes) (omega (arith, length-lines_of-le bytes)) (omega (arith, total_length-lines_of bytes))) e
  where
    by_domain : (ls : List LineView) → AllByRecursion (IsWithin (length bytes + 1) (length bytes)) ls → file_from_domain (length (lines_of bytes) + 1) ls ≡ Ok found → EndsWithin (length bytes + 1) (length bytes) found
    by_domain [] within h = cc
    by_domain (l ∷ ls) within h = let p = after_line-ok l (domain_line l.tokens) (λ d. rest_of_file (begun_file d) (length (lines_of bytes) + 1) ls) found h in rest_of_file-within (length bytes + 1) (length bytes) (begun_file p.value) (length (lines_of bytes) + 1) ls found within.1 p.went_on

    by_header : (ls : List LineView) → AllByRecursion (IsWithin (length bytes + 1) (length bytes)) ls → file_of (length (lines_of bytes) + 1) ls ≡ Ok found → EndsWithin (length bytes + 1) (length bytes) found
    by_header [] within h = cc
    by_header (l ∷ ls) within h = let p = after_line-ok l (header_line l.tokens) (λ _. file_from_domain (length (lines_of bytes) + 1) ls) found h in by_domain ls within.1 p.went_on
