-- No report is refused by the grammar as too long: that word is given to inputs before they are read as a text.
use Rattle.std.proofs.Common.{◌≡◌, ◌≢◌, ℕ, zero, suc, ◌+◌, Bool, true, false, cond, ◌&&◌, codes, List, [], ◌∷◌, length, Option, Some, None, Result, Ok, Err, subst}
use Rattle.pol_base.specs.Lists.{is_same}
use Rattle.pol_base.specs.declared.class_name.ClassName.{ClassName}
use Rattle.pol_base.specs.declared.class_name.ClassName.TheVariants.{Constant, Semilattice, SetFunction, Majority, Nu4, Affine, Maltsev}
use Rattle.pol_text.specs.declared.word.Word.{Word}
use Rattle.pol_text.specs.declared.word.Word.TheVariants.{BadLine, TooManyItems, TooManySteps, TooManyParts, TooLong}
use Rattle.pol_text.specs.declared.refusal.Refusal.{Refusal}
use Rattle.pol_text.specs.Lines.{LineView, significant_lines, lines_of}
use Rattle.pol_text.specs.Reading.{unless, after_number, after_line, end_line}
use Rattle.pol_nogood.specs.Logs.{Basis}
use Rattle.pol_report.specs.declared.item.Item.{Item}
use Rattle.pol_report.specs.declared.item.Item.TheVariants as item
use Rattle.pol_report.specs.declared.opening.Opening.{Opening}
use Rattle.pol_report.specs.declared.opening.Opening.TheVariants.{Whole, Steps, Parts, SizesOfYes, SizesOfNo}
use Rattle.pol_report.specs.declared.opening.Subject.{Subject}
use Rattle.pol_report.specs.declared.opening.Subject.TheVariants as subject
use Rattle.pol_report.specs.declared.opening.Answer.{Answer}
use Rattle.pol_report.specs.declared.opening.Answer.TheVariants as answer
use Rattle.pol_report.specs.Tokens.{after, one, counted, to_end, some_to_end, is_done, nothing_left, as_number, as_value, as_count, as_name, as_keyword, class_among, as_class, listed}
use Rattle.pol_report.specs.Certificates.{pair_from, as_basis, step_from, part_from, sizes_from}
use Rattle.pol_report.specs.Openings.{is_nu4, table_from, class_from, yes_from, refutation_from, no_from, as_answer, answer_from, instance_from, as_subject, subject_from, opening_from}
use Rattle.pol_report.specs.Limits.{most_items, most_steps, most_parts}
use Rattle.pol_report.specs.Grammar.{line_from, lines_from, item_from, nothing_behind, unless_end, items_from, report_header, report_from, items_of}

-- a word for a text
abbrev IsForTexts : Word → Type 0
IsForTexts TooLong = ⊥
IsForTexts _ = Unit {0}

-- the word of a refusal is one for a text
abbrev Word-fits : {A : Type 0} → Result A Word → Type 0
Word-fits (Ok x) = Unit {0}
Word-fits (Err word) = IsForTexts word

record IsOther {A : Type 0} (read : Result A Word) : Type 0 where
  fits : Word-fits read

accepted : {A : Type 0} (x : A) → IsOther (Ok x)
accepted x = record { fits = tt }

denied : {A : Type 0} (word : Word) → IsForTexts word → IsOther {A = A} (Err word)
denied word other = record { fits = other }

tested : {A : Type 0} (passes : Bool) (word : Word) {next : Result A Word} → IsForTexts word → IsOther next → IsOther (unless passes word next)
tested true word other rest = rest
tested false word other rest = record { fits = other }

numbered : {A : Type 0} (number : Option ℕ) (word : Word) {next : ℕ → Result A Word} → IsForTexts word → ((n : ℕ) → IsOther (next n)) → IsOther (after_number number word next)
numbered None word other rest = record { fits = other }
numbered (Some n) word other rest = rest n

behind : {A B : Type 0} {read : Result A Word} {next : A → Result B Word} → IsOther read → ((x : A) → IsOther (next x)) → IsOther (after read next)
behind {read = Ok x} other rest = rest x
behind {read = Err word} other rest = record { fits = other.fits }

either : {A : Type 0} (test : Bool) {yes_read no_read : Result A Word} → IsOther yes_read → IsOther no_read → IsOther (cond test yes_read no_read)
either true here there = here
either false here there = there

-- ---- readers

one-other : {A : Type 0} {judge : List ℕ → Result A Word} → ((t : List ℕ) → IsOther (judge t)) → (tokens : List (List ℕ)) → IsOther (one judge tokens)
one-other judged [] = denied BadLine tt
one-other judged (t ∷ ts) = behind (judged t) (λ x. accepted (x, ts))

counted-other : {A R : Type 0} {read : R → Result (A × R) Word} → ((rest : R) → IsOther (read rest)) → (n : ℕ) (rest : R) → IsOther (counted read n rest)
counted-other judged zero rest = accepted ([], rest)
counted-other judged (suc n) rest = behind (judged rest) (λ first. behind (counted-other judged n first.1) (λ more. accepted (first.0 ∷ more.0, more.1)))

to_end-other : {A : Type 0} {judge : List ℕ → Result A Word} → ((t : List ℕ) → IsOther (judge t)) → (most : ℕ) (tokens : List (List ℕ)) → IsOther (to_end judge most tokens)
to_end-other judged most [] = accepted []
to_end-other judged zero (t ∷ ts) = denied BadLine tt
to_end-other judged (suc most) (t ∷ ts) = behind (judged t) (λ x. behind (to_end-other judged most ts) (λ xs. accepted (x ∷ xs)))

some_to_end-other : {A : Type 0} {judge : List ℕ → Result A Word} → ((t : List ℕ) → IsOther (judge t)) → (most : ℕ) (tokens : List (List ℕ)) → IsOther (some_to_end judge most tokens)
some_to_end-other judged most [] = denied BadLine tt
some_to_end-other judged most (t ∷ ts) = to_end-other judged most (t ∷ ts)

nothing_left-other : {A : Type 0} (tokens : List (List ℕ)) (x : A) → IsOther (nothing_left tokens x)
nothing_left-other tokens x = tested (is_done tokens) BadLine tt (accepted x)

-- ---- tokens

as_number-other : (t : List ℕ) → IsOther (as_number t)
unfolding as_number
as_number-other t = search (numbered, accepted)

as_value-other : (t : List ℕ) → IsOther (as_value t)
unfolding as_value
as_value-other t = search (numbered, tested, accepted)

as_count-other : (most : ℕ) (word : Word) → IsForTexts word → (t : List ℕ) → IsOther (as_count most word t)
unfolding as_count
as_count-other most word other t = search (numbered, tested, accepted, other)

as_name-other : (t : List ℕ) → IsOther (as_name t)
unfolding as_name
as_name-other t = search (tested, accepted)

as_keyword-other : (keyword t : List ℕ) → IsOther (as_keyword keyword t)
unfolding as_keyword
as_keyword-other keyword t = search (tested, accepted)

class_among-other : (classes : List ClassName) (t : List ℕ) → IsOther (class_among classes t)
class_among-other [] t = denied BadLine tt
class_among-other (class ∷ classes) t = either _ (accepted class) (class_among-other classes t)

as_class-other : (t : List ℕ) → IsOther (as_class t)
unfolding as_class
as_class-other t = class_among-other (Constant ∷ Semilattice ∷ SetFunction ∷ Majority ∷ Nu4 ∷ Affine ∷ Maltsev ∷ []) t

listed-other : {A : Type 0} (most : ℕ) {read : List (List ℕ) → Result (A × List (List ℕ)) Word} → ((rest : List (List ℕ)) → IsOther (read rest)) → (tokens : List (List ℕ)) → IsOther (listed most read tokens)
listed-other most judged tokens = behind (one-other (as_count-other most BadLine tt) tokens) (λ count. counted-other judged count.0 count.1)

-- ---- lines of certificates

pair_from-other : (tokens : List (List ℕ)) → IsOther (pair_from tokens)
pair_from-other tokens = behind (one-other as_number-other tokens) (λ variable. behind (one-other as_value-other variable.1) (λ value. accepted _))

as_basis-other : (t : List ℕ) → IsOther (as_basis t)
unfolding as_basis
as_basis-other t =
    either (is_same t (codes "c")) (accepted Basis.ByConstraint)
    (either (is_same t (codes "v")) (accepted Basis.ByVariable)
    (denied BadLine tt))

step_from-other : (tokens : List (List ℕ)) → IsOther (step_from tokens)
unfolding step_from
step_from-other tokens =
    behind (one-other as_basis-other tokens) (λ basis.
    behind (one-other as_number-other basis.1) (λ number.
    behind (listed-other 3 pair_from-other number.1) (λ nogood.
    behind (listed-other 128 (one-other as_number-other) nogood.1) (λ references.
    nothing_left-other references.1 _))))

part_from-other : (tokens : List (List ℕ)) → IsOther (part_from tokens)
unfolding part_from
part_from-other tokens =
    behind (one-other (as_keyword-other _) tokens) (λ keyword.
    behind (one-other as_number-other keyword.1) (λ constraint.
    behind (one-other as_value-other constraint.1) (λ multiplier.
    behind (one-other as_value-other multiplier.1) (λ right.
    behind (some_to_end-other as_value-other 6 right.1) (λ coefs.
    accepted _)))))

sizes_from-other : (tokens : List (List ℕ)) → IsOther (sizes_from tokens)
unfolding sizes_from
sizes_from-other tokens =
    behind (one-other (as_keyword-other _) tokens) (λ keyword.
    some_to_end-other as_number-other 257 keyword.1)

-- ---- first lines of items

table_from-other : (class : ClassName) (tokens : List (List ℕ)) → IsOther (table_from class tokens)
unfolding table_from
table_from-other class [] = denied BadLine tt
table_from-other class (t ∷ ts) =
    either (is_same t (codes "none")) (nothing_left-other ts (Whole (item.ClassNone class)))
    (either (is_same t (codes "beyond") && is_nu4 class) (nothing_left-other ts (Whole item.ClassBeyond))
    (behind (to_end-other as_value-other 625 (t ∷ ts)) (λ cells. accepted (Whole (item.ClassTable class cells)))))

class_from-other : (tokens : List (List ℕ)) → IsOther (class_from tokens)
unfolding class_from
class_from-other tokens = behind (one-other as_class-other tokens) (λ class. table_from-other class.0 class.1)

yes_from-other : (name : List ℕ) (tokens : List (List ℕ)) → IsOther (yes_from name tokens)
unfolding yes_from
yes_from-other name tokens =
    behind (one-other as_class-other tokens) (λ class.
    behind (some_to_end-other as_value-other 40 class.1) (λ values.
    accepted _))

steps-other : (left : ℕ) (name : List ℕ) (class : ClassName) (tokens : List (List ℕ)) → IsOther (after (one (as_count left TooManySteps) tokens) (λ count. nothing_left count.1 (Steps name class count.0)))
steps-other left name class tokens =
    behind (one-other (as_count-other left TooManySteps tt) tokens) (λ count.
    nothing_left-other count.1 _)

refutation_from-other : (left : ℕ) (name : List ℕ) (class : ClassName) (tokens : List (List ℕ)) → IsOther (refutation_from left name class tokens)
unfolding refutation_from
refutation_from-other left name Constant tokens = steps-other left name Constant tokens
refutation_from-other left name Semilattice tokens = steps-other left name Semilattice tokens
refutation_from-other left name SetFunction tokens = steps-other left name SetFunction tokens
refutation_from-other left name Majority tokens = steps-other left name Majority tokens
refutation_from-other left name Nu4 tokens = steps-other left name Nu4 tokens
refutation_from-other left name Affine tokens =
    behind (one-other (as_count-other most_parts TooManyParts tt) tokens) (λ count.
    behind (some_to_end-other as_value-other 5 count.1) (λ labels.
    accepted _))
refutation_from-other left name Maltsev tokens = nothing_left-other tokens _

no_from-other : (left : ℕ) (name : List ℕ) (tokens : List (List ℕ)) → IsOther (no_from left name tokens)
unfolding no_from
no_from-other left name tokens = behind (one-other as_class-other tokens) (λ class. refutation_from-other left name class.0 class.1)

as_answer-other : (t : List ℕ) → IsOther (as_answer t)
unfolding as_answer
as_answer-other t =
    either (is_same t (codes "undecided")) (accepted answer.Undecided)
    (either (is_same t (codes "yes")) (accepted answer.Yes)
    (either (is_same t (codes "no")) (accepted answer.No)
    (denied BadLine tt)))

answer_from-other : (left : ℕ) (name : List ℕ) (given : Answer) (tokens : List (List ℕ)) → IsOther (answer_from left name given tokens)
answer_from-other left name answer.Undecided tokens = nothing_left-other tokens _
answer_from-other left name answer.Yes tokens = yes_from-other name tokens
answer_from-other left name answer.No tokens = no_from-other left name tokens

instance_from-other : (left : ℕ) (tokens : List (List ℕ)) → IsOther (instance_from left tokens)
unfolding instance_from
instance_from-other left tokens =
    behind (one-other as_name-other tokens) (λ name.
    behind (one-other as_answer-other name.1) (λ given.
    answer_from-other left name.0 given.0 given.1))

as_subject-other : (t : List ℕ) → IsOther (as_subject t)
unfolding as_subject
as_subject-other t =
    either (is_same t (codes "class")) (accepted subject.Class)
    (either (is_same t (codes "instance")) (accepted subject.Instance)
    (denied BadLine tt))

subject_from-other : (left : ℕ) (about : Subject) (tokens : List (List ℕ)) → IsOther (subject_from left about tokens)
subject_from-other left subject.Class tokens = class_from-other tokens
subject_from-other left subject.Instance tokens = instance_from-other left tokens

opening_from-other : (room : Bool) (left : ℕ) (tokens : List (List ℕ)) → IsOther (opening_from room left tokens)
unfolding opening_from
opening_from-other room left tokens =
    behind (one-other as_subject-other tokens) (λ about.
    tested room TooManyItems tt (subject_from-other left about.0 about.1))

report_header-other : (tokens : List (List ℕ)) → IsOther (report_header tokens)
unfolding report_header
report_header-other tokens = search (tested, numbered, accepted)

end_line-other : (tokens : List (List ℕ)) → IsOther (end_line tokens)
end_line-other tokens = search (tested, accepted)

-- ---- lines

-- the same of a refusal with its line
abbrev Refusal-fits : {A : Type 0} → Result A Refusal → Type 0
Refusal-fits (Ok x) = Unit {0}
Refusal-fits (Err refusal) = IsForTexts refusal.word

record TellsOther {A : Type 0} (read : Result A Refusal) : Type 0 where
  fits : Refusal-fits read

taken : {A : Type 0} (x : A) → TellsOther (Ok x)
taken x = record { fits = tt }

lined : {A B : Type 0} (l : LineView) {read : Result A Word} {next : A → Result B Refusal} → IsOther read → ((x : A) → TellsOther (next x)) → TellsOther (after_line l read next)
lined l {read = Ok x} other rest = rest x
lined l {read = Err word} other rest = record { fits = other.fits }

followed : {A B : Type 0} {read : Result A Refusal} {next : A → Result B Refusal} → TellsOther read → ((x : A) → TellsOther (next x)) → TellsOther (after read next)
followed {read = Ok x} other rest = rest x
followed {read = Err refusal} other rest = record { fits = other.fits }

line_from-other : {A : Type 0} {judge : List (List ℕ) → Result A Word} → ((tokens : List (List ℕ)) → IsOther (judge tokens)) → (last : ℕ) (ls : List LineView) → TellsOther (line_from last judge ls)
line_from-other judged last [] = record { fits = tt }
line_from-other judged last (l ∷ ls) = lined l (judged l.tokens) (λ x. taken (x, ls))

lines_from-other : {A : Type 0} {judge : List (List ℕ) → Result A Word} → ((tokens : List (List ℕ)) → IsOther (judge tokens)) → (last n : ℕ) (ls : List LineView) → TellsOther (lines_from last judge n ls)
lines_from-other judged last zero ls = taken ([], ls)
lines_from-other judged last (suc n) ls =
    followed (line_from-other judged last ls) (λ first.
    followed (lines_from-other judged last n first.1) (λ more.
    taken (first.0 ∷ more.0, more.1)))

item_from-other : (last : ℕ) (opening : Opening) (ls : List LineView) → TellsOther (item_from last opening ls)
item_from-other last (Whole item) ls = taken (item, ls)
item_from-other last (Steps name class count) ls = followed (lines_from-other step_from-other last count ls) (λ log. taken _)
item_from-other last (Parts name labels count) ls = followed (lines_from-other part_from-other last count ls) (λ parts. taken _)
item_from-other last (SizesOfYes name values) ls = followed (line_from-other sizes_from-other last ls) (λ sizes. taken _)
item_from-other last (SizesOfNo name) ls = followed (line_from-other sizes_from-other last ls) (λ sizes. taken _)

nothing_behind-other : (ls : List LineView) → TellsOther (nothing_behind ls)
nothing_behind-other [] = taken []
nothing_behind-other (l ∷ ls) = record { fits = tt }

by_keyword : {A : Type 0} (ends : Bool) {here there : Result A Refusal} → TellsOther here → TellsOther there → TellsOther (cond ends here there)
by_keyword true here there = here
by_keyword false here there = there

unless_end-other : (l : LineView) (ls : List LineView) {next : Result (List Item) Refusal} → TellsOther next → TellsOther (unless_end l ls next)
unless_end-other l ls other = by_keyword _ (lined l (end_line-other l.tokens) (λ _. nothing_behind-other ls)) other

items_from-other : (last room left : ℕ) (ls : List LineView) → TellsOther (items_from last room left ls)
items_from-other last room left [] = record { fits = tt }
items_from-other last zero left (l ∷ ls) = unless_end-other l ls (lined l (opening_from-other false left l.tokens) (λ _. taken []))
items_from-other last (suc room) left (l ∷ ls) =
    unless_end-other l ls
    (lined l (opening_from-other true left l.tokens) (λ opening.
    followed (item_from-other last opening ls) (λ item.
    followed (items_from-other last room _ item.1) (λ items.
    taken (item.0 ∷ items)))))

report_from-other : (last : ℕ) (ls : List LineView) → TellsOther (report_from last ls)
report_from-other last [] = record { fits = tt }
report_from-other last (l ∷ ls) = lined l (report_header-other l.tokens) (λ _. items_from-other last most_items most_steps ls)

-- a report that the grammar refuses is not refused as too long
pub items_of-word : (bytes : List ℕ) (line : ℕ) (refusal : Refusal) → items_of bytes line ≡ Err refusal → refusal.word ≢ TooLong
unfolding items_of
items_of-word bytes line refusal e same =
    subst IsForTexts same (subst Refusal-fits e (report_from-other (line + length (lines_of bytes)) (significant_lines line bytes)).fits)
