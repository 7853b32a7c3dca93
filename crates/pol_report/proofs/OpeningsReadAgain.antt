-- The first line of a printed item is read as what it opens.
use Rattle.std.proofs.Common.{◌≡◌, ℕ, ◌<◌, ◌≤◌, ◌^◌, true, false, List, [], ◌∷◌, length, map, Some, None, Ok, refl, sym, ap, ◌∙◌, arith, codes, decimal}
use Rattle.std.proofs.lemmas.List.Elements.{All-head}
use Rattle.pol_base.specs.declared.class_name.ClassName.{ClassName}
use Rattle.pol_base.specs.declared.class_name.ClassName.TheVariants.{Constant, Semilattice, SetFunction, Majority, Nu4, Affine, Maltsev}
use Rattle.pol_base.specs.Lists.{is_same}
use Rattle.pol_base.proofs.LookupLemmas.{other-is_same}
use Rattle.pol_text.specs.Lines.{number_of}
use Rattle.pol_text.specs.declared.word.Word.TheVariants.{TooManySteps, TooManyParts}
use Rattle.pol_text.proofs.PrintedLines.{number_of-decimal}
use Rattle.pol_report.specs.declared.item.Item.{Item}
use Rattle.pol_report.specs.declared.item.Item.TheVariants as item
use Rattle.pol_report.specs.declared.opening.Opening.{Opening}
use Rattle.pol_report.specs.declared.opening.Opening.TheVariants.{Whole, Steps, Parts, SizesOfYes, SizesOfNo}
use Rattle.pol_report.specs.Printable.{AreValues, HasPlainYes, HasLogs, IsPrintable}
use Rattle.pol_report.specs.Reports.{steps_of}
use Rattle.pol_report.specs.Tokens.{as_value}
use Rattle.pol_report.specs.Openings.{table_from, class_from, yes_of, yes_from, refutation_from, no_from, as_answer, instance_from, as_subject, opening_from}
use Rattle.pol_report.proofs.ItemLines.{first_tokens, value-short}
use Rattle.pol_report.proofs.TokensReadAgain.{as_value-decimal, as_count-decimal, as_name-name, as_class-word, to_end-decimals, values-read}

-- what the first line of the item says
abbrev pub opening_of : Item → Opening
opening_of (item.YesSizes name values sizes) = SizesOfYes name values
opening_of (item.NoLog name class log) = Steps name class (length log)
opening_of (item.NoSum name sum) = Parts name sum.labels (length sum.parts)
opening_of (item.NoSizes name sizes) = SizesOfNo name
opening_of it = Whole it

-- ---- lines of classes

-- a number's token is no keyword
not_keyword : (keyword : List ℕ) (n : ℕ) → number_of keyword ≡ None → n < 10 ^ 9 → is_same (decimal n) keyword ≡ false
not_keyword keyword n none short = other-is_same (decimal n) keyword (λ same. let both : Some n ≡ None = sym (number_of-decimal n short) ∙ (ap number_of same ∙ none) in cc)

table-read : (class : ClassName) (cells : List ℕ) → AreValues 625 cells → table_from class (map decimal cells) ≡ Ok (Whole (item.ClassTable class cells))
unfolding table_from
table-read class [] are = absurd (let some = are.some in omega arith)
table-read class (v ∷ cells) are =
    let short = value-short v (All-head (λ w. w ≤ 4) v cells are.each) in
    rw (not_keyword (codes "none") v refl short, not_keyword (codes "beyond") v refl short, to_end-decimals as_value (λ w. w ≤ 4) as_value-decimal 625 (v ∷ cells) are.few are.each) refl

none-read : (class : ClassName) → table_from class (codes "none" ∷ []) ≡ Ok (Whole (item.ClassNone class))
unfolding table_from
none-read class = refl

beyond-read : table_from Nu4 (codes "beyond" ∷ []) ≡ Ok (Whole item.ClassBeyond)
unfolding table_from
beyond-read = refl

-- ---- lines of instances

plain-yes : (name : List ℕ) (class : ClassName) (values : List ℕ) → HasPlainYes class → yes_of name class values ≡ Whole (item.Yes name class values)
plain-yes name Constant values plain = refl
plain-yes name Semilattice values plain = refl
plain-yes name SetFunction values plain = refl
plain-yes name Majority values plain = refl
plain-yes name Nu4 values plain = refl
plain-yes name Affine values plain = refl
plain-yes name Maltsev values plain = absurd plain

log-read : (left : ℕ) (name : List ℕ) (class : ClassName) (count : ℕ) → HasLogs class → left < 10 ^ 9 → count ≤ left → refutation_from left name class (decimal count ∷ []) ≡ Ok (Steps name class count)
unfolding refutation_from
log-read left name Constant count logs small few = rw (as_count-decimal left TooManySteps count small few) refl
log-read left name Semilattice count logs small few = rw (as_count-decimal left TooManySteps count small few) refl
log-read left name SetFunction count logs small few = rw (as_count-decimal left TooManySteps count small few) refl
log-read left name Majority count logs small few = rw (as_count-decimal left TooManySteps count small few) refl
log-read left name Nu4 count logs small few = rw (as_count-decimal left TooManySteps count small few) refl
log-read left name Affine count logs small few = absurd logs
log-read left name Maltsev count logs small few = absurd logs

sum-read : (left : ℕ) (name labels : List ℕ) (count : ℕ) → count ≤ 4096 → AreValues 5 labels → refutation_from left name Affine (decimal count ∷ map decimal labels) ≡ Ok (Parts name labels count)
unfolding refutation_from
sum-read left name labels count few are = rw (as_count-decimal 4096 TooManyParts count (omega arith) few, values-read 5 labels are) refl

no_sizes-read : (left : ℕ) (name : List ℕ) → refutation_from left name Maltsev [] ≡ Ok (SizesOfNo name)
unfolding refutation_from
no_sizes-read left name = refl

-- ---- both

-- the first line of a printable item, where its steps may be read
pub opening-read : (it : Item) (left : ℕ) → IsPrintable it → left < 10 ^ 9 → steps_of it ≤ left → opening_from true left (first_tokens it) ≡ Ok (opening_of it)
unfolding opening_from as_subject class_from instance_from as_answer yes_from no_from
opening-read (item.ClassTable class cells) left is small few = rw (as_class-word class, table-read class cells is) refl
opening-read (item.ClassNone class) left is small few = rw (as_class-word class) (none-read class)
opening-read item.ClassBeyond left is small few = rw (as_class-word Nu4) beyond-read
opening-read (item.Yes name class values) left is small few =
    rw (as_name-name name is.named, as_class-word class, values-read 40 values is.solution, plain-yes name class values is.plain) refl
opening-read (item.YesSizes name values sizes) left is small few = rw (as_name-name name is.named, as_class-word Maltsev, values-read 40 values is.solution) refl
opening-read (item.NoLog name class log) left is small few =
    rw (as_name-name name is.named, as_class-word class, log-read left name class (length log) is.has_logs small few) refl
opening-read (item.NoSum name sum) left is small few =
    rw (as_name-name name is.named, as_class-word Affine, sum-read left name sum.labels (length sum.parts) is.combination.parts.few is.combination.labels) refl
opening-read (item.NoSizes name sizes) left is small few = rw (as_name-name name is.named, as_class-word Maltsev) (no_sizes-read left name)
opening-read (item.Undecided name) left is small few = rw (as_name-name name is) refl
