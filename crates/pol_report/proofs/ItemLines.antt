-- The lines of a report's items, token by token: the text of an item is these lines, and each of them is printed.
use Rattle.std.proofs.Common.{◌≡◌, ℕ, ◌<◌, ◌≤◌, ◌^◌, List, [], ◌∷◌, ◌++◌, length, map, flat_map, All, true, refl, ap, ap₂, sym, ◌∙◌, subst, arith, codes, decimal, append_assoc, append-nil, get_or}
use Rattle.std.specs.List.{list_all}
use Rattle.std.proofs.lemmas.Bool.{and_from}
use Rattle.std.proofs.lemmas.List.Elements.{All-nil, All-head, All-tail, All-append, All-cons, All-map}
use Rattle.std.proofs.lemmas.List.Folds.{list_all-append}
use Rattle.pol_base.specs.declared.class_name.ClassName.{ClassName}
use Rattle.pol_base.specs.declared.class_name.ClassName.TheVariants.{Constant, Semilattice, SetFunction, Majority, Nu4, Affine, Maltsev}
use Rattle.pol_base.specs.Names.{class_word}
use Rattle.pol_text.specs.Lines.{is_name}
use Rattle.pol_text.specs.Texts.{joined, printed_line}
use Rattle.pol_text.proofs.TextLemmas.{joined-map, joined-append}
use Rattle.pol_text.proofs.PrintedLines.{is_printed, is_printed-name, is_printed-decimal, numbers-printed, IsPrintedLine, printed_lines}
use Rattle.pol_nogood.specs.Nogoods.{Pair}
use Rattle.pol_nogood.specs.Logs.{Basis, StepView}
use Rattle.pol_modp.specs.Combinations.{PartView}
use Rattle.pol_report.specs.declared.item.Item.{Item}
use Rattle.pol_report.specs.declared.item.Item.TheVariants as item
use Rattle.pol_report.specs.Texts.{head_line, last_line, basis_tokens, pair_tokens, nogood_tokens, reference_tokens, item_text}
use Rattle.pol_report.specs.Printable.{AreValues, IsShort, basis_number, IsPrintablePair, IsPrintableStep, IsPrintablePart, ArePrintableSizes, IsPrintable}

-- ---- the tokens of the lines

abbrev pub step_tokens : StepView → List (List ℕ)
step_tokens s = basis_tokens s.basis ++ nogood_tokens s.nogood ++ reference_tokens s.references

abbrev pub part_tokens : PartView → List (List ℕ)
part_tokens p = codes "part" ∷ decimal p.constraint ∷ decimal p.multiplier ∷ decimal p.right ∷ map decimal p.coefs

abbrev pub sizes_tokens : List ℕ → List (List ℕ)
sizes_tokens sizes = codes "sizes" ∷ map decimal sizes

-- of the item's first line
abbrev pub first_tokens : Item → List (List ℕ)
first_tokens (item.ClassTable class cells) = codes "class" ∷ class_word class ∷ map decimal cells
first_tokens (item.ClassNone class) = codes "class" ∷ class_word class ∷ codes "none" ∷ []
first_tokens item.ClassBeyond = codes "class" ∷ class_word Nu4 ∷ codes "beyond" ∷ []
first_tokens (item.Yes name class values) = codes "instance" ∷ name ∷ codes "yes" ∷ class_word class ∷ map decimal values
first_tokens (item.YesSizes name values sizes) = codes "instance" ∷ name ∷ codes "yes" ∷ class_word Maltsev ∷ map decimal values
first_tokens (item.NoLog name class log) = codes "instance" ∷ name ∷ codes "no" ∷ class_word class ∷ decimal (length log) ∷ []
first_tokens (item.NoSum name sum) = codes "instance" ∷ name ∷ codes "no" ∷ class_word Affine ∷ decimal (length sum.parts) ∷ map decimal sum.labels
first_tokens (item.NoSizes name sizes) = codes "instance" ∷ name ∷ codes "no" ∷ class_word Maltsev ∷ []
first_tokens (item.Undecided name) = codes "instance" ∷ name ∷ codes "undecided" ∷ []

-- of the lines behind it
abbrev pub further_lines : Item → List (List (List ℕ))
further_lines (item.YesSizes name values sizes) = sizes_tokens sizes ∷ []
further_lines (item.NoLog name class log) = map step_tokens log
further_lines (item.NoSum name sum) = map part_tokens sum.parts
further_lines (item.NoSizes name sizes) = sizes_tokens sizes ∷ []
further_lines _ = []

abbrev pub item_lines : Item → List (List (List ℕ))
item_lines it = first_tokens it ∷ further_lines it

abbrev pub head_tokens : List (List ℕ)
head_tokens = codes "polyanna-report" ∷ codes "1" ∷ []

abbrev pub end_tokens : List (List ℕ)
end_tokens = codes "end" ∷ []

-- the lines of items and the last line
abbrev pub lines_to_end : List Item → List (List (List ℕ))
lines_to_end items = flat_map item_lines items ++ end_tokens ∷ []

-- ---- texts are those of lines

one_line : (tokens : List (List ℕ)) → printed_line tokens ≡ printed_lines (tokens ∷ [])
one_line tokens = sym (append-nil (printed_line tokens))

pub item_text-lines : (it : Item) → item_text it ≡ printed_lines (item_lines it)
item_text-lines (item.ClassTable class cells) = one_line (first_tokens (item.ClassTable class cells))
item_text-lines (item.ClassNone class) = one_line (first_tokens (item.ClassNone class))
item_text-lines item.ClassBeyond = one_line (first_tokens item.ClassBeyond)
item_text-lines (item.Yes name class values) = one_line (first_tokens (item.Yes name class values))
item_text-lines (item.YesSizes name values sizes) = ap (λ bytes. printed_line (first_tokens (item.YesSizes name values sizes)) ++ bytes) (one_line (sizes_tokens sizes))
item_text-lines (item.NoLog name class log) = ap (λ bytes. printed_line (first_tokens (item.NoLog name class log)) ++ bytes) (sym (joined-map printed_line step_tokens log))
item_text-lines (item.NoSum name sum) = ap (λ bytes. printed_line (first_tokens (item.NoSum name sum)) ++ bytes) (sym (joined-map printed_line part_tokens sum.parts))
item_text-lines (item.NoSizes name sizes) = ap (λ bytes. printed_line (first_tokens (item.NoSizes name sizes)) ++ bytes) (one_line (sizes_tokens sizes))
item_text-lines (item.Undecided name) = one_line (first_tokens (item.Undecided name))

items_text-lines : (items : List Item) → joined item_text items ≡ printed_lines (flat_map item_lines items)
items_text-lines [] = refl
items_text-lines (it ∷ items) = ap₂ (λ front behind. front ++ behind) (item_text-lines it) (items_text-lines items) ∙ sym (joined-append printed_line (item_lines it) (flat_map item_lines items))

-- the head, the items and the last line
pub report_text-lines : (items : List Item) → head_line ++ joined item_text items ++ last_line ≡ printed_lines (head_tokens ∷ lines_to_end items)
report_text-lines items =
    ap (λ bytes. head_line ++ bytes ++ last_line) (items_text-lines items)
    ∙ (append_assoc head_line (printed_lines (flat_map item_lines items)) last_line
    ∙ ap (λ bytes. head_line ++ bytes) (sym (joined-append printed_line (flat_map item_lines items) (end_tokens ∷ []))))

-- ---- each line is printed

all_both : (xs ys : List (List ℕ)) → list_all is_printed xs ≡ true → list_all is_printed ys ≡ true → list_all is_printed (xs ++ ys) ≡ true
all_both xs ys left right = list_all-append is_printed xs ys ∙ and_from (list_all is_printed xs) (list_all is_printed ys) left right

also : (t : List ℕ) (ts : List (List ℕ)) → is_printed t ≡ true → list_all is_printed ts ≡ true → list_all is_printed (t ∷ ts) ≡ true
also t ts first rest = and_from (is_printed t) (list_all is_printed ts) first rest

number_first : (n : ℕ) (ts : List (List ℕ)) → n < 10 ^ 9 → list_all is_printed ts ≡ true → list_all is_printed (decimal n ∷ ts) ≡ true
number_first n ts short rest = also (decimal n) ts (is_printed-decimal n short) rest

pub value-short : (v : ℕ) → v ≤ 4 → v < 10 ^ 9
value-short v value = omega arith

values-printed : (most : ℕ) (values : List ℕ) → AreValues most values → list_all is_printed (map decimal values) ≡ true
values-printed most values are = numbers-printed values (λ k d inside. value-short (get_or values k d) (are.each k d inside))

class_word-printed : (class : ClassName) → is_printed (class_word class) ≡ true
class_word-printed Constant = refl
class_word-printed Semilattice = refl
class_word-printed SetFunction = refl
class_word-printed Majority = refl
class_word-printed Nu4 = refl
class_word-printed Affine = refl
class_word-printed Maltsev = refl

pairs-printed : (pairs : List Pair) → All IsPrintablePair pairs → list_all is_printed (flat_map pair_tokens pairs) ≡ true
pairs-printed [] each = refl
pairs-printed (p ∷ pairs) each =
    let first = All-head IsPrintablePair p pairs each in
    number_first p.variable (decimal p.value ∷ flat_map pair_tokens pairs) first.variable (number_first p.value (flat_map pair_tokens pairs) (value-short p.value first.value) (pairs-printed pairs (All-tail IsPrintablePair p pairs each)))

counts-printed : (s : StepView) → IsPrintableStep s → list_all is_printed (nogood_tokens s.nogood ++ reference_tokens s.references) ≡ true
counts-printed s is =
    let few_pairs = is.pairs.few in
    let few_references = is.references.few in
    all_both (nogood_tokens s.nogood) (reference_tokens s.references)
    (number_first (length s.nogood) (flat_map pair_tokens s.nogood) (omega arith) (pairs-printed s.nogood is.pairs.each))
    (number_first (length s.references) (map decimal s.references) (omega arith) (numbers-printed s.references is.references.each))

basis-printed : (basis : Basis) (ts : List (List ℕ)) → IsShort (basis_number basis) → list_all is_printed ts ≡ true → IsPrintedLine (basis_tokens basis ++ ts)
basis-printed (Basis.ByConstraint c) ts short rest = record { printed = number_first c ts short rest; significant = refl }
basis-printed (Basis.ByVariable v) ts short rest = record { printed = number_first v ts short rest; significant = refl }

-- the tokens of a step, those of its basis apart
pub step_tokens-apart : (s : StepView) → step_tokens s ≡ basis_tokens s.basis ++ (nogood_tokens s.nogood ++ reference_tokens s.references)
step_tokens-apart s = append_assoc (basis_tokens s.basis) (nogood_tokens s.nogood) (reference_tokens s.references)

step-printed : (s : StepView) → IsPrintableStep s → IsPrintedLine (step_tokens s)
step-printed s is = rw (step_tokens-apart s) (basis-printed s.basis (nogood_tokens s.nogood ++ reference_tokens s.references) is.basis (counts-printed s is))

part-printed : (p : PartView) → IsPrintablePart p → IsPrintedLine (part_tokens p)
part-printed p is =
    let coefs = map decimal p.coefs in
    record {
      printed = number_first p.constraint (decimal p.multiplier ∷ decimal p.right ∷ coefs) is.constraint (number_first p.multiplier (decimal p.right ∷ coefs) (value-short p.multiplier is.multiplier) (number_first p.right coefs (value-short p.right is.right) (values-printed 6 p.coefs is.coefs)));
      significant = refl;
    }

sizes-printed : (sizes : List ℕ) → ArePrintableSizes sizes → IsPrintedLine (sizes_tokens sizes)
sizes-printed sizes are = record { printed = numbers-printed sizes are.each; significant = refl }

class-printed : (class : ClassName) (ts : List (List ℕ)) → list_all is_printed ts ≡ true → IsPrintedLine (codes "class" ∷ class_word class ∷ ts)
class-printed class ts rest = record { printed = also (class_word class) ts (class_word-printed class) rest; significant = refl }

instance-printed : (name : List ℕ) (ts : List (List ℕ)) → is_name name ≡ true → list_all is_printed ts ≡ true → IsPrintedLine (codes "instance" ∷ name ∷ ts)
instance-printed name ts named rest = record { printed = also name ts (is_printed-name name named) rest; significant = refl }

alone : (tokens : List (List ℕ)) → IsPrintedLine tokens → All IsPrintedLine (tokens ∷ [])
alone tokens line = All-cons IsPrintedLine tokens [] line (All-nil IsPrintedLine)

-- each line of a printable item
pub item-printed : (it : Item) → IsPrintable it → All IsPrintedLine (item_lines it)
item-printed (item.ClassTable class cells) is = alone (first_tokens (item.ClassTable class cells)) (class-printed class (map decimal cells) (values-printed 625 cells is))
item-printed (item.ClassNone class) is = alone (first_tokens (item.ClassNone class)) (class-printed class (codes "none" ∷ []) refl)
item-printed item.ClassBeyond is = alone (first_tokens item.ClassBeyond) (class-printed Nu4 (codes "beyond" ∷ []) refl)
item-printed (item.Yes name class values) is =
    alone (first_tokens (item.Yes name class values)) (instance-printed name (codes "yes" ∷ class_word class ∷ map decimal values) is.named (also (class_word class) (map decimal values) (class_word-printed class) (values-printed 40 values is.solution)))
item-printed (item.YesSizes name values sizes) is =
    All-cons IsPrintedLine (first_tokens (item.YesSizes name values sizes)) (sizes_tokens sizes ∷ [])
    (instance-printed name (codes "yes" ∷ class_word Maltsev ∷ map decimal values) is.named (values-printed 40 values is.solution))
    (alone (sizes_tokens sizes) (sizes-printed sizes is.sized))
item-printed (item.NoLog name class log) is =
    let short : length log < 10 ^ 9 = let few = is.steps.few in omega arith in
    All-cons IsPrintedLine (first_tokens (item.NoLog name class log)) (map step_tokens log)
    (instance-printed name (codes "no" ∷ class_word class ∷ decimal (length log) ∷ []) is.named (also (class_word class) (decimal (length log) ∷ []) (class_word-printed class) (number_first (length log) [] short refl)))
    (All-map IsPrintedLine step_tokens log (λ k d inside. step-printed (get_or log k d) (is.steps.each k d inside)))
item-printed (item.NoSum name sum) is =
    let short : length sum.parts < 10 ^ 9 = let few = is.combination.parts.few in omega arith in
    All-cons IsPrintedLine (first_tokens (item.NoSum name sum)) (map part_tokens sum.parts)
    (instance-printed name (codes "no" ∷ class_word Affine ∷ decimal (length sum.parts) ∷ map decimal sum.labels) is.named (number_first (length sum.parts) (map decimal sum.labels) short (values-printed 5 sum.labels is.combination.labels)))
    (All-map IsPrintedLine part_tokens sum.parts (λ k d inside. part-printed (get_or sum.parts k d) (is.combination.parts.each k d inside)))
item-printed (item.NoSizes name sizes) is =
    All-cons IsPrintedLine (first_tokens (item.NoSizes name sizes)) (sizes_tokens sizes ∷ [])
    (instance-printed name (codes "no" ∷ class_word Maltsev ∷ []) is.named refl)
    (alone (sizes_tokens sizes) (sizes-printed sizes is.sized))
item-printed (item.Undecided name) is = alone (first_tokens (item.Undecided name)) (instance-printed name (codes "undecided" ∷ []) is refl)

-- and the last line
pub lines_to_end-printed : (items : List Item) → All IsPrintable items → All IsPrintedLine (lines_to_end items)
lines_to_end-printed [] are = alone end_tokens (record { printed = refl; significant = refl })
lines_to_end-printed (it ∷ items) are =
    subst (All IsPrintedLine) (sym (append_assoc (item_lines it) (flat_map item_lines items) (end_tokens ∷ [])))
    (All-append IsPrintedLine (item_lines it) (lines_to_end items) (item-printed it (All-head IsPrintable it items are)) (lines_to_end-printed items (All-tail IsPrintable it items are)))
