-- The texts of the items of a report: lines of tokens with one space between them.
use Rattle.std.specs.Prelude.{ℕ, List, [], ◌∷◌, ◌++◌, length, map, flat_map, codes, decimal}
use Rattle.pol_base.specs.declared.class_name.ClassName.{ClassName}
use Rattle.pol_base.specs.declared.class_name.ClassName.TheVariants.{Affine, Maltsev, Nu4}
use Rattle.pol_base.specs.Names.{class_word}
use Rattle.pol_text.specs.Texts.{joined, printed_line}
use Rattle.pol_nogood.specs.Nogoods.{Pair}
use Rattle.pol_nogood.specs.Logs.{Basis, StepView}
use Rattle.pol_modp.specs.Combinations.{PartView, CombinationView}
use Rattle.pol_report.specs.declared.item.Item.{Item}
use Rattle.pol_report.specs.declared.item.Item.TheVariants as item

-- the line before the items
abbrev pub head_line : List ℕ
head_line = printed_line (codes "polyanna-report" ∷ codes "1" ∷ [])

-- the line behind them
abbrev pub last_line : List ℕ
last_line = printed_line (codes "end" ∷ [])

-- the item of a class: the cells of its table, `none` or `beyond`
abbrev pub class_item : ClassName → List (List ℕ) → List ℕ
class_item class tokens = printed_line (codes "class" ∷ class_word class ∷ tokens)

-- a line of an instance
abbrev pub instance_line : List ℕ → List (List ℕ) → List ℕ
instance_line name tokens = printed_line (codes "instance" ∷ name ∷ tokens)

-- what a step rests on: `c` and a constraint, or `v` and a variable
abbrev pub basis_tokens : Basis → List (List ℕ)
basis_tokens (Basis.ByConstraint c) = codes "c" ∷ decimal c ∷ []
basis_tokens (Basis.ByVariable v) = codes "v" ∷ decimal v ∷ []

-- the variable and the value of a pair
abbrev pub pair_tokens : Pair → List (List ℕ)
pair_tokens p = decimal p.variable ∷ decimal p.value ∷ []

-- the pairs of a nogood behind their number
abbrev pub nogood_tokens : List Pair → List (List ℕ)
nogood_tokens nogood = decimal (length nogood) ∷ flat_map pair_tokens nogood

-- the references of a step behind their number
abbrev pub reference_tokens : List ℕ → List (List ℕ)
reference_tokens references = decimal (length references) ∷ map decimal references

-- what the step rests on, its pairs and its references
abbrev pub step_line : StepView → List ℕ
step_line s = printed_line (basis_tokens s.basis ++ nogood_tokens s.nogood ++ reference_tokens s.references)

-- the item of a solution, found by the method of the class
abbrev pub yes_item : List ℕ → ClassName → List ℕ → List ℕ
yes_item name class values = instance_line name (codes "yes" ∷ class_word class ∷ map decimal values)

-- the item of a No: how many steps its log has, and the steps
abbrev pub no_item : List ℕ → ClassName → List StepView → List ℕ
no_item name class log =
    instance_line name (codes "no" ∷ class_word class ∷ decimal (length log) ∷ []) ++ joined step_line log

-- the constraint of a part, its multiplier, the right side of its equation, and the coefficients
abbrev pub part_line : PartView → List ℕ
part_line p =
    printed_line
    (codes "part" ∷ decimal p.constraint ∷ decimal p.multiplier ∷ decimal p.right ∷ map decimal p.coefs)

-- the item of a No by a combination: how many parts it has, the labels of the values, and the parts
abbrev pub no_sum_item : List ℕ → CombinationView → List ℕ
no_sum_item name sum =
    instance_line name (codes "no" ∷ class_word Affine ∷ decimal (length sum.parts) ∷ map decimal sum.labels)
    ++ joined part_line sum.parts

-- the sizes of a run, behind the line of its instance
abbrev pub sizes_line : List ℕ → List ℕ
sizes_line sizes = printed_line (codes "sizes" ∷ map decimal sizes)

-- the item of a solution of the class `maltsev`, with the sizes
abbrev pub yes_sizes_item : List ℕ → List ℕ → List ℕ → List ℕ
yes_sizes_item name values sizes = yes_item name Maltsev values ++ sizes_line sizes

-- the item of a No of the class `maltsev`, with the sizes
abbrev pub no_sizes_item : List ℕ → List ℕ → List ℕ
no_sizes_item name sizes = instance_line name (codes "no" ∷ class_word Maltsev ∷ []) ++ sizes_line sizes

-- the item of an instance that is not answered
abbrev pub undecided_item : List ℕ → List ℕ
undecided_item name = instance_line name (codes "undecided" ∷ [])

-- the text of the item
abbrev pub item_text : Item → List ℕ
item_text (item.ClassTable class cells) = class_item class (map decimal cells)
item_text (item.ClassNone class) = class_item class (codes "none" ∷ [])
item_text item.ClassBeyond = class_item Nu4 (codes "beyond" ∷ [])
item_text (item.Yes name class values) = yes_item name class values
item_text (item.YesSizes name values sizes) = yes_sizes_item name values sizes
item_text (item.NoLog name class log) = no_item name class log
item_text (item.NoSum name combination) = no_sum_item name combination
item_text (item.NoSizes name sizes) = no_sizes_item name sizes
item_text (item.Undecided name) = undecided_item name
