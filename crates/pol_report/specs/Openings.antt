-- How the first line of an item is read: it is the whole item, or says what the lines behind it have to be.
use Rattle.std.specs.Prelude.{ℕ, Bool, true, false, ◌&&◌, if◌then◌else◌}
use Rattle.std.specs.Prelude.{List, [], ◌∷◌, Result, Ok, Err, codes}
use Rattle.pol_base.specs.declared.class_name.ClassName.{ClassName}
use Rattle.pol_base.specs.declared.class_name.ClassName.TheVariants.{Nu4, Affine, Maltsev}
use Rattle.pol_base.specs.Lists.{is_same}
use Rattle.pol_text.specs.Reading.{unless}
use Rattle.pol_text.specs.declared.word.Word.{Word}
use Rattle.pol_text.specs.declared.word.Word.TheVariants.{BadLine, TooManyItems, TooManySteps, TooManyParts}
use Rattle.pol_report.specs.declared.item.Item.TheVariants as item
use Rattle.pol_report.specs.declared.opening.Opening.{Opening}
use Rattle.pol_report.specs.declared.opening.Opening.TheVariants.{Whole, Steps, Parts, SizesOfYes, SizesOfNo}
use Rattle.pol_report.specs.declared.opening.Subject.{Subject}
use Rattle.pol_report.specs.declared.opening.Subject.TheVariants as subject
use Rattle.pol_report.specs.declared.opening.Answer.{Answer}
use Rattle.pol_report.specs.declared.opening.Answer.TheVariants as answer
use Rattle.pol_report.specs.Limits.{most_parts}
use Rattle.pol_report.specs.Tokens.{after, one, to_end, some_to_end, nothing_left}
use Rattle.pol_report.specs.Tokens.{as_value, as_count, as_name, as_class}

-- ---- lines of classes

-- whether it is the class of near-unanimity of arity four, whose line alone may say `beyond`
abbrev pub is_nu4 : ClassName → Bool
is_nu4 Nu4 = true
is_nu4 class = false

-- behind `class CLASS`
unfoldable pub table_from : ClassName → List (List ℕ) → Result Opening Word
table_from class [] = Err BadLine
table_from class (t ∷ ts) =
    if is_same t (codes "none") then nothing_left ts (Whole (item.ClassNone class)) else
    if is_same t (codes "beyond") && is_nu4 class then nothing_left ts (Whole item.ClassBeyond) else
    after (to_end as_value 625 (t ∷ ts)) (λ cells.
    Ok (Whole (item.ClassTable class cells)))

-- behind `class`
unfoldable pub class_from : List (List ℕ) → Result Opening Word
class_from tokens =
    after (one as_class tokens) (λ class.
    table_from class.0 class.1)

-- ---- lines of instances

-- a Yes of the class
abbrev pub yes_of : List ℕ → ClassName → List ℕ → Opening
yes_of name Maltsev values = SizesOfYes name values
yes_of name class values = Whole (item.Yes name class values)

-- behind `instance NAME yes`
unfoldable pub yes_from : List ℕ → List (List ℕ) → Result Opening Word
yes_from name tokens =
    after (one as_class tokens) (λ class.
    after (some_to_end as_value 40 class.1) (λ values.
    Ok (yes_of name class.0 values)))

-- behind `instance NAME no CLASS`, where so many steps may still be read
unfoldable pub refutation_from : ℕ → List ℕ → ClassName → List (List ℕ) → Result Opening Word
refutation_from left name Maltsev tokens = nothing_left tokens (SizesOfNo name)
refutation_from left name Affine tokens =
    after (one (as_count most_parts TooManyParts) tokens) (λ count.
    after (some_to_end as_value 5 count.1) (λ labels.
    Ok (Parts name labels count.0)))
refutation_from left name class tokens =
    after (one (as_count left TooManySteps) tokens) (λ count.
    nothing_left count.1 (Steps name class count.0))

-- behind `instance NAME no`
unfoldable pub no_from : ℕ → List ℕ → List (List ℕ) → Result Opening Word
no_from left name tokens =
    after (one as_class tokens) (λ class.
    refutation_from left name class.0 class.1)

-- the token behind the name: one of the three answers
unfoldable pub as_answer : List ℕ → Result Answer Word
as_answer t =
    if is_same t (codes "undecided") then Ok answer.Undecided else
    if is_same t (codes "yes") then Ok answer.Yes else
    if is_same t (codes "no") then Ok answer.No else
    Err BadLine

-- behind the answer
abbrev pub answer_from : ℕ → List ℕ → Answer → List (List ℕ) → Result Opening Word
answer_from left name answer.Undecided tokens = nothing_left tokens (Whole (item.Undecided name))
answer_from left name answer.Yes tokens = yes_from name tokens
answer_from left name answer.No tokens = no_from left name tokens

-- behind `instance`
unfoldable pub instance_from : ℕ → List (List ℕ) → Result Opening Word
instance_from left tokens =
    after (one as_name tokens) (λ name.
    after (one as_answer name.1) (λ answer.
    answer_from left name.0 answer.0 answer.1))

-- ---- both

-- the first token of an item: what it speaks of
unfoldable pub as_subject : List ℕ → Result Subject Word
as_subject t =
    if is_same t (codes "class") then Ok subject.Class else
    if is_same t (codes "instance") then Ok subject.Instance else
    Err BadLine

-- behind the subject
abbrev pub subject_from : ℕ → Subject → List (List ℕ) → Result Opening Word
subject_from left subject.Class tokens = class_from tokens
subject_from left subject.Instance tokens = instance_from left tokens

-- the first line of an item, where an item may still be read or not, and so many steps
unfoldable pub opening_from : Bool → ℕ → List (List ℕ) → Result Opening Word
opening_from room left tokens =
    after (one as_subject tokens) (λ subject.
    unless room TooManyItems
    (subject_from left subject.0 subject.1))
