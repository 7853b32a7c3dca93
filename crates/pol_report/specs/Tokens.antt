-- How the tokens of a line are read, one by one from the left: the first that does not fit gives the word.
-- A reader gives what it read, and what is left behind it.
use Rattle.std.specs.Prelude.{ℕ, zero, suc, nat_le, Bool, true, false}
use Rattle.std.specs.Prelude.{if◌then◌else◌, List, [], ◌∷◌, Result, Ok, Err}
use Rattle.pol_base.specs.declared.class_name.ClassName.{ClassName}
use Rattle.pol_base.specs.declared.class_name.ClassName.TheVariants.{Constant, Semilattice, SetFunction, Majority}
use Rattle.pol_base.specs.declared.class_name.ClassName.TheVariants.{Nu4, Affine, Maltsev}
use Rattle.pol_base.specs.Lists.{is_same}
use Rattle.pol_base.specs.Names.{class_word}
use Rattle.pol_text.specs.Lines.{number_of, is_name}
use Rattle.pol_text.specs.Reading.{unless, after_number}
use Rattle.pol_text.specs.declared.word.Word.{Word}
use Rattle.pol_text.specs.declared.word.Word.TheVariants.{BadLine, BadNumber, BadName, ValueOutside}

-- ---- readers

-- what comes next with what was read, and else the refusal
abbrev pub after : {A B E : Type 0} → Result A E → (A → Result B E) → Result B E
after (Err refusal) next = Err refusal
after (Ok read) next = next read

-- the first token as it is judged
abbrev pub one : {A : Type 0} → (List ℕ → Result A Word) → List (List ℕ)
    → Result (A × List (List ℕ)) Word
one judge [] = Err BadLine
one judge (t ∷ ts) = after (judge t) (λ x. Ok (x, ts))

-- so many, one behind another: of the tokens of a line, or of lines
abbrev pub counted : {A R E : Type 0} → (R → Result (A × R) E) → ℕ → R → Result (List A × R) E
counted read zero rest = Ok ([], rest)
counted read (suc n) rest =
    after (read rest) (λ first.
    after (counted read n first.1) (λ more.
    Ok (first.0 ∷ more.0, more.1)))

-- the tokens that are left, at most so many, each as it is judged
abbrev pub to_end : {A : Type 0} → (List ℕ → Result A Word) → ℕ → List (List ℕ) → Result (List A) Word
to_end judge most [] = Ok []
to_end judge zero (t ∷ ts) = Err BadLine
to_end judge (suc most) (t ∷ ts) =
    after (judge t) (λ x.
    after (to_end judge most ts) (λ xs.
    Ok (x ∷ xs)))

-- at least one
abbrev pub some_to_end : {A : Type 0} → (List ℕ → Result A Word) → ℕ → List (List ℕ)
    → Result (List A) Word
some_to_end judge most [] = Err BadLine
some_to_end judge most (t ∷ ts) = to_end judge most (t ∷ ts)

-- no token is left
abbrev pub is_done : List (List ℕ) → Bool
is_done [] = true
is_done (t ∷ ts) = false

-- what was read, where the line ends behind it
abbrev pub nothing_left : {A : Type 0} → List (List ℕ) → A → Result A Word
nothing_left tokens x = unless (is_done tokens) BadLine (Ok x)

-- ---- what one token says

-- a number of at most nine digits
unfoldable pub as_number : List ℕ → Result ℕ Word
as_number t =
    after_number (number_of t) BadNumber (λ n.
    Ok n)

-- a value of some domain
unfoldable pub as_value : List ℕ → Result ℕ Word
as_value t =
    after_number (number_of t) BadNumber (λ n.
    unless (nat_le n 4) ValueOutside
    (Ok n))

-- a number that is at most so great, and else the word
unfoldable pub as_count : ℕ → Word → List ℕ → Result ℕ Word
as_count most word t =
    after_number (number_of t) BadNumber (λ n.
    unless (nat_le n most) word
    (Ok n))

-- a name
unfoldable pub as_name : List ℕ → Result (List ℕ) Word
as_name t = unless (is_name t) BadName (Ok t)

-- this keyword
unfoldable pub as_keyword : List ℕ → List ℕ → Result (List ℕ) Word
as_keyword keyword t = unless (is_same t keyword) BadLine (Ok t)

-- the first of the classes whose word the token is
abbrev pub class_among : List ClassName → List ℕ → Result ClassName Word
class_among [] t = Err BadLine
class_among (class ∷ classes) t = if is_same t (class_word class) then Ok class else class_among classes t

-- the word of a class
unfoldable pub as_class : List ℕ → Result ClassName Word
as_class t = class_among (Constant ∷ Semilattice ∷ SetFunction ∷ Majority ∷ Nu4 ∷ Affine ∷ Maltsev ∷ []) t

-- ---- lists behind their number

-- a number that is at most so great, and as many behind it
abbrev pub listed : {A : Type 0} → ℕ → (List (List ℕ) → Result (A × List (List ℕ)) Word)
    → List (List ℕ) → Result (List A × List (List ℕ)) Word
listed most read tokens =
    after (one (as_count most BadLine) tokens) (λ count.
    counted read count.0 count.1)
