-- The tokens of a printed line of a certificate are read again as what they were printed of.
use Rattle.std.proofs.Common.{◌≡◌, ℕ, zero, suc, ◌<◌, ◌≤◌, ◌^◌, true, List, [], ◌∷◌, ◌++◌, length, map, flat_map, All, Result, Ok, refl, sym, ap, ◌∙◌, arith, decimal, append_assoc, append-nil}
use Rattle.std.proofs.lemmas.Bool.{le-leb}
use Rattle.std.proofs.lemmas.List.Concat.{flat_map_single}
use Rattle.std.proofs.lemmas.List.Elements.{All-head, All-tail}
use Rattle.pol_base.specs.declared.class_name.ClassName.{ClassName}
use Rattle.pol_base.specs.declared.class_name.ClassName.TheVariants.{Constant, Semilattice, SetFunction, Majority, Nu4, Affine, Maltsev}
use Rattle.pol_base.specs.Names.{class_word}
use Rattle.pol_text.specs.Lines.{is_name}
use Rattle.pol_text.specs.declared.word.Word.{Word}
use Rattle.pol_text.specs.declared.word.Word.TheVariants.{BadLine}
use Rattle.pol_text.proofs.PrintedLines.{number_of-decimal}
use Rattle.pol_nogood.specs.Nogoods.{Pair}
use Rattle.pol_nogood.specs.Logs.{Basis, StepView}
use Rattle.pol_modp.specs.Combinations.{PartView}
use Rattle.pol_report.specs.Texts.{basis_tokens, pair_tokens, nogood_tokens, reference_tokens}
use Rattle.pol_report.specs.Printable.{AreValues, IsShort, basis_number, IsPrintablePair, ArePrintablePairs, ArePrintableReferences, IsPrintableStep, IsPrintablePart, ArePrintableSizes}
use Rattle.pol_report.specs.Tokens.{one, counted, to_end, some_to_end, as_number, as_value, as_count, as_name, as_keyword, as_class, listed}
use Rattle.pol_report.specs.Certificates.{pair_from, as_basis, step_from, part_from, sizes_from}
use Rattle.pol_report.proofs.ItemLines.{step_tokens, part_tokens, sizes_tokens, value-short}

-- ---- one token

pub as_number-decimal : (n : ℕ) → IsShort n → as_number (decimal n) ≡ Ok n
unfolding as_number
as_number-decimal n short = rw (number_of-decimal n short) refl

pub as_value-decimal : (v : ℕ) → v ≤ 4 → as_value (decimal v) ≡ Ok v
unfolding as_value
as_value-decimal v value = rw (number_of-decimal v (value-short v value), le-leb v 4 value) refl

pub as_count-decimal : (most : ℕ) (word : Word) (n : ℕ) → most < 10 ^ 9 → n ≤ most → as_count most word (decimal n) ≡ Ok n
unfolding as_count
as_count-decimal most word n small few = rw (number_of-decimal n (omega arith), le-leb n most few) refl

pub as_name-name : (name : List ℕ) → is_name name ≡ true → as_name name ≡ Ok name
unfolding as_name
as_name-name name named = rw named refl

pub as_class-word : (class : ClassName) → as_class (class_word class) ≡ Ok class
unfolding as_class
as_class-word Constant = refl
as_class-word Semilattice = refl
as_class-word SetFunction = refl
as_class-word Majority = refl
as_class-word Nu4 = refl
as_class-word Affine = refl
as_class-word Maltsev = refl

-- ---- several tokens

-- what is spelled is read again, whatever stands behind it
abbrev IsReadAgain : {A : Type 0} → (List (List ℕ) → Result (A × List (List ℕ)) Word) → (A → List (List ℕ)) → (A → Type 0) → Type 0
IsReadAgain {A} read spell Fits = (x : A) (rest : List (List ℕ)) → Fits x → read (spell x ++ rest) ≡ Ok (x, rest)

counted-spelled : {A : Type 0} (read : List (List ℕ) → Result (A × List (List ℕ)) Word) (spell : A → List (List ℕ)) (Fits : A → Type 0) → IsReadAgain read spell Fits → (xs : List A) (rest : List (List ℕ)) → All Fits xs → counted read (length xs) (flat_map spell xs ++ rest) ≡ Ok (xs, rest)
counted-spelled read spell Fits again [] rest each = refl
counted-spelled read spell Fits again (x ∷ xs) rest each =
    let apart = append_assoc (spell x) (flat_map spell xs) rest in
    let first = again x (flat_map spell xs ++ rest) (All-head Fits x xs each) in
    let later = counted-spelled read spell Fits again xs rest (All-tail Fits x xs each) in
    rw (apart, first, later) refl

-- behind their number
listed-spelled : {A : Type 0} (most : ℕ) (read : List (List ℕ) → Result (A × List (List ℕ)) Word) (spell : A → List (List ℕ)) (Fits : A → Type 0) → most < 10 ^ 9 → IsReadAgain read spell Fits → (xs : List A) (rest : List (List ℕ)) → length xs ≤ most → All Fits xs → listed most read (decimal (length xs) ∷ (flat_map spell xs ++ rest)) ≡ Ok (xs, rest)
listed-spelled most read spell Fits small again xs rest few each = rw (as_count-decimal most BadLine (length xs) small few) (counted-spelled read spell Fits again xs rest each)

-- a judge reads the tokens of numbers as the numbers
abbrev pub IsJudgedAgain : (List ℕ → Result ℕ Word) → (ℕ → Type 0) → Type 0
IsJudgedAgain judge Fits = (n : ℕ) → Fits n → judge (decimal n) ≡ Ok n

pub to_end-decimals : (judge : List ℕ → Result ℕ Word) (Fits : ℕ → Type 0) → IsJudgedAgain judge Fits → (most : ℕ) (xs : List ℕ) → length xs ≤ most → All Fits xs → to_end judge most (map decimal xs) ≡ Ok xs
to_end-decimals judge Fits again most [] few each = refl
to_end-decimals judge Fits again zero (x ∷ xs) few each = absurd (omega arith)
to_end-decimals judge Fits again (suc most) (x ∷ xs) few each =
    rw (again x (All-head Fits x xs each), to_end-decimals judge Fits again most xs (omega arith) (All-tail Fits x xs each)) refl

some_to_end-decimals : (judge : List ℕ → Result ℕ Word) (Fits : ℕ → Type 0) → IsJudgedAgain judge Fits → (most : ℕ) (xs : List ℕ) → 1 ≤ length xs → length xs ≤ most → All Fits xs → some_to_end judge most (map decimal xs) ≡ Ok xs
some_to_end-decimals judge Fits again most [] some few each = absurd (omega arith)
some_to_end-decimals judge Fits again most (x ∷ xs) some few each = to_end-decimals judge Fits again most (x ∷ xs) few each

pub values-read : (most : ℕ) (values : List ℕ) → AreValues most values → some_to_end as_value most (map decimal values) ≡ Ok values
values-read most values are = some_to_end-decimals as_value (λ v. v ≤ 4) as_value-decimal most values are.some are.few are.each

-- ---- the lines of certificates

pair-again : IsReadAgain pair_from pair_tokens IsPrintablePair
pair-again p rest is = rw (as_number-decimal p.variable is.variable, as_value-decimal p.value is.value) refl

pairs-read : (pairs : List Pair) (rest : List (List ℕ)) → ArePrintablePairs pairs → listed 3 pair_from (decimal (length pairs) ∷ (flat_map pair_tokens pairs ++ rest)) ≡ Ok (pairs, rest)
pairs-read pairs rest are = listed-spelled 3 pair_from pair_tokens IsPrintablePair (omega arith) pair-again pairs rest are.few are.each

number-again : IsReadAgain (one as_number) (λ n. decimal n ∷ []) IsShort
number-again n rest short = rw (as_number-decimal n short) refl

references-read : (references : List ℕ) → ArePrintableReferences references → listed 128 (one as_number) (reference_tokens references) ≡ Ok (references, [])
references-read references are =
    ap (λ tokens. listed 128 (one as_number) (decimal (length references) ∷ tokens)) (sym (append-nil (flat_map (λ n. decimal n ∷ []) references) ∙ flat_map_single decimal references))
    ∙ listed-spelled 128 (one as_number) (λ n. decimal n ∷ []) IsShort (omega arith) number-again references [] are.few are.each

parts_of_step-read : (basis : Basis) (nogood : List Pair) (references : List ℕ) → IsShort (basis_number basis) → ArePrintablePairs nogood → ArePrintableReferences references → step_from (basis_tokens basis ++ nogood_tokens nogood ++ reference_tokens references) ≡ Ok (record { basis = basis; nogood = nogood; references = references })
unfolding step_from as_basis
parts_of_step-read (Basis.ByConstraint c) nogood references short pairs are = rw (as_number-decimal c short, pairs-read nogood (reference_tokens references) pairs, references-read references are) refl
parts_of_step-read (Basis.ByVariable v) nogood references short pairs are = rw (as_number-decimal v short, pairs-read nogood (reference_tokens references) pairs, references-read references are) refl

pub step-read : (s : StepView) → IsPrintableStep s → step_from (step_tokens s) ≡ Ok s
step-read s is = parts_of_step-read s.basis s.nogood s.references is.basis is.pairs is.references

pub part-read : (p : PartView) → IsPrintablePart p → part_from (part_tokens p) ≡ Ok p
unfolding part_from as_keyword
part-read p is = rw (as_number-decimal p.constraint is.constraint, as_value-decimal p.multiplier is.multiplier, as_value-decimal p.right is.right, values-read 6 p.coefs is.coefs) refl

pub sizes-read : (sizes : List ℕ) → ArePrintableSizes sizes → sizes_from (sizes_tokens sizes) ≡ Ok sizes
unfolding sizes_from as_keyword
sizes-read sizes are = some_to_end-decimals as_number IsShort as_number-decimal 257 sizes are.some are.few are.each
