-- How a checker walks the cases of a step beside its references.
use Rattle.std.proofs.Common.{◌≡◌, true, List, [], ◌∷◌, refl, ℕ, ◌+◌, ◌<◌, cond, length, map, filter, get_or, drop, ap, false, ◌∙◌, ◌-◌, suc, arith}
use Rattle.std.specs.List.{range_with_len}
use Rattle.std.proofs.lemmas.Bool.{cond-false, cond-true}
use Rattle.std.proofs.lemmas.List.{drop_more}
use Rattle.pol_nogood.specs.Nogoods.{Pair}
use Rattle.pol_nogood.specs.Logs.{StepView, reading, is_case, row_cases, value_case}
use Rattle.pol_nogood.specs.LogFaults.{covered}

pub no_references : (earlier : List StepView) (nogood : List Pair) (cases : List (List Pair)) → covered earlier nogood cases [] ≡ true
no_references earlier nogood [] = refl
no_references earlier nogood (one ∷ cases) = refl

-- the cases of the rows that are left

row_cases-front : (scope : List ℕ) (nogood : List Pair) (rows : List (List ℕ)) (i : ℕ) (d : List ℕ) → i < length rows → row_cases scope nogood (drop i rows) ≡ map (reading scope) (cond (is_case scope nogood (get_or rows i d)) (get_or rows i d ∷ filter (is_case scope nogood) (drop (i + 1) rows)) (filter (is_case scope nogood) (drop (i + 1) rows)))
row_cases-front scope nogood rows i d inside = ap (row_cases scope nogood) (drop_more rows i d inside)

pub row_cases-skip : (scope : List ℕ) (nogood : List Pair) (rows : List (List ℕ)) (i : ℕ) (d : List ℕ) → i < length rows → is_case scope nogood (get_or rows i d) ≡ false → row_cases scope nogood (drop i rows) ≡ row_cases scope nogood (drop (i + 1) rows)
row_cases-skip scope nogood rows i d inside excluded =
    let rest = filter (is_case scope nogood) (drop (i + 1) rows) in
    row_cases-front scope nogood rows i d inside ∙ ap (map (reading scope)) (cond-false (is_case scope nogood (get_or rows i d)) (get_or rows i d ∷ rest) rest excluded)

pub row_cases-next : (scope : List ℕ) (nogood : List Pair) (rows : List (List ℕ)) (i : ℕ) (d : List ℕ) → i < length rows → is_case scope nogood (get_or rows i d) ≡ true → row_cases scope nogood (drop i rows) ≡ reading scope (get_or rows i d) ∷ row_cases scope nogood (drop (i + 1) rows)
row_cases-next scope nogood rows i d inside is =
    let rest = filter (is_case scope nogood) (drop (i + 1) rows) in
    row_cases-front scope nogood rows i d inside ∙ ap (map (reading scope)) (cond-true (is_case scope nogood (get_or rows i d)) (get_or rows i d ∷ rest) rest is)

-- the variable with the values from a on
abbrev pub values_from : ℕ → ℕ → ℕ → List (List Pair)
values_from v d a = map (value_case v) (range_with_len a (d - a))

pub values_from-next : (v d a : ℕ) → a < d → values_from v d a ≡ value_case v a ∷ values_from v d (a + 1)
values_from-next v d a less = let left : d - a ≡ suc (d - (a + 1)) = omega arith in ap (λ n. map (value_case v) (range_with_len a n)) left
