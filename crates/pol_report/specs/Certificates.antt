-- How the lines of certificates are read: steps of logs, parts of combinations, and sizes.
use Rattle.std.specs.Prelude.{ℕ, if◌then◌else◌, List, Result, Ok, Err, codes}
use Rattle.pol_base.specs.Lists.{is_same}
use Rattle.pol_text.specs.declared.word.Word.{Word}
use Rattle.pol_text.specs.declared.word.Word.TheVariants.{BadLine}
use Rattle.pol_nogood.specs.Nogoods.{Pair}
use Rattle.pol_nogood.specs.Logs.{Basis, StepView}
use Rattle.pol_modp.specs.Combinations.{PartView}
use Rattle.pol_report.specs.Tokens.{after, one, listed, some_to_end, nothing_left, as_number, as_value, as_keyword}

-- a variable and a value
abbrev pub pair_from : List (List ℕ) → Result (Pair × List (List ℕ)) Word
pair_from tokens =
    after (one as_number tokens) (λ variable.
    after (one as_value variable.1) (λ value.
    Ok (record { variable = variable.0; value = value.0 }, value.1)))

-- `c` or `v`, behind which the number of what the step rests on comes
unfoldable pub as_basis : List ℕ → Result (ℕ → Basis) Word
as_basis t =
    if is_same t (codes "c") then Ok Basis.ByConstraint else
    if is_same t (codes "v") then Ok Basis.ByVariable else
    Err BadLine

-- `c C` or `v V`, the pairs behind their number, and the references behind their number
unfoldable pub step_from : List (List ℕ) → Result StepView Word
step_from tokens =
    after (one as_basis tokens) (λ basis.
    after (one as_number basis.1) (λ number.
    after (listed 3 pair_from number.1) (λ nogood.
    after (listed 128 (one as_number) nogood.1) (λ references.
    nothing_left references.1
    (record { basis = basis.0 number.0; nogood = nogood.0; references = references.0 })))))

-- `part C M B A1 .. An`
unfoldable pub part_from : List (List ℕ) → Result PartView Word
part_from tokens =
    after (one (as_keyword (codes "part")) tokens) (λ keyword.
    after (one as_number keyword.1) (λ constraint.
    after (one as_value constraint.1) (λ multiplier.
    after (one as_value multiplier.1) (λ right.
    after (some_to_end as_value 6 right.1) (λ coefs.
    Ok (record { constraint = constraint.0; multiplier = multiplier.0; right = right.0; coefs = coefs }))))))

-- `sizes N1 .. Nk`
unfoldable pub sizes_from : List (List ℕ) → Result (List ℕ) Word
sizes_from tokens =
    after (one (as_keyword (codes "sizes")) tokens) (λ keyword.
    some_to_end as_number 257 keyword.1)
