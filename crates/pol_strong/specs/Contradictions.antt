-- Nogoods that contain a nogood of a log, and the values that are open beside a nogood.
use Rattle.std.specs.Prelude.{◌≡◌, ◌≢◌, ◌<◌, ℕ, List, [], ◌∷◌, ◌++◌, length, All}
use Rattle.std.specs.Prelude.{Contains, true, IsBitSet, ◌↔◌}
use Rattle.std.specs.List.{range_with_len}
use Rattle.pol_relation.specs.Relations.{LanguageView, rows_of}
use Rattle.pol_relation.specs.Instances.{ConstraintView}
use Rattle.pol_nogood.specs.Nogoods.{Pair, IsContained}
use Rattle.pol_nogood.specs.Logs.{StepView, nogood_at, reading, value_case, is_case}

-- the nogood of some step of the log is contained in it
pub record IsContradicted (log : List StepView) (nogood : List Pair) : Type 0 where
  pub step : ℕ
  pub known : step < length log
  pub within : IsContained (nogood_at log step) nogood

-- a value of the variable with which the nogood still contains none of the log
pub record IsOpen (d : ℕ) (log : List StepView) (nogood : List Pair) (v : ℕ) : Type 0 where
  pub value : ℕ
  pub below : value < d
  pub free : ¬ IsContradicted log (nogood ++ value_case v value)

-- each variable that the nogood does not name has such a value
abbrev pub AreOpen : (n d : ℕ) → List StepView → List Pair → Type 0
AreOpen n d log nogood = (v : ℕ) → v < n → All (λ p. p.variable ≢ v) nogood → IsOpen d log nogood v

-- a row of the constraint that agrees with the nogood, and reads one value for each variable
pub record HasCase (lang : LanguageView) (c : ConstraintView) (nogood : List Pair) : Type 0 where
  pub row : List ℕ
  pub listed : Contains (rows_of lang c.relation) row
  pub is : is_case c.scope nogood row ≡ true

-- the pairs of the first variables with the values
abbrev pub given : List ℕ → List Pair
given values = reading (range_with_len 0 (length values)) values

-- the values of the first variables hold no nogood of the log
abbrev pub Avoids : List StepView → List ℕ → Type 0
Avoids log values = ¬ IsContradicted log (given values)

-- with the value of the next variable they hold the nogood, and with no other
pub record Completes (nogood : List Pair) (values : List ℕ) (value : ℕ) : Type 0 where
  pub completed : IsContained nogood (given (values ++ value ∷ []))
  pub only : (other : ℕ) → IsContained nogood (given (values ++ other ∷ [])) → other ≡ value

-- whatever the value of the next variable is, they hold the nogood only where they do without it
abbrev pub IsIndifferent : List Pair → List ℕ → Type 0
IsIndifferent nogood values =
    (value : ℕ)
    → IsContained nogood (given (values ++ value ∷ []))
    → IsContained nogood (given values)

-- the mask has the values of the next variable with which none of the first nogoods is held
abbrev pub AreOpenNext : (d : ℕ) → List StepView → (count : ℕ) → (values : List ℕ)
    → (mask : ℕ) → Type 0
AreOpenNext d log count values mask =
    (value : ℕ)
    → IsBitSet mask value
    ↔ ((value < d) × ((s : ℕ) → s < count → ¬ IsContained (nogood_at log s) (given (values ++ value ∷ []))))
