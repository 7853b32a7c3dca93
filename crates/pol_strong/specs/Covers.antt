-- What goes on from a front within the scope of a constraint, and the rows of its relation that are cases.
use Rattle.std.specs.Prelude.{◌≡◌, ◌==◌, ℕ, ◌+◌, ◌-◌, ◌<◌, ◌≤◌, suc, true, List, []}
use Rattle.std.specs.Prelude.{◌∷◌, ◌++◌, length}
use Rattle.std.specs.Prelude.{slice_index, slice_index_or, All, Contains, if◌then◌else◌}
use Rattle.pol_relation.specs.Relations.{LanguageView, rows_of}
use Rattle.pol_relation.specs.Instances.{InstanceView, ConstraintView}
use Rattle.pol_nogood.specs.Nogoods.{Pair, IsNogood}
use Rattle.pol_nogood.specs.Logs.{StepView, value_case, is_case}
use Rattle.pol_strong.specs.Contradictions.{IsContradicted, HasCase}
use Rattle.pol_strong.specs.Stores.{StoreView}
use Rattle.pol_strong.specs.Sweeps.{IsDeleting}

-- the first place of the variable
abbrev pub first_place : List ℕ → ℕ → ℕ
first_place [] x = 0
first_place (y ∷ scope) x = if y == x then 0 else suc (first_place scope x)

-- the row with the number
abbrev pub row_at : List (List ℕ) → ℕ → List ℕ
row_at rows r = slice_index_or rows r []

-- the numbers of the rows that agree with the nogood, and read one value for each variable of the scope
pub record AreCases (rows : List (List ℕ)) (scope : List ℕ) (nogood : List Pair) (numbers : List ℕ) : Type 0 where
  pub known : All (λ r. r < length rows) numbers
  pub cases : All (λ r. is_case scope nogood (row_at rows r) ≡ true) numbers
  pub all : (r : ℕ) → r < length rows → is_case scope nogood (row_at rows r) ≡ true → Contains numbers r

-- one of the rows has the value at the place
pub record HasRow (rows : List (List ℕ)) (numbers : List ℕ) (place a : ℕ) : Type 0 where
  pub number : ℕ
  pub listed : Contains numbers number
  pub value : slice_index (row_at rows number) place ≡ a

-- all that goes on from the front, by at most so many pairs of variables of the scope from low on, contains a
-- deleted nogood or has a case of the constraint
abbrev pub CoversFrom : LanguageView → InstanceView → ConstraintView
    → (front : List Pair) → (low most : ℕ) → List StepView → Type 0
CoversFrom lang inst c front low most log =
    (more : List Pair)
    → IsNogood (length inst.variables) lang.domain (front ++ more)
    → All (λ p. low ≤ p.variable) more
    → All (λ p. Contains c.scope p.variable) more
    → length more ≤ most
    → ¬ IsContradicted log (front ++ more)
    → HasCase lang c (front ++ more)

-- the same for what goes on with this variable and value
abbrev pub CoversWith : LanguageView → InstanceView → ConstraintView
    → (front : List Pair) → (x a most : ℕ) → List StepView → Type 0
CoversWith lang inst c front x a most log = CoversFrom lang inst c (front ++ value_case x a) (x + 1) (most - 1) log

-- the same for all variables of the scope from low on and below x, with any value
abbrev pub CoversBefore : LanguageView → InstanceView → ConstraintView
    → (front : List Pair) → (low x most : ℕ) → List StepView → Type 0
CoversBefore lang inst c front low x most log =
    (y a : ℕ) → low ≤ y → y < x → Contains c.scope y → a < lang.domain
    → CoversWith lang inst c front y a most log

-- the same for the first values of a variable
abbrev pub CoversBelow : LanguageView → InstanceView → ConstraintView
    → (front : List Pair) → (x a most : ℕ) → List StepView → Type 0
CoversBelow lang inst c front x a most log = (b : ℕ) → b < a → CoversWith lang inst c front x b most log

-- rows that are cases of the front joined with the pair, behind which a further pair may stand
pub record GoesOn (lang : LanguageView) (c : ConstraintView) (front : List Pair) (x a most : ℕ)
    (rows : List ℕ) : Type 0 where
  pub more : 2 ≤ most
  pub cases : AreCases (rows_of lang c.relation) c.scope (front ++ value_case x a) rows
  pub case : HasCase lang c (front ++ value_case x a)

-- there are more steps or as many, and this holds of the log
pub record Adds (lang : LanguageView) (inst : InstanceView) (Covered : List StepView → Type 0)
    (old new : StoreView) : Type 0 where
  pub deleting : IsDeleting lang inst new
  pub most : new.most ≡ old.most
  pub kept : (nogood : List Pair) → IsContradicted old.log nogood → IsContradicted new.log nogood
  pub covered : Covered new.log
