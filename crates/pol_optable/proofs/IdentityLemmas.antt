-- What the identities say of the arguments that a reader would write down.
use Rattle.std.proofs.Common.{◌≡◌, ◌<◌, ◌≤◌, ◌+◌, ◌==◌, ℕ, List, [], ◌∷◌, length, refl, ◌∙◌, true, arith}
use Rattle.std.specs.List.{count_by}
use Rattle.std.proofs.lemmas.List.Elements.{All-nil, All-cons}
use Rattle.pol_base.specs.Tuples.{IsTuple}
use Rattle.pol_optable.specs.Operations.{Operation, operation_of}
use Rattle.pol_optable.specs.Identities.{IsNearUnanimity}
use Rattle.pol_optable.specs.Laws.{IsMajorityAt, table_cells}
use Rattle.pol_optable.specs.ClassLines.{IsTableOf}
use Rattle.pol_optable.proofs.ConstantLemmas.{power_one}
use Rattle.pol_base.specs.declared.class_name.ClassName.{ClassName}
use Rattle.pol_base.specs.declared.class_name.ClassName.TheVariants.{Constant, Semilattice, SetFunction, Majority, Nu4, Affine, Maltsev}
use Rattle.pol_relation.specs.Relations.{LanguageView}

three : (d x y z : ℕ) → x < d → y < d → z < d → IsTuple d 3 (x ∷ y ∷ z ∷ [])
three d x y z x_below y_below z_below = record {
  long = refl;
  below = All-cons (λ v. v < d) x (y ∷ z ∷ []) x_below (All-cons (λ v. v < d) y (z ∷ []) y_below (All-cons (λ v. v < d) z [] z_below (All-nil (λ v. v < d))));
}

same_value : (x : ℕ) → (x == x) ≡ true
same_value x = grind arith

-- two of the three arguments are x
two_last : (x y : ℕ) → 3 ≤ count_by (λ z. z == x) (x ∷ x ∷ y ∷ []) + 1
two_last x y = rw (same_value x) (grind arith)

two_middle : (x y : ℕ) → 3 ≤ count_by (λ z. z == x) (x ∷ y ∷ x ∷ []) + 1
two_middle x y = rw (same_value x) (grind arith)

two_first : (x y : ℕ) → 3 ≤ count_by (λ z. z == x) (y ∷ x ∷ x ∷ []) + 1
two_first x y = rw (same_value x) (grind arith)

tuple_of : (f : Operation) (x y z : ℕ) → f.arity ≡ 3 → x < f.domain → y < f.domain → z < f.domain → IsTuple f.domain f.arity (x ∷ y ∷ z ∷ [])
tuple_of f x y z arity x_below y_below z_below = rw arity (three f.domain x y z x_below y_below z_below)

-- a near unanimity operation of three arguments is a majority operation
pub near_unanimity_is_majority : (f : Operation) (x y : ℕ) → IsNearUnanimity f → f.arity ≡ 3 → x < f.domain → y < f.domain → IsMajorityAt f x y
near_unanimity_is_majority f x y is arity x_below y_below = record {
  last = is.most (x ∷ x ∷ y ∷ []) x (tuple_of f x x y arity x_below x_below y_below) x_below (rw arity (two_last x y));
  middle = is.most (x ∷ y ∷ x ∷ []) x (tuple_of f x y x arity x_below y_below x_below) x_below (rw arity (two_middle x y));
  first = is.most (y ∷ x ∷ x ∷ []) x (tuple_of f y x x arity y_below x_below x_below) x_below (rw arity (two_first x y));
}

-- so is the operation of a table of `majority`
pub majority_table : (lang : LanguageView) (cells : List ℕ) (x y : ℕ) → IsTableOf Majority lang cells → x < lang.domain → y < lang.domain → IsMajorityAt (operation_of lang.domain 3 cells) x y
majority_table lang cells x y table x_below y_below = near_unanimity_is_majority (operation_of lang.domain 3 cells) x y table.satisfies refl x_below y_below

-- how many cells a table has
pub table_is_long : (class : ClassName) (lang : LanguageView) (cells : List ℕ) → IsTableOf class lang cells → length cells ≡ table_cells class lang.domain
table_is_long Constant lang cells table = table.is_operation.all_cells ∙ power_one lang.domain
table_is_long Semilattice lang cells table = table.is_operation.all_cells
table_is_long SetFunction lang cells table = table.is_set_function.all_cells
table_is_long Majority lang cells table = table.is_operation.all_cells
table_is_long Nu4 lang cells table = table.is_operation.all_cells
table_is_long Affine lang cells table = table.is_operation.all_cells
table_is_long Maltsev lang cells table = table.is_operation.all_cells
