-- The first fault of a combination, computed in the order of the format.
use Rattle.std.specs.Prelude.{Bool, not, ◌&&◌, ◌==◌, nat_lt, ℕ, ◌+◌, ◌%◌, List, [], ◌∷◌, length}
use Rattle.std.specs.Prelude.{Option, Some, None, option_map, if◌then◌else◌}
use Rattle.std.specs.List.{list_all, range_with_len}
use Rattle.pol_relation.specs.Relations.{LanguageView}
use Rattle.pol_relation.specs.Instances.{InstanceView}
use Rattle.pol_modp.specs.declared.checking.CombFault.{CombFault}
use Rattle.pol_modp.specs.declared.checking.CombFault.TheVariants as fault
use Rattle.pol_modp.specs.Equations.{dot}
use Rattle.pol_modp.specs.Combinations.{PartView, CombinationView, labels_of, rows_at, arity_at, sum_at, sum_right}

-- the numbers are below d
abbrev pub are_below : ℕ → List ℕ → Bool
are_below d xs = list_all (λ x. nat_lt x d) xs

-- there are d labels below d
abbrev pub are_labels : ℕ → List ℕ → Bool
are_labels d labels = length labels == d && are_below d labels

-- the constraint exists, there are as many coefficients as places, and the numbers are below d
abbrev pub part_placed : LanguageView → InstanceView → PartView → Bool
part_placed lang inst part =
    nat_lt part.constraint (length inst.constraints)
    && length part.coefs == arity_at lang inst part.constraint
    && nat_lt part.multiplier lang.domain
    && nat_lt part.right lang.domain
    && are_below lang.domain part.coefs

-- the labels of the row meet the part's equation modulo d
abbrev pub row_meets : ℕ → List ℕ → PartView → List ℕ → Bool
row_meets d labels part row = dot part.coefs (labels_of labels row) % d == part.right % d

-- those of each row of the constraint's relation do
abbrev pub part_implied : LanguageView → InstanceView → List ℕ → PartView → Bool
part_implied lang inst labels part =
    list_all (row_meets lang.domain labels part) (rows_at lang inst part.constraint)

-- in the sum the variable has the coefficient 0 modulo d
abbrev pub is_zero_at : LanguageView → InstanceView → List PartView → ℕ → Bool
is_zero_at lang inst parts v = sum_at inst parts v % lang.domain == 0

-- the numbers of the variables
abbrev pub variables_of : InstanceView → List ℕ
variables_of inst = range_with_len 0 (length inst.variables)

-- the number of the first of the list that fails the test
abbrev pub first_failing : {X : Type 0} → (X → Bool) → List X → Option ℕ
first_failing test [] = None
first_failing test (x ∷ xs) = if test x then option_map (λ k. k + 1) (first_failing test xs) else Some 0

-- the fault of the first that fails, and where none does what comes next
abbrev pub fault_at : Option ℕ → (ℕ → CombFault) → Option CombFault → Option CombFault
fault_at (Some k) fault next = Some (fault k)
fault_at None fault next = next

-- the fault where the test fails, and else what comes next
abbrev pub fault_unless : Bool → CombFault → Option CombFault → Option CombFault
fault_unless passes fault next = if passes then next else Some fault

-- the first fault of the combination, and none where it is valid
abbrev pub combination_fault : LanguageView → InstanceView → CombinationView → Option CombFault
combination_fault lang inst c =
    fault_unless (are_labels lang.domain c.labels) fault.BadLabels
    (fault_at (first_failing (part_placed lang inst) c.parts) fault.BadPlace
    (fault_at (first_failing (part_implied lang inst c.labels) c.parts) fault.NotImplied
    (fault_at (first_failing (is_zero_at lang inst c.parts) (variables_of inst)) fault.Remainder
    (fault_unless (not (sum_right c.parts % lang.domain == 0)) fault.ZeroRight
    None))))
