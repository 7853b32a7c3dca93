-- Worked combinations and equations: their faults as the format tells them, worked out by hand, and computed.
use Rattle.std.specs.Prelude.{◌≡◌, ℕ, List, [], ◌∷◌, ◌%◌, Some, None, Option, codes, refl}
use Rattle.pol_relation.specs.Relations.{NamedRelation, LanguageView}
use Rattle.pol_relation.specs.Instances.{ConstraintView, InstanceView}
use Rattle.pol_modp.specs.declared.checking.CombFault.{CombFault}
use Rattle.pol_modp.specs.declared.checking.CombFault.TheVariants as fault
use Rattle.pol_modp.specs.Equations.{EquationView, dot, coefs_at, rights_of}
use Rattle.pol_modp.specs.Combinations.{PartView}
use Rattle.pol_modp.specs.CombinationFaults.{combination_fault}

-- ---- sums modulo 3: no values have the sum 0 and the sum 1

abbrev sum_is_0 : NamedRelation
sum_is_0 = record {
  name = codes "s0";
  relation = record { domain = 3; arity = 3; rows = (0 ∷ 0 ∷ 0 ∷ []) ∷ (0 ∷ 1 ∷ 2 ∷ []) ∷ (0 ∷ 2 ∷ 1 ∷ []) ∷ (1 ∷ 0 ∷ 2 ∷ []) ∷ (1 ∷ 1 ∷ 1 ∷ []) ∷ (1 ∷ 2 ∷ 0 ∷ []) ∷ (2 ∷ 0 ∷ 1 ∷ []) ∷ (2 ∷ 1 ∷ 0 ∷ []) ∷ (2 ∷ 2 ∷ 2 ∷ []) ∷ [] };
}

abbrev sum_is_1 : NamedRelation
sum_is_1 = record {
  name = codes "s1";
  relation = record { domain = 3; arity = 3; rows = (0 ∷ 0 ∷ 1 ∷ []) ∷ (0 ∷ 1 ∷ 0 ∷ []) ∷ (0 ∷ 2 ∷ 2 ∷ []) ∷ (1 ∷ 0 ∷ 0 ∷ []) ∷ (1 ∷ 1 ∷ 2 ∷ []) ∷ (1 ∷ 2 ∷ 1 ∷ []) ∷ (2 ∷ 0 ∷ 2 ∷ []) ∷ (2 ∷ 1 ∷ 1 ∷ []) ∷ (2 ∷ 2 ∷ 0 ∷ []) ∷ [] };
}

abbrev zero_alone : NamedRelation
zero_alone = record { name = codes "zero"; relation = record { domain = 3; arity = 1; rows = (0 ∷ []) ∷ [] } }

abbrev sums : LanguageView
sums = record { domain = 3; relations = sum_is_0 ∷ sum_is_1 ∷ zero_alone ∷ [] }

abbrev on : ℕ → List ℕ → ConstraintView
on relation scope = record { relation = relation; scope = scope }

abbrev two_sums : InstanceView
two_sums = record {
  name = codes "i";
  variables = codes "x" ∷ codes "y" ∷ codes "z" ∷ [];
  constraints = on 0 (0 ∷ 1 ∷ 2 ∷ []) ∷ on 1 (0 ∷ 1 ∷ 2 ∷ []) ∷ [];
}

abbrev part : ℕ → ℕ → ℕ → List ℕ → PartView
part c m b coefs = record { constraint = c; multiplier = m; right = b; coefs = coefs }

abbrev ones : List ℕ
ones = 1 ∷ 1 ∷ 1 ∷ []

abbrev first : PartView
first = part 0 1 0 ones

abbrev second : PartView
second = part 1 2 1 ones

abbrev fault_of_labels : List ℕ → List PartView → Option CombFault
fault_of_labels labels parts = combination_fault sums two_sums (record { labels = labels; parts = parts })

abbrev fault_of : List PartView → Option CombFault
fault_of parts = fault_of_labels (0 ∷ 1 ∷ 2 ∷ []) parts

valid : fault_of (first ∷ second ∷ []) ≡ None
valid = refl

two_labels : fault_of_labels (0 ∷ 1 ∷ []) (first ∷ second ∷ []) ≡ Some fault.BadLabels
two_labels = refl

label_three : fault_of_labels (0 ∷ 1 ∷ 3 ∷ []) (first ∷ second ∷ []) ≡ Some fault.BadLabels
label_three = refl

-- the labels of each row of the first relation still add up to 0, those of the second do not add up to 1
same_labels : fault_of_labels (0 ∷ 0 ∷ 0 ∷ []) (first ∷ second ∷ []) ≡ Some (fault.NotImplied 1)
same_labels = refl

no_constraint : fault_of (part 2 1 0 ones ∷ second ∷ []) ≡ Some (fault.BadPlace 0)
no_constraint = refl

two_coefficients : fault_of (part 0 1 0 (1 ∷ 1 ∷ []) ∷ second ∷ []) ≡ Some (fault.BadPlace 0)
two_coefficients = refl

coefficient_three : fault_of (part 0 1 0 (1 ∷ 1 ∷ 3 ∷ []) ∷ second ∷ []) ≡ Some (fault.BadPlace 0)
coefficient_three = refl

multiplier_three : fault_of (first ∷ part 1 3 1 ones ∷ []) ≡ Some (fault.BadPlace 1)
multiplier_three = refl

right_three : fault_of (part 0 1 3 ones ∷ second ∷ []) ≡ Some (fault.BadPlace 0)
right_three = refl

wrong_right : fault_of (part 0 1 1 ones ∷ second ∷ []) ≡ Some (fault.NotImplied 0)
wrong_right = refl

wrong_right_of_the_second : fault_of (first ∷ part 1 2 0 ones ∷ []) ≡ Some (fault.NotImplied 1)
wrong_right_of_the_second = refl

-- a part with multiplier 0 is to be implied too
unused_wrong_part : fault_of (first ∷ second ∷ part 1 0 0 ones ∷ []) ≡ Some (fault.NotImplied 2)
unused_wrong_part = refl

unused_part : fault_of (first ∷ second ∷ part 1 0 1 ones ∷ []) ≡ None
unused_part = refl

wrong_multiplier : fault_of (first ∷ part 1 1 1 ones ∷ []) ≡ Some (fault.Remainder 0)
wrong_multiplier = refl

first_multiplier_zero : fault_of (part 0 0 0 ones ∷ second ∷ []) ≡ Some (fault.Remainder 0)
first_multiplier_zero = refl

multipliers_zero : fault_of (part 0 0 0 ones ∷ part 1 0 1 ones ∷ []) ≡ Some fault.ZeroRight
multipliers_zero = refl

no_parts : fault_of [] ≡ Some fault.ZeroRight
no_parts = refl

-- ---- a variable that repeats counts at each of its places: x + x + y = 1 is met, and 2x + y is not 0

abbrev repeated : InstanceView
repeated = record {
  name = codes "j";
  variables = codes "x" ∷ codes "y" ∷ [];
  constraints = on 2 (0 ∷ []) ∷ on 1 (0 ∷ 0 ∷ 1 ∷ []) ∷ on 2 (1 ∷ []) ∷ [];
}

abbrev fault_of_repeated : List PartView → Option CombFault
fault_of_repeated parts = combination_fault sums repeated (record { labels = 0 ∷ 1 ∷ 2 ∷ []; parts = parts })

-- x = 0 once more, and y = 0 twice, take 2x + y = 1 to 0 = 1
counted_twice : fault_of_repeated (part 0 1 0 (1 ∷ []) ∷ part 1 1 1 ones ∷ part 2 2 0 (1 ∷ []) ∷ []) ≡ None
counted_twice = refl

counted_once : fault_of_repeated (part 0 2 0 (1 ∷ []) ∷ part 1 1 1 ones ∷ part 2 2 0 (1 ∷ []) ∷ []) ≡ Some (fault.Remainder 0)
counted_once = refl

second_variable : fault_of_repeated (part 0 1 0 (1 ∷ []) ∷ part 1 1 1 ones ∷ []) ≡ Some (fault.Remainder 1)
second_variable = refl

-- ---- four values: labels that are not one-to-one, and a sum that reads 0 = 2

abbrev parities : LanguageView
parities = record {
  domain = 4;
  relations =
      record { name = codes "even"; relation = record { domain = 4; arity = 1; rows = (0 ∷ []) ∷ (2 ∷ []) ∷ [] } }
      ∷ record { name = codes "odd"; relation = record { domain = 4; arity = 1; rows = (1 ∷ []) ∷ (3 ∷ []) ∷ [] } }
      ∷ [];
}

abbrev even_and_odd : InstanceView
even_and_odd = record { name = codes "k"; variables = codes "x" ∷ []; constraints = on 0 (0 ∷ []) ∷ on 1 (0 ∷ []) ∷ [] }

even_is_not_odd : combination_fault parities even_and_odd (record { labels = 0 ∷ 2 ∷ 0 ∷ 2 ∷ []; parts = part 0 3 0 (1 ∷ []) ∷ part 1 1 2 (1 ∷ []) ∷ [] }) ≡ None
even_is_not_odd = refl

-- ---- one value: every right side is 0

abbrev one_value : LanguageView
one_value = record { domain = 1; relations = record { name = codes "r"; relation = record { domain = 1; arity = 1; rows = [] } } ∷ [] }

abbrev one_constraint : InstanceView
one_constraint = record { name = codes "l"; variables = codes "x" ∷ []; constraints = on 0 (0 ∷ []) ∷ [] }

nothing_to_show : combination_fault one_value one_constraint (record { labels = 0 ∷ []; parts = part 0 0 0 (0 ∷ []) ∷ [] }) ≡ Some fault.ZeroRight
nothing_to_show = refl

-- ---- x + 2y = 3 and 2x + 4y = 2 modulo 5, times 2 and 4

abbrev clashing : List EquationView
clashing = record { coefs = 1 ∷ 2 ∷ []; right = 3 } ∷ record { coefs = 2 ∷ 4 ∷ []; right = 2 } ∷ []

at_x : dot (2 ∷ 4 ∷ []) (coefs_at 0 clashing) % 5 ≡ 0
at_x = refl

at_y : dot (2 ∷ 4 ∷ []) (coefs_at 1 clashing) % 5 ≡ 0
at_y = refl

at_right : dot (2 ∷ 4 ∷ []) (rights_of clashing) % 5 ≡ 4
at_right = refl
