-- Nogoods: sets of pairs of a variable and a value that no solution holds together.
use Rattle.std.specs.Prelude.{◌≡◌, ℕ, ◌<◌, List, All, AllPairs, Contains, slice_index}
use Rattle.pol_relation.specs.Relations.{LanguageView}
use Rattle.pol_relation.specs.Instances.{InstanceView, IsSolution}

-- a variable and a value
pub record Pair : Type 0 where
  pub variable : ℕ
  pub value : ℕ

-- a pair of one of n variables and one of d values
pub record IsPair (n d : ℕ) (p : Pair) : Type 0 where
  pub variable_known : p.variable < n
  pub value_known : p.value < d

-- pairs of n variables and d values, whose variables ascend strictly
pub record IsNogood (n d : ℕ) (nogood : List Pair) : Type 0 where
  pub pairs : All (IsPair n d) nogood
  pub ascending : AllPairs (λ p q. p.variable < q.variable) nogood

-- each pair of the first list is in the second
abbrev pub IsContained : List Pair → List Pair → Type 0
IsContained pairs others = All (Contains others) pairs

-- the assignment gives each variable of the nogood the value that is paired with it
abbrev pub Holds : List ℕ → List Pair → Type 0
Holds assignment nogood = All (λ p. slice_index assignment p.variable ≡ p.value) nogood

-- no solution holds the nogood
abbrev pub IsRefuted : LanguageView → InstanceView → List Pair → Type 0
IsRefuted lang inst nogood = (assignment : List ℕ) → IsSolution lang inst assignment → ¬ Holds assignment nogood
