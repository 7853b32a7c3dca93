-- What is deleted, and when nothing is left to delete.
use Rattle.std.specs.Prelude.{◌≡◌, ◌≢◌, ℕ, ◌+◌, ◌-◌, ◌<◌, ◌≤◌}
use Rattle.std.specs.Prelude.{◌^◌, List, [], ◌++◌, length, slice_index, All, IsBitSet}
use Rattle.std.specs.List.{remove}
use Rattle.pol_relation.specs.Relations.{LanguageView}
use Rattle.pol_relation.specs.Instances.{InstanceView}
use Rattle.pol_nogood.specs.Nogoods.{Pair, IsContained, IsNogood}
use Rattle.pol_nogood.specs.Logs.{StepView, value_case, FitsMost}
use Rattle.pol_nogood.specs.ValidLogs.{AreValid}
use Rattle.pol_strong.specs.Contradictions.{IsContradicted, AreOpen}
use Rattle.pol_strong.specs.Finished.{RefersByVariable, AllOpen}
use Rattle.pol_strong.specs.Stores.{StoreView, pair_of}

-- masks without the values that are deleted beside a part of the front
pub record AreBeside (d : ℕ) (log : List StepView) (front : List Pair) (masks : List ℕ) : Type 0 where
  pub below : All (λ m. m < 2 ^ d) masks
  pub cleared : All (λ s. (i : ℕ) → i < length s.nogood → IsContained (remove s.nogood i) front
      → IsBitSet (slice_index masks (pair_of s.nogood i).variable) (pair_of s.nogood i).value → ⊥) log

-- masks without the values that are deleted beside just this nogood
abbrev pub AreCleared : List StepView → List Pair → List ℕ → Type 0
AreCleared log nogood masks =
    All (λ s. (i : ℕ) → i < length s.nogood → remove s.nogood i ≡ nogood
    → IsBitSet (slice_index masks (pair_of s.nogood i).variable) (pair_of s.nogood i).value → ⊥) log

-- smaller masks
pub record IsLess (d : ℕ) (old new : List ℕ) : Type 0 where
  pub less : (v a : ℕ) → IsBitSet (slice_index new v) a → IsBitSet (slice_index old v) a
  pub below : All (λ m. m < 2 ^ d) old → All (λ m. m < 2 ^ d) new

-- a log of deletions
pub record IsDeleting (lang : LanguageView) (inst : InstanceView) (s : StoreView) : Type 0 where
  pub variables : s.variables ≡ length inst.variables
  pub domain : s.domain ≡ lang.domain
  pub some : 2 ≤ s.most
  pub valid : AreValid lang inst s.log
  pub fits : FitsMost s.most s.log
  pub by_variables : All RefersByVariable s.log
  pub nonempty : All (λ s. s.nogood ≢ []) s.log

-- more is deleted, or nothing, and then what is said of the log holds
pub record Deletes (lang : LanguageView) (inst : InstanceView) (Settled : List StepView → Type 0)
    (old new : StoreView) : Type 0 where
  pub deleting : IsDeleting lang inst new
  pub most : new.most ≡ old.most
  pub grown : length old.log ≤ length new.log
  pub kept : (nogood : List Pair) → IsContradicted old.log nogood → IsContradicted new.log nogood
  pub same : length new.log ≤ length old.log → new.log ≡ old.log
  pub settled : length new.log ≤ length old.log → Settled new.log

-- all that goes on from the front, by at most so many pairs of variables from low on, and is not empty, contains
-- a deleted nogood or has open values
abbrev pub AllOpenFrom : (n d : ℕ) → (front : List Pair) → (low most : ℕ) → List StepView → Type 0
AllOpenFrom n d front low most log =
    (more : List Pair)
    → IsNogood n d (front ++ more)
    → 1 ≤ length (front ++ more)
    → All (λ p. low ≤ p.variable) more
    → length more ≤ most
    → ¬ IsContradicted log (front ++ more)
    → AreOpen n d log (front ++ more)

-- the same for what goes on with this variable and value
abbrev pub OpenWith : (n d : ℕ) → (front : List Pair) → (x a most : ℕ) → List StepView → Type 0
OpenWith n d front x a most log = AllOpenFrom n d (front ++ value_case x a) (x + 1) (most - 1) log

-- the same for all variables from low on and below x, with any value
abbrev pub OpenBefore : (n d : ℕ) → (front : List Pair) → (low x most : ℕ) → List StepView → Type 0
OpenBefore n d front low x most log = (y a : ℕ) → low ≤ y → y < x → a < d → OpenWith n d front y a most log

-- the same for the first values of a variable
abbrev pub OpenBelow : (n d : ℕ) → (front : List Pair) → (x a most : ℕ) → List StepView → Type 0
OpenBelow n d front x a most log = (b : ℕ) → b < a → OpenWith n d front x b most log

-- the front is empty, contains a deleted nogood, or has open values
abbrev pub OpenHere : (n d : ℕ) → List Pair → List StepView → Type 0
OpenHere n d front log = 1 ≤ length front → ¬ IsContradicted log front → AreOpen n d log front

-- what the sweeps leave: a log, longer or the same, in which no nogood but the empty one is left to delete by a
-- variable
pub record IsSwept (lang : LanguageView) (inst : InstanceView) (old new : StoreView) : Type 0 where
  pub deleting : IsDeleting lang inst new
  pub most : new.most ≡ old.most
  pub kept : (nogood : List Pair) → IsContradicted old.log nogood → IsContradicted new.log nogood
  pub open_all : AllOpen (length inst.variables) lang.domain new.most new.log
