-- Families of partial assignments. A part is an assignment with a list of the variables that count: what it gives the
-- others is of no matter. A family says which parts are kept.
use Rattle.std.specs.Prelude.{◌≡◌, ◌≤◌, ◌<◌, ℕ, zero, suc, List, []}
use Rattle.std.specs.Prelude.{◌∷◌, length, map, slice_index, slice_set, All, Contains}
use Rattle.pol_base.specs.Tuples.{IsTuple}
use Rattle.pol_relation.specs.Relations.{LanguageView, rows_of}
use Rattle.pol_relation.specs.Instances.{InstanceView, constraint_of}
use Rattle.pol_optable.specs.Operations.{Operation, image}
use Rattle.pol_nogood.specs.Nogoods.{Pair}
use Rattle.pol_nogood.specs.Logs.{StepView}
use Rattle.pol_strong.specs.Parts.{SameAt}

-- each of the variables is one of the others
abbrev pub AreAmong : List ℕ → List ℕ → Type 0
AreAmong some vars = (x : ℕ) → Contains some x → Contains vars x

-- they are variables of an instance that has n
abbrev pub AreKnown : ℕ → List ℕ → Type 0
AreKnown n vars = All (λ v. v < n) vars

-- what is kept depends on the values at the variables that count alone; parts of a kept part are kept; and a part is
-- kept where its own parts of at most so many variables are
pub record IsFamily (most : ℕ) (Kept : List ℕ → List ℕ → Type 0) : Type 0 where
  pub parts : (vars some a b : List ℕ) → AreAmong some vars → SameAt some a b → Kept vars a → Kept some b
  pub small : (vars a : List ℕ)
      → ((some : List ℕ) → AreAmong some vars → length some ≤ most → Kept some a)
      → Kept vars a

-- a value that the further variable can take beside a part
pub record Extended (d : ℕ) (Kept : List ℕ → List ℕ → Type 0) (vars a : List ℕ) (v : ℕ) : Type 0 where
  pub value : ℕ
  pub below : value < d
  pub kept : Kept (v ∷ vars) (slice_set a v value)

-- a kept part of at most so many variables has such a value for each further variable
pub record Extends (d n most : ℕ) (Kept : List ℕ → List ℕ → Type 0) : Type 0 where
  pub more : (vars a : List ℕ) (v : ℕ)
      → IsTuple d n a
      → AreKnown n vars
      → length vars ≤ most
      → Kept vars a
      → v < n
      → ¬ Contains vars v
      → Extended d Kept vars a v

-- a row that has one value for each variable that repeats in the scope, and the values of the part
pub record Reads (scope vars a row : List ℕ) : Type 0 where
  pub one_value : (i j : ℕ) → i < length scope → j < length scope → slice_index scope i ≡ slice_index scope j
      → slice_index row i ≡ slice_index row j
  pub same : (i : ℕ) → i < length scope → Contains vars (slice_index scope i)
      → slice_index row i ≡ slice_index a (slice_index scope i)

-- one of the rows is such a row
pub record Supports (rows : List (List ℕ)) (scope vars a : List ℕ) : Type 0 where
  pub row : List ℕ
  pub listed : Contains rows row
  pub reads : Reads scope vars a row

-- each constraint has such a row for each kept part of at most so many variables
pub record BreaksNone (lang : LanguageView) (inst : InstanceView) (most : ℕ) (Kept : List ℕ → List ℕ → Type 0)
    : Type 0 where
  pub support : (c : ℕ) (vars a : List ℕ)
      → c < length inst.constraints
      → IsTuple lang.domain (length inst.variables) a
      → AreKnown (length inst.variables) vars
      → length vars ≤ most
      → Kept vars a
      → Supports (rows_of lang (constraint_of inst c).relation) (constraint_of inst c).scope vars a

-- what the operation makes of kept parts over the same variables, at most so many, is kept
pub record IsPreserved (f : Operation) (n most : ℕ) (Kept : List ℕ → List ℕ → Type 0) : Type 0 where
  pub images : (vars : List ℕ) (parts : List (List ℕ))
      → AreKnown n vars
      → length vars ≤ most
      → length parts ≡ f.arity
      → All (IsTuple f.domain n) parts
      → All (Kept vars) parts
      → Kept vars (image f n parts)

-- an assignment that is kept at all of the variables
pub record KeptAt (d n : ℕ) (Kept : List ℕ → List ℕ → Type 0) (vars : List ℕ) : Type 0 where
  pub assignment : List ℕ
  pub tuple : IsTuple d n assignment
  pub kept : Kept vars assignment

-- the first so many variables, the last of them first
abbrev pub firsts : ℕ → List ℕ
firsts zero = []
firsts (suc k) = k ∷ firsts k

-- the variables that a nogood names
abbrev pub vars_of : List Pair → List ℕ
vars_of nogood = map (λ p. p.variable) nogood

-- the variables of the nogood count, and have its values
abbrev pub HeldAt : List ℕ → List ℕ → List Pair → Type 0
HeldAt vars a nogood = All (λ p. Contains vars p.variable × (slice_index a p.variable ≡ p.value)) nogood

-- the family of a log: the parts that hold none of its nogoods
abbrev pub KeptBy : List StepView → List ℕ → List ℕ → Type 0
KeptBy log vars a = All (λ s. ¬ HeldAt vars a s.nogood) log
