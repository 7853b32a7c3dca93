-- Sets of tuples that an operation preserves, their closures and representations.
use Rattle.std.specs.Prelude.{◌≡◌, ◌<◌, ◌≤◌, ◌*◌, ℕ, List, [], ◌∷◌, length, take}
use Rattle.std.specs.Prelude.{slice_index, All, Contains}
use Rattle.pol_base.specs.Tuples.{IsTuple}
use Rattle.pol_relation.specs.Relations.{LanguageView}
use Rattle.pol_relation.specs.Instances.{InstanceView, read_at, Meets}
use Rattle.pol_optable.specs.Operations.{Operation, image}
use Rattle.pol_rows.specs.Signatures.{InSignature, IsSignatureSize}

-- a set of n-tuples on the domain of a ternary operation, which the operation preserves
pub record IsPreserved (f : Operation) (n : ℕ) (T : List ℕ → Type 0) : Type 0 where
  pub tuples : (t : List ℕ) → T t → IsTuple f.domain n t
  pub keeps : (r s t : List ℕ) → T r → T s → T t → T (image f n (r ∷ s ∷ t ∷ []))

-- a member of the set that agrees with t before place i and has b there
pub record Follows (T : List ℕ → Type 0) (t : List ℕ) (i b : ℕ) : Type 0 where
  pub member : List ℕ
  pub inside : T member
  pub same_before : take i member ≡ take i t
  pub there : slice_index member i ≡ b

-- the least set that contains the rows and is preserved by a ternary operation
pub data InClosure (f : Operation) (n : ℕ) (rows : List (List ℕ)) : List ℕ → Type 0 where
  given : (t : List ℕ) → Contains rows t → InClosure f n rows t
  made : (r s t : List ℕ) → InClosure f n rows r → InClosure f n rows s → InClosure f n rows t
      → InClosure f n rows (image f n (r ∷ s ∷ t ∷ []))

-- a subset with the same signature
pub record Represents (n : ℕ) (rows : List (List ℕ)) (T : List ℕ → Type 0) : Type 0 where
  pub inside : All T rows
  pub signature : (i a b : ℕ) → i < n → InSignature T i a b → InSignature (Contains rows) i a b

-- rows that represent their closure, at most two for each triple of its signature
pub record IsSound (f : Operation) (n : ℕ) (rows : List (List ℕ)) : Type 0 where
  pub represents : Represents n rows (InClosure f n rows)
  pub compact : (size : ℕ) → IsSignatureSize n f.domain (InClosure f n rows) size → length rows ≤ 2 * size

-- the members that begin with a front
pub record Begins (T : List ℕ → Type 0) (front t : List ℕ) : Type 0 where
  pub inside : T t
  pub begins : take (length front) t ≡ front

-- the members whose reading at places is among the rows
pub record ReadsRow (T : List ℕ → Type 0) (places : List ℕ) (rows : List (List ℕ)) (t : List ℕ) : Type 0 where
  pub inside : T t
  pub row : Contains rows (read_at t places)

-- a member that reads a word at places
pub record Reads (T : List ℕ → Type 0) (places word : List ℕ) : Type 0 where
  pub member : List ℕ
  pub inside : T member
  pub reads : read_at member places ≡ word

-- an assignment that meets the first j constraints
pub record MeetsFirst (lang : LanguageView) (inst : InstanceView) (j : ℕ) (assignment : List ℕ) : Type 0 where
  pub tuple : IsTuple lang.domain (length inst.variables) assignment
  pub meets : All (λ c. Meets lang c assignment) (take j inst.constraints)
