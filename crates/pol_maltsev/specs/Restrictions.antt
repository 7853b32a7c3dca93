-- What is made of a table where its set shrinks to the members that some first places decide.
use Rattle.std.specs.Prelude.{◌≡◌, ◌<◌, ℕ, List, [], ◌∷◌, slice_index}
use Rattle.std.specs.Prelude.{slice_index_or, length, All, Contains, if◌then◌else◌, ◌==◌}
use Rattle.pol_relation.specs.Instances.{read_at}
use Rattle.pol_optable.specs.Operations.{Operation, value_at}
use Rattle.pol_maltsev.specs.Representations.{ReadsRow}
use Rattle.pol_maltsev.specs.Orders.{InFront}
use Rattle.pol_maltsev.specs.Tables.{Agree, SameRoot, IsLeastOf}

-- a member whose values at the first k places of the order are those of a word
pub record IsReading (T : List ℕ → Type 0) (ord word : List ℕ) (k : ℕ) (t : List ℕ) : Type 0 where
  pub inside : T t
  pub reads : (i : ℕ) → i < k → slice_index t (slice_index ord i) ≡ slice_index word i

-- values at place p: those of the rows at the first k places of the order, and what the operation makes of them
pub record AreValues (f : Operation) (k p : ℕ) (ord : List ℕ)
    (row : ℕ → ℕ → List ℕ) (root : ℕ → ℕ → ℕ) (V : ℕ → Type 0) : Type 0 where
  pub of_rows : (i a : ℕ) → i < k → a < f.domain → root (slice_index ord i) a < f.domain
      → V (slice_index (row (slice_index ord i) a) p)
  pub closed : (a b c : ℕ) → V a → V b → V c → V (value_at f (a ∷ b ∷ c ∷ []))

-- a smaller set, which the values at S decide
pub record IsPart (T U : List ℕ → Type 0) (S : ℕ → Type 0) : Type 0 where
  pub within : (t : List ℕ) → U t → T t
  pub decided : (t u : List ℕ) → U t → T u → Agree S u t → U u

-- later places after a restriction: the values found, their rows, and the old roots
pub record IsMadeLate (d : ℕ) (U : List ℕ → Type 0) (S : ℕ → Type 0) (p : ℕ) (V : ℕ → Type 0)
    (old : ℕ → ℕ) (row : ℕ → List ℕ) (root : ℕ → ℕ) : Type 0 where
  pub found : (a : ℕ) → a < d → root a < d → V a
  pub old_root : (a : ℕ) → a < d → V a → root a ≡ old a
  pub classes : (a b : ℕ) → a < d → b < d → V a → SameRoot d old a b → V b
  pub inside : (a : ℕ) → a < d → V a → U (row a)
  pub there : (a : ℕ) → a < d → V a → slice_index (row a) p ≡ a
  pub together : (a b : ℕ) → a < d → b < d → V a → V b → SameRoot d old a b → Agree S (row a) (row b)

-- a listed member with a at j
pub record HasListed (rows : List (List ℕ)) (j a : ℕ) : Type 0 where
  pub member : List ℕ
  pub listed : Contains rows member
  pub at : slice_index member j ≡ a

-- a listed member with c at j agrees with the base of b at S
pub record SharesBase (rows : List (List ℕ)) (S : ℕ → Type 0) (j : ℕ) (base : ℕ → List ℕ)
    (c b : ℕ) : Type 0 where
  pub owner : HasListed rows j b
  pub member : List ℕ
  pub listed : Contains rows member
  pub at : slice_index member j ≡ c
  pub near : Agree S member (base b)

-- earlier places after a restriction, from listed members and one base for each value
pub record IsMadeEarly (d : ℕ) (rows : List (List ℕ)) (S : ℕ → Type 0) (j : ℕ) (base : ℕ → List ℕ)
    (row : ℕ → List ℕ) (root : ℕ → ℕ) : Type 0 where
  pub base_listed : (b : ℕ) → HasListed rows j b → Contains rows (base b)
  pub base_at : (b : ℕ) → HasListed rows j b → slice_index (base b) j ≡ b
  pub gone : (c : ℕ) → c < d → root c < d → HasListed rows j c
  pub chosen : (c : ℕ) → c < d → HasListed rows j c → IsLeastOf d (SharesBase rows S j base c) (root c)
  pub listed : (c : ℕ) → c < d → HasListed rows j c → Contains rows (row c)
  pub at : (c : ℕ) → c < d → HasListed rows j c → slice_index (row c) j ≡ c
  pub near : (c : ℕ) → c < d → HasListed rows j c → Agree S (row c) (base (root c))

-- a listed member that agrees with t at Q
pub record IsCovered (rows : List (List ℕ)) (Q : ℕ → Type 0) (t : List ℕ) : Type 0 where
  pub member : List ℕ
  pub listed : Contains rows member
  pub same : Agree Q member t

-- a listed member reads the word
pub record IsFound (scope : List ℕ) (found : List (List ℕ)) (word : List ℕ) : Type 0 where
  pub member : List ℕ
  pub listed : Contains found member
  pub reads : read_at member scope ≡ word

-- listed members that read rows, one for each row that a member reads
pub record AreReaders (T : List ℕ → Type 0) (scope : List ℕ) (words found : List (List ℕ)) : Type 0 where
  pub inside : All (ReadsRow T scope words) found
  pub each : (t : List ℕ) → ReadsRow T scope words t → IsFound scope found (read_at t scope)

-- the places of the scope are the first of the order; each of these stands in the scope at the number listed for it
pub record AreFirsts (ord scope first : List ℕ) : Type 0 where
  pub known : All (λ e. e < length scope) first
  pub places : (k : ℕ) → k < length first → slice_index ord k ≡ slice_index scope (slice_index first k)
  pub within : (e : ℕ) → e < length scope → InFront ord (length first) (slice_index scope e)

-- a member that reads the row at the scope
pub record IsReader (T : List ℕ → Type 0) (scope row t : List ℕ) : Type 0 where
  pub inside : T t
  pub reads : read_at t scope ≡ row

-- the number is the least of a row that has the value at the place
pub record IsFirstWith (rows : List (List ℕ)) (j b i : ℕ) : Type 0 where
  pub known : i < length rows
  pub at : slice_index (slice_index_or rows i []) j ≡ b
  pub first : (e : ℕ) → e < i → ¬ (slice_index (slice_index_or rows e []) j ≡ b)

-- the row with the number has the value at the place, and agrees with the base at S
pub record IsSharer (rows : List (List ℕ)) (S : ℕ → Type 0) (j c : ℕ) (base : List ℕ) (i : ℕ) : Type 0 where
  pub known : i < length rows
  pub at : slice_index (slice_index_or rows i []) j ≡ c
  pub near : Agree S (slice_index_or rows i []) base

-- the first of the rows that has the value at the place
abbrev pub first_row : List (List ℕ) → ℕ → ℕ → List ℕ
first_row [] j b = []
first_row (row ∷ rows) j b = if slice_index row j == b then row else first_row rows j b

-- some row has b at the place, and the row with the number has c there and agrees at S with the first that has b
pub record IsJoinedTo (rows : List (List ℕ)) (S : ℕ → Type 0) (j b c i : ℕ) : Type 0 where
  pub owner : HasListed rows j b
  pub sharer : IsSharer rows S j c (first_row rows j b) i

-- what stands for the value c at an early place
pub record IsEarlyClass (d : ℕ) (rows : List (List ℕ)) (S : ℕ → Type 0) (j c : ℕ)
    (row : List ℕ) (root : ℕ) : Type 0 where
  pub gone : root < d → HasListed rows j c
  pub chosen : HasListed rows j c → IsLeastOf d (SharesBase rows S j (first_row rows j) c) root
  pub listed : HasListed rows j c → Contains rows row
  pub at : HasListed rows j c → slice_index row j ≡ c
  pub near : HasListed rows j c → Agree S row (first_row rows j root)

-- a member that agrees with one of the listed at the first q places of the order
pub record IsRestricted (T : List ℕ → Type 0) (rows : List (List ℕ)) (ord : List ℕ) (q : ℕ)
    (t : List ℕ) : Type 0 where
  pub inside : T t
  pub covered : IsCovered rows (InFront ord q) t
