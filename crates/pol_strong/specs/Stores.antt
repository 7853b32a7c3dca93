-- A log whose steps are found by their nogoods.
use Rattle.std.specs.Prelude.{◌≡◌, ◌≢◌, ℕ, ◌+◌, ◌-◌, ◌*◌, ◌<◌, ◌≤◌, ◌^◌, List}
use Rattle.std.specs.Prelude.{[], ◌∷◌, ◌++◌, length}
use Rattle.std.specs.Prelude.{slice_index, slice_index_or, All, IsBitSet}
use Rattle.std.specs.List.{remove}
use Rattle.pol_base.specs.Tuples.{IsDomain}
use Rattle.pol_nogood.specs.Nogoods.{Pair}
use Rattle.pol_nogood.specs.Logs.{StepView, nogood_at}
use Rattle.pol_strong.specs.Finished.{IsSmall}
use Rattle.pol_strong.specs.Ranks.{rank_of}

-- a log, with what its nogoods are made of: variables, values, and pairs at most
pub record StoreView : Type 0 where
  pub variables : ℕ
  pub domain : ℕ
  pub most : ℕ
  pub log : List StepView

-- the store with a further step
abbrev pub with_step : StoreView → StepView → StoreView
with_step s step = record { variables = s.variables; domain = s.domain; most = s.most; log = s.log ++ step ∷ [] }

-- what stands at a place that the nogood does not have
abbrev pub no_pair : Pair
no_pair = record { variable = 0; value = 0 }

-- the pair at a place
abbrev pub pair_of : List Pair → ℕ → Pair
pair_of nogood i = slice_index_or nogood i no_pair

-- at the number of each step's nogood stands the number of the step, plus 1; all else is 0
pub record IsIndex (n d : ℕ) (log : List StepView) (index : List ℕ) : Type 0 where
  pub steps : (s : ℕ) → s < length log → slice_index index (rank_of n d (nogood_at log s)) ≡ s + 1
  pub entries : (k : ℕ) → k < length index → slice_index index k ≢ 0
      → (slice_index index k ≤ length log) × (rank_of n d (nogood_at log (slice_index index k - 1)) ≡ k)

-- the place of the mask of values of a variable beside a nogood
abbrev pub mask_place : (n d : ℕ) → List Pair → ℕ → ℕ
mask_place n d nogood v = rank_of n d nogood * 40 + v

-- each pair of a nogood is cleared from the mask beside the other pairs
abbrev pub IsCleared : (n d : ℕ) → List ℕ → List Pair → Type 0
IsCleared n d filter nogood =
    (i : ℕ)
    → i < length nogood
    → IsBitSet (slice_index filter (mask_place n d (remove nogood i) (pair_of nogood i).variable))
    (pair_of nogood i).value
    → ⊥

-- so it is for the nogood of each step
abbrev pub IsFilter : (n d : ℕ) → List StepView → List ℕ → Type 0
IsFilter n d log filter = All (λ s. IsCleared n d filter s.nogood) log

-- no new values
abbrev pub Clears : (old new : List ℕ) → Type 0
Clears old new = (k a : ℕ) → a < 8 → IsBitSet (slice_index new k) a → IsBitSet (slice_index old k) a

-- the index and the filter of a log
pub record IsStore (n d most base : ℕ) (index filter : List ℕ) (log : List StepView) : Type 0 where
  pub variables : n ≤ 40
  pub domain : IsDomain d
  pub some : 1 ≤ most
  pub few : most ≤ 3
  pub base_is : base ≡ n * d + 1
  pub index_long : length index ≡ base ^ most
  pub filter_long : length filter ≡ base ^ (most - 1) * 40
  pub small : All (λ s. IsSmall n d most s.nogood) log
  pub index_is : IsIndex n d log index
  pub filter_is : IsFilter n d log filter
