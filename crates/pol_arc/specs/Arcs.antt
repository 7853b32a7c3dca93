-- Arc consistency of masks: one mask of values for each variable.
use Rattle.std.specs.Prelude.{◌≡◌, ◌≢◌, ◌<◌, ◌^◌, ℕ, List}
use Rattle.std.specs.Prelude.{length, slice_index, All, Contains, IsBitSet}
use Rattle.pol_relation.specs.Relations.{LanguageView, rows_of}
use Rattle.pol_relation.specs.Instances.{InstanceView, constraint_of}

-- each value of the row is in the mask of the variable at its place
abbrev pub LiesIn : (masks scope row : List ℕ) → Type 0
LiesIn masks scope row =
    (j : ℕ) → j < length scope → IsBitSet (slice_index masks (slice_index scope j)) (slice_index row j)

-- the row reads one value for each repeated variable, has a at every place of x, and lies in the masks
pub record Supports (masks scope : List ℕ) (x a : ℕ) (row : List ℕ) : Type 0 where
  pub one_value : (j k : ℕ) → j < length scope → k < length scope
      → slice_index scope j ≡ slice_index scope k → slice_index row j ≡ slice_index row k
  pub at_variable : (j : ℕ) → j < length scope → slice_index scope j ≡ x → slice_index row j ≡ a
  pub lies : LiesIn masks scope row

-- some row supports the value a at the variable x
pub record IsSupported (rows : List (List ℕ)) (masks scope : List ℕ) (x a : ℕ) : Type 0 where
  pub row : List ℕ
  pub listed : Contains rows row
  pub supports : Supports masks scope x a row

-- the value a, if it is in the mask of the variable at place j of the constraint, is supported
abbrev pub IsSupportedAt : LanguageView → InstanceView → (masks : List ℕ) → (c j a : ℕ) → Type 0
IsSupportedAt lang inst masks c j a =
    IsBitSet (slice_index masks (slice_index (constraint_of inst c).scope j)) a
    → IsSupported (rows_of lang (constraint_of inst c).relation) masks (constraint_of inst c).scope
    (slice_index (constraint_of inst c).scope j) a

-- the constraint supports each value in the masks of the variables of its scope
abbrev pub SupportsAll : LanguageView → InstanceView → (masks : List ℕ) → (c : ℕ) → Type 0
SupportsAll lang inst masks c =
    (j a : ℕ) → j < length (constraint_of inst c).scope → a < lang.domain → IsSupportedAt lang inst masks c j a

-- so does every constraint
abbrev pub IsArcConsistent : LanguageView → InstanceView → List ℕ → Type 0
IsArcConsistent lang inst masks = (c : ℕ) → c < length inst.constraints → SupportsAll lang inst masks c

-- arc-consistent, if each mask has a value
abbrev pub IsSettled : LanguageView → InstanceView → List ℕ → Type 0
IsSettled lang inst masks = All (λ m. m ≢ 0) masks → IsArcConsistent lang inst masks

-- one mask of values of the domain for each variable
pub record AreMasksOf (lang : LanguageView) (inst : InstanceView) (masks : List ℕ) : Type 0 where
  pub long : length masks ≡ length inst.variables
  pub below : All (λ m. m < 2 ^ lang.domain) masks

-- the first masks have no value that the others do not have
abbrev pub LieWithin : (n d : ℕ) → (some masks : List ℕ) → Type 0
LieWithin n d some masks =
    (x a : ℕ) → x < n → a < d → IsBitSet (slice_index some x) a → IsBitSet (slice_index masks x) a

-- all arc-consistent masks lie within these
abbrev pub HoldsArcs : LanguageView → InstanceView → List ℕ → Type 0
HoldsArcs lang inst masks =
    (others : List ℕ)
    → AreMasksOf lang inst others
    → IsArcConsistent lang inst others
    → LieWithin (length inst.variables) lang.domain others masks

-- the greatest arc-consistent masks, place by place
pub record IsArcMasks (lang : LanguageView) (inst : InstanceView) (masks : List ℕ) : Type 0 where
  pub are_masks : AreMasksOf lang inst masks
  pub consistent : IsArcConsistent lang inst masks
  pub greatest : HoldsArcs lang inst masks

-- a variable to which no arc-consistent masks leave a value
pub record IsWiped (lang : LanguageView) (inst : InstanceView) : Type 0 where
  pub variable : ℕ
  pub known : variable < length inst.variables
  pub empty : (others : List ℕ) (a : ℕ)
      → AreMasksOf lang inst others
      → IsArcConsistent lang inst others
      → a < lang.domain
      → ¬ IsBitSet (slice_index others variable) a
