-- Folding over the members of a mask, one value after another.
use Rattle.std.proofs.Common.{◌≡◌, ℕ, ◌+◌, ◌-◌, ◌^◌, ◌<◌, ◌≤◌, ◌⊎◌, inl, inr, List, [], ◌∷◌, length, take, set, get_or, All, Contains, ◌≢◌, Option, Some, None, refl, sym, ap, ◌∙◌, subst, arith}
use Rattle.std.specs.Prelude.{IsBitSet, ⊤}
use Rattle.std.proofs.lemmas.Bool.{cases_eq}
use Rattle.std.proofs.lemmas.List.{get_or-set_same, get_or-set_other, get_or-take, length-take-le}
use Rattle.std.proofs.lemmas.List.Elements.{All-nil, All-cons, All-contains, All-from_get_or}
use Rattle.pol_base.specs.Masks.{IsMask, mask_of}
use Rattle.pol_base.proofs.BitLemmas.{set_below}
use Rattle.pol_base.proofs.MaskLemmas.{mask_more}
use Rattle.pol_base.proofs.MemberLemmas.{Contains-here, Contains-there}
use Rattle.pol_optable.specs.Operations.{Operation, value_at}
use Rattle.pol_optable.specs.SetFunctions.{IsSetFunction}
use Rattle.pol_optable.specs.Tables.{IsOpTable}
use Rattle.pol_optable.specs.Identities.{IsSemilattice}
use Rattle.pol_optable.proofs.SetLemmas.{set_mask, mask_set, same_masks}
use Rattle.pol_optable.proofs.ProjectionLemmas.{mask_below, mask_some}
use Rattle.pol_setfn.specs.Folds.{fold_of, IsFold, IsFoldAt}
use Rattle.pol_setfn.proofs.FoldLemmas.{fold_of_mask}

-- nothing where there are no values, and else their fold
abbrev pub IsFolded : Operation → List ℕ → Option ℕ → Type 0
IsFolded f [] None = ⊤
IsFolded f [] (Some a) = ⊥
IsFolded f (v ∷ values) None = ⊥
IsFolded f (v ∷ values) (Some a) = a ≡ fold_of f (v ∷ values)

-- the members of the mask below n, folded
pub record Folding (f : Operation) (mask n : ℕ) (folded : Option ℕ) : Type 0 where
  pub values : List ℕ
  pub inside : All (IsBitSet mask) values
  pub complete : (v : ℕ) → v < n → IsBitSet mask v → Contains values v
  pub is_folded : IsFolded f values folded

pub folding_none : (f : Operation) (mask : ℕ) → Folding f mask 0 None
folding_none f mask = record { values = []; inside = All-nil (IsBitSet mask); complete = λ v less set. absurd (omega (arith, less)); is_folded = tt }

module _ (f : Operation) (mask n : ℕ) where
  pub folding_skip : (folded : Option ℕ) → Folding f mask n folded → (IsBitSet mask n → ⊥) → Folding f mask (n + 1) folded
  folding_skip folded g outside = record {
    values = g.values;
    inside = g.inside;
    complete = λ v less set. elim (cases_eq v n) [
      | inl same ↦ absurd (outside (subst (IsBitSet mask) same set))
      | inr other ↦ g.complete v (omega (arith, less, other)) set
    ];
    is_folded = g.is_folded;
  }

  more : (values : List ℕ) → ((v : ℕ) → v < n → IsBitSet mask v → Contains values v) → (v : ℕ) → v < n + 1 → IsBitSet mask v → Contains (n ∷ values) v
  more values before v less set =
      elim (cases_eq v n) [
        | inl same ↦ subst (λ x. Contains (n ∷ values) x) (sym same) (Contains-here n values)
        | inr other ↦ Contains-there n v values (before v (omega (arith, less, other)) set)
      ]

  first_folded : (values : List ℕ) → IsFolded f values None → IsFolded f (n ∷ values) (Some n)
  first_folded [] is = refl
  first_folded (v ∷ values) is = absurd is

  next_folded : (values : List ℕ) (a : ℕ) → IsFolded f values (Some a) → IsFolded f (n ∷ values) (Some (value_at f (n ∷ a ∷ [])))
  next_folded [] a is = absurd is
  next_folded (v ∷ values) a is = ap (λ b. value_at f (n ∷ b ∷ [])) is

  with_folded : (values : List ℕ) (folded : Option ℕ) (b : ℕ) → IsFolded f values folded
      → (folded ≡ None → b ≡ n)
      → ((a : ℕ) → folded ≡ Some a → b ≡ value_at f (n ∷ a ∷ []))
      → IsFolded f (n ∷ values) (Some b)
  with_folded values None b is first next = rw (first refl) (first_folded values is)
  with_folded values (Some a) b is first next = rw (next a refl) (next_folded values a is)

  pub folding_take : (folded : Option ℕ) (b : ℕ) → Folding f mask n folded → IsBitSet mask n
      → (folded ≡ None → b ≡ n)
      → ((a : ℕ) → folded ≡ Some a → b ≡ value_at f (n ∷ a ∷ []))
      → Folding f mask (n + 1) (Some b)
  folding_take folded b g set first next = record {
    values = n ∷ g.values;
    inside = All-cons (IsBitSet mask) n g.values set g.inside;
    complete = more g.values g.complete;
    is_folded = with_folded g.values folded b g.is_folded first next;
  }

module _ (f : Operation) (table : IsOpTable 2 f) (s : IsSemilattice f) (mask : ℕ) (small : mask < 2 ^ f.domain) where
  folding_mask : (folded : Option ℕ) (g : Folding f mask f.domain folded) → mask_of g.values ≡ mask
  folding_mask folded g = same_masks (mask_of g.values) mask
      (λ v set. All-contains (IsBitSet mask) g.values v g.inside (mask_set g.values v set))
      (λ v set. set_mask g.values v (g.complete v (set_below f.domain mask v small set) set))

  folded_value : (values : List ℕ) (a : ℕ) → IsFolded f values (Some a) → (1 ≤ length values) × (a ≡ fold_of f values)
  folded_value [] a is_folded = absurd is_folded
  folded_value (v ∷ values) a is_folded = (omega arith, is_folded)

  none_empty : (values : List ℕ) → IsFolded f values None → values ≡ []
  none_empty [] is_folded = refl
  none_empty (v ∷ values) is_folded = absurd is_folded

  -- where all values have been looked at, what was folded is the fold of the mask
  pub folding_all : (n : ℕ) (folded : Option ℕ) (b : ℕ) → n ≡ f.domain → 0 < mask → Folding f mask n folded
      → ((a : ℕ) → folded ≡ Some a → b ≡ a) → IsFoldAt f mask b
  folding_all n None b all some g is =
      let whole : Folding f mask f.domain None = subst (λ k. Folding f mask k None) all g in
      let empty : mask_of whole.values ≡ 0 = ap mask_of (none_empty whole.values whole.is_folded) in
      absurd (omega (arith, some, empty, folding_mask None whole))
  folding_all n (Some a) b all some g is = λ others others_some below same.
      let whole : Folding f mask f.domain (Some a) = subst (λ k. Folding f mask k (Some a)) all g in
      let found = folded_value whole.values a whole.is_folded in
      let values_below : All (λ v. v < f.domain) whole.values = λ k e inside. set_below f.domain mask (get_or whole.values k e) small (whole.inside k e inside) in
      is a refl ∙ (found.1 ∙ fold_of_mask f table s whole.values others found.0 others_some values_below below (folding_mask (Some a) whole ∙ sym same))

-- what holds of the first values of a list, and of one that is put behind them
pub put_more :
    (P : ℕ → ℕ → Type 0) (xs : List ℕ) (n x : ℕ)
    → n < length xs
    → ((k : ℕ) → k < n → P k (get_or xs k 0))
    → P n x
    → (k : ℕ) → k < n + 1 → P k (get_or (set xs n x) k 0)
put_more P xs n x inside before here k less = by (cases_eq k n)
  where
    by : (k ≡ n) ⊎ (k ≢ n) → P k (get_or (set xs n x) k 0)
    by (inl same) =
        let Q : ℕ → ℕ → Type 0 = P in
        subst (λ i. Q i (get_or (set xs n x) i 0)) (sym same) (subst (Q n) (sym (get_or-set_same xs n x 0 inside)) here)
    by (inr other) =
        let Q : ℕ → ℕ → Type 0 = P in
        subst (Q k) (sym (get_or-set_other xs n k x 0 other)) (before k (omega (arith, less, other)))

-- the domain has at most 31 nonempty sets of values
pub few_sets : (d e n : ℕ) → IsMask d n → d ≡ e → e ≤ 5 → n ≤ 31
few_sets d e n is same few =
    let top : n < 32 = (mask_more d 5 n (omega (arith, same, few)) is).below in
    omega (arith, top)

-- cells that hold the folds are those of the fold
module _ (f : Operation) (d n : ℕ) (cells : List ℕ) (same : d ≡ f.domain) (all : n ≡ 2 ^ d - 1) (room : n ≤ length cells)
    (below : (k : ℕ) → k < n → get_or cells k 0 < f.domain) where
  long : length (take n cells) ≡ n
  long = length-take-le n cells room

  pub front_function : IsSetFunction (record { domain = d; cells = take n cells })
  front_function = record {
    all_cells = long ∙ all;
    below = All-from_get_or (λ v. v < d) (take n cells) 0 (λ k inside.
        let here : k < n = omega (arith, inside, long) in
        rw (get_or-take n cells k 0 here, same) (below k here));
  }

  pub front_fold : ((k : ℕ) → k < n → IsFoldAt f (k + 1) (get_or cells k 0)) → IsFold f (record { domain = d; cells = take n cells })
  front_fold folds = record {
    same_domain = same;
    folds = λ values some values_below.
        let positive : 0 < mask_of values = mask_some values some in
        let small : mask_of values < 2 ^ f.domain = mask_below f.domain values values_below in
        let inside : mask_of values - 1 < n = at (mask_of values) (2 ^ d) positive (rw same small) all in
        get_or-take n cells (mask_of values - 1) 0 inside
        ∙ folds (mask_of values - 1) inside values some values_below (omega (arith, positive));
  }
    where
      at : (m p : ℕ) → 0 < m → m < p → n ≡ p - 1 → m - 1 < n
      at m p positive small is = omega (arith, positive, small, is)
