-- The masks of variables, shared a cell at a time.
use Rattle.std.proofs.Common.{◌≡◌, ℕ, ◌+◌, ◌<◌, ◌^◌, arith, sym, ◌∙◌, ap, refl, List, get_or, set, length, length-set}
use Rattle.std.proofs.Common.{All, inl, inr, ◌⊎◌, subst}
use Rattle.std.specs.Prelude.{◌≢◌, bit_and, IsBitSet}
use Rattle.std.proofs.lemmas.List.{get_or-set_same, get_or-set_other, get_or_default, get_or_read}
use Rattle.std.proofs.lemmas.List.Elements.{All-set}
use Rattle.std.proofs.lemmas.Nat.{and_comm, and_le_l}
use Rattle.std.proofs.lemmas.Bool.{cases_eq}
use Rattle.pol_base.specs.Masks.{IsMask, AreMasks, IsWithin}
use Rattle.pol_base.proofs.BitLemmas.{set_and, set_left, set_pos}
use Rattle.pol_relation.specs.Instances.{read_at}
use Rattle.pol_csp.specs.Variables.{AreVariables, AreShared}
use Rattle.pol_csp.proofs.SpreadLemmas.{spread_at, length-spread, spread_masks}

-- the value is open to each of the cells below a count that have the variable
abbrev pub IsOpenBelow : List ℕ → List ℕ → ℕ → ℕ → ℕ → Type 0
IsOpenBelow variables cells count v x =
    (k : ℕ) → k < count → get_or variables k 0 ≡ v → IsBitSet (get_or cells k 0) x

-- the masks have the values that are open to the first cell of each variable and to its cells below a count
pub record IsSharing (firsts variables cells : List ℕ) (count : ℕ) (masks : List ℕ) : Type 0 where
  pub long : length masks ≡ length firsts
  pub are_masks : (d : ℕ) → AreMasks d cells → AreMasks d masks
  pub only : (v x : ℕ)
      → v < length firsts
      → IsBitSet (get_or masks v 0) x
      → IsOpenBelow variables cells count v x
  pub all : (v x : ℕ)
      → v < length firsts
      → IsBitSet (get_or cells (get_or firsts v 0) 0) x
      → IsOpenBelow variables cells count v x
      → IsBitSet (get_or masks v 0) x

set_right : (a b v : ℕ) → IsBitSet (bit_and a b) v → IsBitSet b v
set_right a b v s = set_left b a v (subst (λ m. IsBitSet m v) (and_comm a b) s)

-- what is read for one cell: its variable, and the mask of the variable
pub record IsReadFor (variables masks : List ℕ) (count v m : ℕ) : Type 0 where
  pub variable : v ≡ get_or variables count 0
  pub mask : m ≡ get_or masks (get_or variables count 0) 0

module _ (firsts variables cells : List ℕ)
    (are : AreVariables firsts variables) (counted : length cells ≡ length variables) where
  -- each first cell has a mask
  pub firsts_inside : All (λ cell. cell < length cells) firsts
  firsts_inside k d h =
      let inside : get_or firsts k 0 < length variables = (are.first k h).inside in
      rw (get_or_default firsts k d 0 h) (omega (arith, counted))

  -- at first the masks of the first cells
  pub sharing_first : IsSharing firsts variables cells 0 (read_at cells firsts)
  sharing_first = record {
    long = length-spread cells firsts;
    are_masks = λ d masks. spread_masks d cells firsts firsts_inside masks;
    only = λ v x known s k h. absurd (omega arith);
    all = λ v x known first below. rw (spread_at cells firsts v known) first;
  }

  -- from what the two look-ups answer
  pub read_for : (count v m : ℕ) (masks : List ℕ)
      → count < length variables
      → IsSharing firsts variables cells count masks
      → v ≡ get_or variables count v
      → m ≡ get_or masks v m
      → IsReadFor variables masks count v m
  read_for count v m masks inside sharing at here =
      let variable : v ≡ get_or variables count 0 = get_or_read variables count v inside at 0 in
      let low : get_or variables count 0 < length firsts = are.below count 0 inside in
      let known : v < length masks = omega (arith, sharing.long) in
      record { variable = variable; mask = get_or_read masks v m known here 0 ∙ ap (λ w. get_or masks w 0) variable }

  -- the mask of one cell more
  pub sharing_more : (count : ℕ) (masks : List ℕ)
      → count < length variables
      → IsSharing firsts variables cells count masks
      → bit_and (get_or masks (get_or variables count 0) 0) (get_or cells count 0) ≢ 0
      → IsSharing firsts variables cells (count + 1)
      (set masks (get_or variables count 0)
      (bit_and (get_or masks (get_or variables count 0) 0) (get_or cells count 0)))
  sharing_more count masks inside sharing some = record {
    long = length-set masks w left ∙ sharing.long;
    are_masks = λ d cells_are.
        let masks_are = sharing.are_masks d cells_are in
        All-set (IsMask d) masks w left (left_is d masks_are) masks_are;
    only = only;
    all = all;
  }
    where
      w : ℕ
      w = get_or variables count 0

      left : ℕ
      left = bit_and (get_or masks w 0) (get_or cells count 0)

      known : w < length masks
      known = let h : w < length firsts = are.below count 0 inside in omega (arith, sharing.long)

      left_is : (d : ℕ) → AreMasks d masks → IsMask d left
      left_is d masks_are = record {
        some = omega arith;
        below =
            let top : get_or masks w 0 < 2 ^ d = (masks_are w 0 known).below in
            omega (arith, and_le_l (get_or masks w 0) (get_or cells count 0));
      }

      only : (v x : ℕ)
          → v < length firsts
          → IsBitSet (get_or (set masks w left) v 0) x
          → IsOpenBelow variables cells (count + 1) v x
      only v x low s k h same = by (cases_eq v w) (cases_eq k count)
        where
          by : (v ≡ w) ⊎ (v ≢ w) → (k ≡ count) ⊎ (k ≢ count) → IsBitSet (get_or cells k 0) x
          by (inl e) (inl f) =
              let both : IsBitSet left x = rw (e, get_or-set_same masks w left 0 known) at s in
              rw f (set_right (get_or masks w 0) (get_or cells count 0) x both)
          by (inl e) (inr nf) =
              let both : IsBitSet left x = rw (e, get_or-set_same masks w left 0 known) at s in
              let held = set_left (get_or masks w 0) (get_or cells count 0) x both in
              sharing.only v x low (rw e held) k (omega arith) same
          by (inr ne) (inl f) = absurd (ne (sym same ∙ ap (λ i. get_or variables i 0) f))
          by (inr ne) (inr nf) =
              sharing.only v x low (rw (get_or-set_other masks w v left 0 ne) at s) k (omega arith) same

      all : (v x : ℕ)
          → v < length firsts
          → IsBitSet (get_or cells (get_or firsts v 0) 0) x
          → IsOpenBelow variables cells (count + 1) v x
          → IsBitSet (get_or (set masks w left) v 0) x
      all v x low first opened = by (cases_eq v w)
        where
          before : IsBitSet (get_or masks v 0) x
          before = sharing.all v x low first (λ k h same. opened k (omega arith) same)

          by : (v ≡ w) ⊎ (v ≢ w) → IsBitSet (get_or (set masks w left) v 0) x
          by (inl e) =
              rw (e, get_or-set_same masks w left 0 known)
              (set_and (get_or masks w 0) (get_or cells count 0) x
              (rw e at before) (opened count (omega arith) (sym e)))
          by (inr ne) = rw (get_or-set_other masks w v left 0 ne) before

  -- values of the variables that are within the cells' masks are open to each cell
  open_at : (xs : List ℕ)
      → IsWithin cells (read_at xs variables)
      → (k v : ℕ)
      → k < length variables
      → get_or variables k 0 ≡ v
      → IsBitSet (get_or cells k 0) (get_or xs v 0)
  open_at xs w k v inside same =
      let here : IsBitSet (get_or cells k 0) (get_or (read_at xs variables) k 0) =
      w.within k (omega (arith, length-spread xs variables)) in
      rw (spread_at xs variables k inside, same) at here

  -- where a cell has no value in common with its variable's mask
  pub sharing_none : (count : ℕ) (masks : List ℕ)
      → count < length variables
      → IsSharing firsts variables cells count masks
      → bit_and (get_or masks (get_or variables count 0) 0) (get_or cells count 0) ≡ 0
      → (xs : List ℕ)
      → IsWithin cells (read_at xs variables)
      → ⊥
  sharing_none count masks inside sharing none xs w =
      let v = get_or variables count 0 in
      let low : v < length firsts = are.below count 0 inside in
      let first = are.first v low in
      let m = get_or masks v 0 in
      let n = get_or cells count 0 in
      let x = get_or xs v 0 in
      let held : IsBitSet m x =
      sharing.all v x low (open_at xs w (get_or firsts v 0) v first.inside first.here)
      (λ k h same. open_at xs w k v (omega arith) same) in
      let some : 0 < bit_and m n = set_pos (bit_and m n) x (set_and m n x held (open_at xs w count v inside refl)) in
      omega arith

  -- with the masks of all cells
  pub sharing_all : (masks : List ℕ)
      → IsSharing firsts variables cells (length cells) masks
      → AreShared firsts variables cells masks
  sharing_all masks sharing = record {
    long = sharing.long;
    are_masks = sharing.are_masks;
    within = λ xs long. (there xs, back xs long);
  }
    where
      there : (xs : List ℕ) → IsWithin masks xs → IsWithin cells (read_at xs variables)
      there xs w = record { long = length-spread xs variables ∙ sym counted; within = within }
        where
          within : (k : ℕ)
              → k < length (read_at xs variables)
              → IsBitSet (get_or cells k 0) (get_or (read_at xs variables) k 0)
          within k h =
              let inside : k < length variables = omega (arith, length-spread xs variables) in
              let low : get_or variables k 0 < length firsts = are.below k 0 inside in
              let v = get_or variables k 0 in
              let held = w.within v (omega (arith, w.long, sharing.long)) in
              rw (spread_at xs variables k inside)
              (sharing.only v (get_or xs v 0) low held k (omega (arith, counted)) refl)

      back : (xs : List ℕ)
          → length xs ≡ length firsts
          → IsWithin cells (read_at xs variables)
          → IsWithin masks xs
      back xs long w = record { long = long ∙ sym sharing.long; within = within }
        where
          within : (v : ℕ) → v < length xs → IsBitSet (get_or masks v 0) (get_or xs v 0)
          within v h =
              let low : v < length firsts = omega (arith, long) in
              let first = are.first v low in
              let here = open_at xs w (get_or firsts v 0) v first.inside first.here in
              sharing.all v (get_or xs v 0) low here
              (λ k below same. open_at xs w k v (omega (arith, counted)) same)
