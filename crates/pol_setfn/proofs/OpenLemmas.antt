-- The values that are open to the cells of a set function that is sought.
use Rattle.std.proofs.Common.{◌≡◌, ◌≢◌, ℕ, ◌-◌, ◌<◌, ◌^◌, ◌⊎◌, inl, inr, List, [], length, length-set, set, replicate, get_or, Bool, refl, arith, sym, ap, ◌∙◌, subst}
use Rattle.std.specs.Prelude.{IsTrue, IsBitSet}
use Rattle.std.specs.List.{range_with_len}
use Rattle.std.proofs.lemmas.Bool.{cases_eq}
use Rattle.std.proofs.lemmas.Nat.{pow_pos, pow_below}
use Rattle.std.proofs.lemmas.Nat.Bits.{bit_at_ones}
use Rattle.std.proofs.lemmas.List.{get_or-set_same, get_or-set_other, get_or-replicate, length-replicate}
use Rattle.std.proofs.lemmas.List.FromFn.{length-range_with_len, get_or-range_with_len}
use Rattle.pol_base.specs.Masks.{IsMask, IsWithin}
use Rattle.pol_base.proofs.BitLemmas.{set_at, set_single}
use Rattle.pol_optable.specs.SetFunctions.{IsSetFunction}
use Rattle.pol_csp.specs.Problems.{ProblemView}
use Rattle.pol_csp.specs.Variables.{AreTied}
use Rattle.pol_setfn.specs.Sought.{IsIdempotent}
use Rattle.pol_setfn.specs.OpenCells.{IsOpen, AreOpen}
use Rattle.pol_setfn.specs.OpenCells.IsOpen.{all, one}

-- all values are open to each cell
pub open_first : (d : ℕ) (idempotent : Bool) (n : ℕ) → n ≡ 2 ^ d - 1
    → AreOpen d idempotent (record { domain = d; masks = replicate n (2 ^ d - 1); ties = range_with_len 0 n; constraints = [] })
open_first d idempotent n count = record {
  domain_is = refl;
  all_cells = length-replicate n (2 ^ d - 1) ∙ count;
  values_open = λ cell inside. all (get_or-replicate n cell (2 ^ d - 1) 0 (rw (length-replicate n (2 ^ d - 1)) at inside));
  own_ties = λ cell inside. get_or-range_with_len 0 n cell 0 (rw (length-range_with_len 0 n) at inside) ∙ omega arith;
}

-- the cell of one set of one value more is restricted
pub open_more : (d : ℕ) (idempotent : Bool) (p : ProblemView) (v cell mask : ℕ) → IsTrue idempotent → v < d → mask ≡ 2 ^ v → cell ≡ 2 ^ v - 1
    → AreOpen d idempotent p
    → AreOpen d idempotent (record { domain = p.domain; masks = set p.masks cell mask; ties = p.ties; constraints = p.constraints })
open_more d idempotent p v cell mask asked below is at before = record {
  domain_is = before.domain_is;
  all_cells = length-set p.masks cell mask ∙ before.all_cells;
  values_open = λ k inside. by k (rw (length-set p.masks cell mask) at inside) (cases_eq k cell);
  own_ties = before.own_ties;
}
  where
    by : (k : ℕ) → k < length p.masks → (k ≡ cell) ⊎ (k ≢ cell) → IsOpen d idempotent k (get_or (set p.masks cell mask) k 0)
    by k inside (inl same) =
        let value : get_or (set p.masks cell mask) k 0 ≡ mask = ap (λ i. get_or (set p.masks cell mask) i 0) same ∙ get_or-set_same p.masks cell mask 0 (subst (λ i. i < length p.masks) same inside) in
        one v asked below (value ∙ is) (same ∙ at)
    by k inside (inr other) = subst (IsOpen d idempotent k) (sym (get_or-set_other p.masks cell k mask 0 other)) (before.values_open k inside)

-- each value is that of a set, which has a cell
pub single_mask : (d v mask : ℕ) → v < d → mask ≡ 2 ^ v → IsMask d mask
single_mask d v mask below is = rw is (record { some = pow_pos v; below = pow_below v d below })

pub single_cell : (d v mask n : ℕ) → v < d → mask ≡ 2 ^ v → n ≡ 2 ^ d - 1 → mask - 1 < n
single_cell d v mask n below is count =
    let m = single_mask d v mask below is in
    let some : 0 < mask = m.some in
    let less : mask < 2 ^ d = m.below in
    omega (arith, some, less, count)

module _ (d : ℕ) (idempotent : Bool) (p : ProblemView) (are : AreOpen d idempotent p) where
  -- a set function that is idempotent where this is asked is within the masks
  pub open_within : (cells : List ℕ) → IsSetFunction (record { domain = d; cells = cells })
      → (IsTrue idempotent → IsIdempotent (record { domain = d; cells = cells }))
      → IsWithin p.masks cells
  open_within cells is singles = record {
    long = is.all_cells ∙ sym are.all_cells;
    within = λ k inside. within k inside (are.values_open k (omega (arith, inside, is.all_cells, are.all_cells)));
  }
    where
      within : (k : ℕ) → k < length cells → IsOpen d idempotent k (get_or p.masks k 0) → IsBitSet (get_or p.masks k 0) (get_or cells k 0)
      within k inside (all mask) = rw mask (set_at (2 ^ d - 1) (get_or cells k 0) (bit_at_ones d (get_or cells k 0) (is.below k 0 inside)))
      within k inside (one v asked below mask at) =
          let value : get_or cells k 0 ≡ v = ap (λ i. get_or cells i 0) at ∙ singles asked v below in
          rw (mask, value) (set_single v)

  pub open_tied : (cells : List ℕ) → AreTied p.ties cells
  open_tied cells k inside = ap (λ i. get_or cells i 0) (sym (are.own_ties k inside))
