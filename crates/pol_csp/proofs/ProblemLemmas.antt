-- A problem that is begun.
use Rattle.std.proofs.Common.{◌≡◌, ℕ, ◌+◌, ◌-◌, ◌<◌, ◌≤◌, ◌^◌, arith, sym, ◌∙◌, [], ◌∷◌, get_or, length, replicate}
use Rattle.std.specs.Prelude.{◌++◌}
use Rattle.std.specs.List.{range_with_len}
use Rattle.std.proofs.lemmas.List.{length-replicate, map-id}
use Rattle.std.proofs.lemmas.List.Elements.{All-nil, All-replicate}
use Rattle.std.proofs.lemmas.List.FromFn.{length-range_with_len, get_or-range_with_len, map-range_with_len_more}
use Rattle.pol_base.specs.Tuples.{IsDomain}
use Rattle.pol_base.specs.Masks.{IsMask}
use Rattle.pol_relation.specs.Instances.{IsScope}
use Rattle.pol_csp.specs.Problems.{IsProblem}

-- one more cell that is tied to itself
pub ties_more : (cell : ℕ) → range_with_len 0 cell ++ cell ∷ [] ≡ range_with_len 0 (cell + 1)
ties_more cell =
    let more = map-range_with_len_more (λ (x : ℕ). x) 0 cell cell (omega arith) in
    sym (rw (map-id (range_with_len 0 (cell + 1)), map-id (range_with_len 0 cell)) at more)

-- all values are open to each cell, and each is tied to itself
pub IsProblem-begun : (d cells : ℕ)
    → IsDomain d
    → IsMask d (2 ^ d - 1)
    → 1 ≤ cells
    → cells ≤ 4096
    → IsProblem (record {
      domain = d;
      masks = replicate cells (2 ^ d - 1);
      ties = range_with_len 0 cells;
      constraints = [];
    })
IsProblem-begun d cells domain full some few = record {
  domain_is = domain;
  some_cells = rw long some;
  few_cells = rw long few;
  are_masks = All-replicate (IsMask d) cells (2 ^ d - 1) full;
  all_tied = length-range_with_len 0 cells ∙ sym long;
  are_ties = λ c h. itself c (rw (length-range_with_len 0 cells) at h);
  few_constraints = omega arith;
  scopes = All-nil (λ c. IsScope (length (replicate cells (2 ^ d - 1))) c.scope);
}
  where
    long : length (replicate cells (2 ^ d - 1)) ≡ cells
    long = length-replicate cells (2 ^ d - 1)

    itself : (c : ℕ) → c < cells → get_or (range_with_len 0 cells) c 0 ≤ c
    itself c h = omega (arith, get_or-range_with_len 0 cells c 0 h)
