use Rattle.std.proofs.Common.{◌≡◌, ◌∙◌, ℕ, List, length, take, ap, subst}
use Rattle.pol_relation.specs.Instances.{read_at}
use Rattle.pol_csp.specs.Narrowing.{Rejects}
use Rattle.pol_csp.proofs.SpreadLemmas.{known_variables, spread_masks, spread_rejects}
use Rattle.pol_csp.proofs.tied.TiedConditions.fails.Goals as goal

pub fails-requires-clause-masks : goal.fails-requires-clause-masks
fails-requires-clause-masks g c =
    let masks = c.args.masks.now in
    let of_cells = c.args.self.now.variables.now.of_cells.items in
    rw (c.spread-cells.ensures.read, c.as_slice-of_cells.ensures.value)
    (spread_masks c.args.lang.now.domain masks of_cells (known_variables _ _ of_cells (length masks) c.requires.taken)
    c.requires.masks)

pub returns : goal.returns
returns g c =
    let masks = c.args.masks.now in
    let of_cells = c.args.self.now.variables.now.of_cells.items in
    let W : List ℕ → Type 0 = g.C.Conditions.wanted c.args.self.now.conditions.now c.args.lang.now in
    let read : take (length c.as_slice-of_cells.result.now) c.spread-cells.result ≡ read_at masks of_cells =
    c.spread-cells.ensures.read ∙ ap (λ cells. read_at masks cells) c.as_slice-of_cells.ensures.value in
    record {
      none = λ failed. spread_rejects W masks of_cells (known_variables _ _ of_cells (length masks) c.requires.taken)
          (subst (Rejects W) read (c.fails.ensures.none failed));
    }
