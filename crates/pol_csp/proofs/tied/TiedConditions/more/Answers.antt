use Rattle.std.proofs.Common.{◌≡◌, ◌∙◌, sym, ℕ, List, length, take, ap, subst}
use Rattle.pol_relation.specs.Instances.{read_at}
use Rattle.pol_relation.proofs.SolutionLemmas.{IsTuple-read_at}
use Rattle.pol_csp.specs.Searching.{FollowFrom}
use Rattle.pol_csp.proofs.SpreadLemmas.{known_variables, length-spread, follow_spread}
use Rattle.pol_csp.proofs.tied.TiedConditions.more.Goals as goal

pub more-requires-clause-tuple : goal.more-requires-clause-tuple
more-requires-clause-tuple g c =
    let values = c.args.values.now in
    let of_cells = c.args.self.now.variables.now.of_cells.items in
    rw (c.spread-cells.ensures.read, c.as_slice-of_cells.ensures.value)
    (IsTuple-read_at c.args.lang.now.domain (length values) (length (read_at values of_cells)) values of_cells
    c.requires.tuple (known_variables _ _ of_cells (length values) c.requires.taken)
    (sym (length-spread values of_cells)))

pub returns-clause-follow : goal.returns-clause-follow
returns-clause-follow g c =
    let values = c.args.values.now in
    let of_cells = c.args.self.now.variables.now.of_cells.items in
    let W : List ℕ → Type 0 = g.C.Conditions.wanted c.args.self.now.conditions.now c.args.lang.now in
    let cells = c.as_slice-of_cells.result.now in
    let of_cells_are : cells ≡ of_cells = c.as_slice-of_cells.ensures.value in
    let long : length (take (length cells) c.spread-cells.result) ≡ length of_cells =
    ap length (c.spread-cells.ensures.read) ∙ length-spread values cells ∙ ap length of_cells_are in
    let found : FollowFrom W c.args.lang.now (length of_cells) c.more.new.pool =
    subst (λ n. FollowFrom W c.args.lang.now n c.more.new.pool) long c.in_ok-wanted.ensures.follow in
    rw (c.in_ok-add_on_variables.ensures.added, c.as_slice-of_cells.ensures.value)
    (follow_spread W c.args.lang.now (length values) of_cells c.more.new.pool c.args.pool.now
    (known_variables _ _ of_cells (length values) c.requires.taken) found c.requires.follow)
