use Rattle.std.proofs.Common.{◌≡◌, ◌∙◌, sym, ℕ}
use Rattle.pol_maltsev.specs.Orders.{InFront}
use Rattle.pol_maltsev.specs.Restrictions.{first_row, IsSharer, IsJoinedTo, SharesBase}
use Rattle.pol_maltsev.proofs.EarlyLemmas.{base_found, owner_found, shares_joined, some_weaker, none_weaker}
use Rattle.pol_maltsev.proofs.table.Table.joined_to.Goals as goal

-- the row is joined to the base
pub returns-in-Some-clause-joined : goal.returns-in-Some-clause-joined
returns-in-Some-clause-joined c =
    let rows = c.args.rows.now in
    let S = InFront c.args.self.now.order c.args.k in
    let j = c.place-j.result in
    let base : c.as_slice.result.now ≡ first_row rows j c.args.b = c.as_slice.ensures.values ∙ base_found rows j c.args.b c.in-Some.base c.index-rows-base.result c.in-Some.ensures.first c.index-rows-base.is in
    rw (sym c.place-j.ensures.place)
    (some_weaker c.sharer.result (IsSharer rows S j c.args.c (first_row rows j c.args.b)) (IsJoinedTo rows S j c.args.b c.args.c)
    (λ i h. record { owner = owner_found rows j c.args.b c.in-Some.base c.in-Some.ensures.first; sharer = h }) (rw base at c.sharer.ensures.shares))

-- or no row is
pub returns-in-Some-clause-none : goal.returns-in-Some-clause-none
returns-in-Some-clause-none c =
    let rows = c.args.rows.now in
    let S = InFront c.args.self.now.order c.args.k in
    let j = c.place-j.result in
    let base : c.as_slice.result.now ≡ first_row rows j c.args.b = c.as_slice.ensures.values ∙ base_found rows j c.args.b c.in-Some.base c.index-rows-base.result c.in-Some.ensures.first c.index-rows-base.is in
    rw (sym c.place-j.ensures.place)
    (none_weaker c.sharer.result ((i : ℕ) → ¬ IsSharer rows S j c.args.c (first_row rows j c.args.b) i) (¬ SharesBase rows S j (first_row rows j) c.args.c c.args.b)
    (λ none h. shares_joined rows S j c.args.b c.args.c h none) (rw base at c.sharer.ensures.none))
