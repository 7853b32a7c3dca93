use Rattle.std.proofs.Common.{subst, sym, ap, ◌≡◌, ◌+◌, ◌∙◌}
use Rattle.std.specs.Prelude.{slice_index}
use Rattle.pol_maltsev.specs.Views.{IsTableView}
use Rattle.pol_maltsev.proofs.SwapTables.{replaced, replaced_view}
use Rattle.pol_maltsev.proofs.table.Table.replace.Goals as goal

-- rows and roots are at each place
pub invariant_of-self : goal.invariant_of-self
invariant_of-self c =
    let x : c.place-x.result ≡ slice_index c.self.inside.order.items c.args.k = c.place-x.ensures.place ∙ ap (λ v. slice_index v.order c.args.k) (sym c.self.view_is) in
    let y : c.place-y.result ≡ slice_index c.self.inside.order.items (c.args.k + 1) = c.place-y.ensures.place ∙ ap (λ v. slice_index v.order (c.args.k + 1)) (sym c.self.view_is) in
    rw (x, y)
    (subst (λ v. IsTableView (replaced v c.args.k c.args.late c.args.early)) (sym c.self.view_is)
    (replaced_view c.args.self.now c.args.k c.args.late c.args.early c.place-x.ensures.view c.requires.position c.requires.late c.requires.early))

pub returns-clause-view : goal.returns-clause-view
returns-clause-view c =
    let x : c.place-x.result ≡ slice_index c.self.inside.order.items c.args.k = c.place-x.ensures.place ∙ ap (λ v. slice_index v.order c.args.k) (sym c.self.view_is) in
    let y : c.place-y.result ≡ slice_index c.self.inside.order.items (c.args.k + 1) = c.place-y.ensures.place ∙ ap (λ v. slice_index v.order (c.args.k + 1)) (sym c.self.view_is) in
    rw (x, y)
    (subst (λ v. IsTableView (replaced v c.args.k c.args.late c.args.early)) (sym c.self.view_is)
    (replaced_view c.args.self.now c.args.k c.args.late c.args.early c.place-x.ensures.view c.requires.position c.requires.late c.requires.early))
