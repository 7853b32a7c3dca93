use Rattle.std.proofs.Common.{◌≡◌, ◌<◌, ◌-◌, length, get_or, set, ap, sym, ◌∙◌, arith}
use Rattle.std.proofs.lemmas.List.{get_or_default}
use Rattle.pol_relation.specs.Instances.{ConstraintView, with_constraint}
use Rattle.pol_relation.specs.Relations.{relation_of}
use Rattle.pol_lang.specs.Files.{FileView, no_instance, with_constraint_at_last}
use Rattle.pol_relation.proofs.RelationLemmas.{IsRelationOver-relation_of}
use Rattle.pol_lang.proofs.FileLemmas.{IsFile-with_last_constraint, set-with_constraint}
use Rattle.pol_lang.proofs.file.File.add_constraint.Goals as goal

abbrev constraint : goal.In_ok-add_constraint → ConstraintView
constraint c = record { relation = c.args.relation; scope = c.args.scope.now }

-- the constraint is added to the last instance
added : (c : goal.In_ok-add_constraint) → set c.self.inside.instances.items (c.instances-last.result - 1) c.add_constraint.new.self ≡ with_constraint_at_last (constraint c) c.self.inside.instances.items
added c =
    let instances = c.self.inside.instances.items in
    let needs = rw (← c.self.view_is) at c.requires in
    let some : 0 < length instances = needs.some in
    let long : c.instances-last.result ≡ length instances = c.instances-last.ensures.count ∙ ap (λ (file : FileView). length file.instances) (sym c.self.view_is) in
    let last : c.index_mut-inst.result.now ≡ get_or instances (length instances - 1) no_instance =
    c.index_mut-inst.ensures.value ∙ (ap (λ n. get_or instances (n - 1) c.index_mut-inst.result.now) long ∙ get_or_default instances (length instances - 1) c.index_mut-inst.result.now no_instance (omega arith)) in
    let new : c.add_constraint.new.self ≡ with_constraint (get_or instances (length instances - 1) no_instance) (constraint c) = c.in_ok-add_constraint.ensures.ok ∙ ap (λ inst. with_constraint inst (constraint c)) last in
    rw (long, new) (set-with_constraint (constraint c) instances some)

pub invariant_of-self-2 : goal.invariant_of-self-2
invariant_of-self-2 c =
    let file : FileView = record { language = c.self.inside.language; instances = c.self.inside.instances.items } in
    let needs = rw (← c.self.view_is) at c.requires in
    let over = IsRelationOver-relation_of file.language c.args.relation c.self.invariant.language_is.is_language needs.fits.known in
    let long : length c.args.scope.now ≡ (relation_of file.language c.args.relation).arity = needs.fits.long in
    let some = over.is_relation.some_places in
    let few = over.is_relation.few_places in
    rw (added c) (IsFile-with_last_constraint file (constraint c) c.self.invariant needs.fits (omega arith) (omega arith) needs.room)

pub returns-clause-ok : goal.returns-clause-ok
returns-clause-ok c = rw (← c.self.view_is) (ap (λ instances. record { language = c.self.inside.language; instances = instances }) (added c))
