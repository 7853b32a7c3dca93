use Rattle.std.proofs.Common.{◌≡◌, [], ap, ◌∙◌}
use Rattle.pol_lang.specs.Files.{FileView}
use Rattle.pol_lang.proofs.FileLemmas.{IsFile-with_relation}
use Rattle.pol_lang.proofs.file.File.begin_relation.Goals as goal

pub invariant_of-self-2 : goal.invariant_of-self-2
invariant_of-self-2 c =
    let file : FileView = record { language = c.self.inside.language; instances = c.self.inside.instances.items } in
    let lang = c.self.inside.language in
    let begun : c.new-relation.result ≡ record { domain = lang.domain; arity = c.args.arity; rows = [] } = c.new-relation.ensures.empty ∙ ap (λ d. record { domain = d; arity = c.args.arity; rows = [] }) c.domain.ensures.domain in
    let needs = rw (← c.self.view_is) at c.requires in
    rw (c.in_ok-add_relation.ensures.ok, begun)
    (IsFile-with_relation file c.args.name.now c.args.arity c.self.invariant needs.no_instances needs.name needs.new_name needs.some_places needs.few_places needs.room needs.few_subsets)
