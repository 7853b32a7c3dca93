use Rattle.pol_lang.specs.Files.{FileView}
use Rattle.pol_lang.proofs.FileLemmas.{IsFile-with_row}
use Rattle.pol_lang.proofs.file.File.insert.Goals as goal

pub invariant_of-self-2 : goal.invariant_of-self-2
invariant_of-self-2 c =
    let file : FileView = record { language = c.self.inside.language; instances = c.self.inside.instances.items } in
    let needs = rw (← c.self.view_is) at c.requires in
    rw c.in_ok-insert.ensures.ok (IsFile-with_row file c.args.tuple.now c.self.invariant needs.no_instances needs.some needs.tuple needs.new_tuple needs.few_tuples needs.few_triples)
