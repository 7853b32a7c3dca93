use Rattle.pol_lang.specs.Files.{FileView}
use Rattle.pol_lang.proofs.FileLemmas.{IsFile-with_instance}
use Rattle.pol_lang.proofs.file.File.push.Goals as goal

pub invariant_of-self-2 : goal.invariant_of-self-2
invariant_of-self-2 c =
    let file : FileView = record { language = c.self.inside.language; instances = c.self.inside.instances.items } in
    let taken = rw (← c.self.view_is) at c.requires.can_take in
    rw c.in_ok-push.ensures.items (IsFile-with_instance file c.args.inst c.self.invariant taken.is_file_instance taken.new_name taken.room)
