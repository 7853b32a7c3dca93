use Rattle.std.proofs.Common.{◌∙◌}
use Rattle.pol_lang.specs.Files.{instance_names}
use Rattle.pol_lang.proofs.NameLemmas.{instance-lookup}
use Rattle.pol_base.proofs.LookupLemmas.{is_some-lookup}
use Rattle.pol_lang.proofs.instance_lines.has_instance.Goals as goal

pub returns : goal.returns
returns c =
    let lookup = instance-lookup c.args.file.now c.args.name.now c.find_instance.result c.find_instance.ensures.known c.find_instance.ensures.found c.find_instance.ensures.none in
    record { name = c.is_some.ensures ∙ is_some-lookup (instance_names c.args.file.now) c.args.name.now c.find_instance.result lookup }
