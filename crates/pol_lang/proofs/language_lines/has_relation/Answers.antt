use Rattle.std.proofs.Common.{◌∙◌}
use Rattle.pol_relation.specs.Relations.{names_of}
use Rattle.pol_base.proofs.LookupLemmas.{is_some-lookup}
use Rattle.pol_relation.proofs.NameLookups.{relation-lookup}
use Rattle.pol_lang.proofs.language_lines.has_relation.Goals as goal

pub returns : goal.returns
returns c =
    let lookup = relation-lookup c.args.language.now c.args.name.now c.find.result c.find.ensures.known c.find.ensures.found c.find.ensures.none in
    record { name = c.is_some.ensures ∙ is_some-lookup (names_of c.args.language.now) c.args.name.now c.find.result lookup }
