use Rattle.pol_relation.specs.Relations.{names_of}
use Rattle.pol_base.proofs.LookupLemmas.{absent_name}
use Rattle.pol_lang.proofs.language_lines.begin_relation.Goals as goal

pub begin_relation-requires-clause-new_name : goal.begin_relation-requires-clause-new_name
begin_relation-requires-clause-new_name c = absent_name (names_of c.args.file.now.language) c.args.name.now c.requires.new_name
