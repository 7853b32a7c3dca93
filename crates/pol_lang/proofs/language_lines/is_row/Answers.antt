use Rattle.std.proofs.lemmas.Bool.Decides.{same_from_decides}
use Rattle.pol_base.specs.Lists.{is_among}
use Rattle.pol_base.proofs.LookupLemmas.{is_among-decides}
use Rattle.pol_lang.proofs.language_lines.is_row.Goals as goal

pub returns : goal.returns
returns c = record { row = same_from_decides c.has.result (is_among c.args.relation.now.rows c.args.tuple.now) c.has.ensures.row (is_among-decides c.args.relation.now.rows c.args.tuple.now) }
