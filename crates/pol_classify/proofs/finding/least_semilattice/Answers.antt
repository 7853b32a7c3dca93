use Rattle.std.proofs.Common.{rules}
use Rattle.pol_classify.proofs.SizeLemmas.{few_of_two}
use Rattle.pol_classify.proofs.SetTables.{no_semilattice}
use Rattle.pol_classify.proofs.finding.least_semilattice.Goals as goal

pub least_op-requires : goal.least_op-requires
least_op-requires c =
    let few = few_of_two c.args.lang.now c.domain-domain.ensures.language in
    search rules

-- where there is no set function
pub returns-then-is_none : goal.returns-then-is_none
returns-then-is_none c = record {
  least = no_semilattice c.args.lang.now c.args.setfn.now c.domain-domain.ensures.language c.requires.setfn c.if-is_none.ensures;
}
