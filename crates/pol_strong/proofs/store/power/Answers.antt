use Rattle.std.proofs.Common.{arith}
use Rattle.pol_strong.proofs.RankLemmas.{power_few}
use Rattle.pol_strong.proofs.store.power.Goals as goal

pub pow-requires : goal.pow-requires
pow-requires c = omega (arith, power_few c.args.base c.args.k c.requires.small c.requires.few)

pub returns-clause-few : goal.returns-clause-few
returns-clause-few c = omega (arith, c.pow.ensures, power_few c.args.base c.args.k c.requires.small c.requires.few)
