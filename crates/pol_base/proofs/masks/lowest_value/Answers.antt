use Rattle.std.specs.Int.{trailing_zeros, w8}
use Rattle.pol_base.proofs.BitLemmas.{set_below}
use Rattle.pol_base.proofs.MaskLemmas.{lowest_set, lowest_least}
use Rattle.pol_base.proofs.masks.lowest_value.Goals as goal

pub returns-clause-has : goal.returns-clause-has
returns-clause-has c = lowest_set c.args.mask c.requires.mask

pub returns-clause-least : goal.returns-clause-least
returns-clause-least c v has = lowest_least c.args.mask v c.requires.mask has

pub returns-clause-below : goal.returns-clause-below
returns-clause-below c = set_below 5 c.args.mask (trailing_zeros w8 c.args.mask) c.requires.mask.below (lowest_set c.args.mask c.requires.mask)
