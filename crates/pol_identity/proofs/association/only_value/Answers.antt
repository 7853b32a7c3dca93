use Rattle.pol_base.proofs.BitLemmas.{set_below}
use Rattle.pol_base.proofs.MaskLemmas.{mask_more}
use Rattle.pol_identity.proofs.association.only_value.Goals as goal

pub lowest_value-value-requires : goal.lowest_value-value-requires
lowest_value-value-requires c = record {
  mask = mask_more c.args.d 5 c.args.mask c.size-size.ensures.within.few c.requires.mask;
}

pub returns-then-mask-value_mask-clause-below : goal.returns-then-mask-value_mask-clause-below
returns-then-mask-value_mask-clause-below c =
    set_below c.args.d c.args.mask c.lowest_value-value.result c.requires.mask.below c.lowest_value-value.ensures.has
