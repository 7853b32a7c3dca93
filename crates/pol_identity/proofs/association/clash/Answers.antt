use Rattle.std.proofs.lemmas.Bool.Decides.{Decides-eqb}
use Rattle.pol_optable.specs.Operations.{operation_of}
use Rattle.pol_identity.proofs.AssociationLemmas.{Inner, no_common, common, single_has}
use Rattle.pol_identity.proofs.association.clash.Goals as goal

pub returns-clause-none_within : goal.returns-clause-none_within
returns-clause-none_within c = λ empty cells within.
    let f = operation_of c.args.d 2 cells in
    let inner : Inner f c.args.x c.args.y c.args.z c.in-Some-only_value.left c.in-Some.right = record {
      left_is = c.in-Some-only_value.ensures.only _ (c.mask_at-2.ensures.within cells within);
      right_is = c.in-Some.ensures.only _ (c.mask_at.ensures.within cells within);
    } in
    no_common f c.args.x c.args.y c.args.z c.in-Some-only_value.left c.in-Some.right inner
    c.mask_at-3.result c.mask_at-4.result
    (c.mask_at-3.ensures.within cells within) (c.mask_at-4.ensures.within cells within)
    ((Decides-eqb _ 0).0 empty)

pub returns-clause-decides : goal.returns-clause-decides
returns-clause-decides c = λ cells single some.
    let f = operation_of c.args.d 2 cells in
    let inner : Inner f c.args.x c.args.y c.args.z c.in-Some-only_value.left c.in-Some.right = record {
      left_is = c.in-Some-only_value.ensures.only _ (single_has _ _ (c.mask_at-2.ensures.single cells single));
      right_is = c.in-Some.ensures.only _ (single_has _ _ (c.mask_at.ensures.single cells single));
    } in
    common f c.args.x c.args.y c.args.z c.in-Some-only_value.left c.in-Some.right inner
    c.mask_at-3.result c.mask_at-4.result
    (c.mask_at-3.ensures.single cells single) (c.mask_at-4.ensures.single cells single)
    (λ empty. some ((Decides-eqb _ 0).1 empty))
