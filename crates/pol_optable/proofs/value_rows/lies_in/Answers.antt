use Rattle.std.specs.Prelude.{bit_or}
use Rattle.std.proofs.lemmas.Bool.Decides.{Decides-eqb}
use Rattle.pol_optable.proofs.SetLemmas.{or_same}
use Rattle.pol_optable.proofs.value_rows.lies_in.Goals as goal

pub returns : goal.returns
returns c = record {
  within = (
    λ same. (or_same c.args.mask c.args.others).0 ((Decides-eqb (bit_or c.args.mask c.args.others) c.args.others).0 same),
    λ inside. (Decides-eqb (bit_or c.args.mask c.args.others) c.args.others).1 ((or_same c.args.mask c.args.others).1 inside),
  );
}
