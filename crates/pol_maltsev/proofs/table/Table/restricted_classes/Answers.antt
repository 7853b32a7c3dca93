use Rattle.std.specs.Prelude.{slice_index}
use Rattle.std.proofs.lemmas.Result.{IfOk-weaker}
use Rattle.pol_maltsev.specs.Orders.{InFront}
use Rattle.pol_maltsev.specs.Restrictions.{IsEarlyClass}
use Rattle.pol_maltsev.specs.Views.{AreMade}
use Rattle.pol_maltsev.specs.Samples.{AreRestricted}
use Rattle.pol_maltsev.proofs.RestrictedPlaces.{early_restricted, kept_before}
use Rattle.pol_maltsev.proofs.table.Table.restricted_classes.Goals as goal

-- the rows before are kept members
pub late_classes-requires : goal.late_classes-requires
late_classes-requires g c = (
  record { sound = c.requires.0.sound; position = c.requires.1.1.1.0; late = rw c.requires.1.1.0 c.if-k-q.false; preserved = c.requires.0.preserved },
  kept_before c.args.op.now c.args.self.now g.kept c.args.k c.args.places.now c.requires.0 c.requires.1.1.1.1,
)

-- the first places, by the listed rows
pub returns-then-k-q : goal.returns-then-k-q
returns-then-k-q g c =
    let f = c.args.op.now in
    let v = c.args.self.now in
    record {
      restricted = IfOk-weaker c.early_classes.result (AreMade (IsEarlyClass v.domain c.args.found.now (InFront v.order c.args.k) (slice_index v.order c.args.k)) v.domain v.width v.domain) (AreRestricted f v g.kept c.args.k c.args.places.now)
          (λ made h. early_restricted f v g.kept c.args.k c.args.places.now made c.requires.0.sound.same_domain (rw c.requires.1.1.0 c.if-k-q.true) (rw c.requires.1.0 h)) c.early_classes.ensures.made;
    }
