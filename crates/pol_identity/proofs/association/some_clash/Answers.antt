use Rattle.std.proofs.Common.{◌≡◌, ◌<◌, inl, inr, arith}
use Rattle.std.proofs.lemmas.Bool.{cases_lt}
use Rattle.pol_identity.proofs.association.some_clash.Goals as goal

pub loop-y-preserved : goal.loop-y-preserved
loop-y-preserved c = λ y z y_below z_below cells single.
    elim (cases_lt y c.loop-y.y) [
      | inl before ↦ c.loop-y.invariant y z before z_below cells single
      | inr here ↦
          let same : y ≡ c.loop-y.y = omega (arith, here, y_below) in
          let inside : z < c.loop-z.z = omega (arith, z_below, c.loop-z-test.false) in
          rw same (c.loop-z.invariant z inside cells single)
    ]

pub loop-x-preserved : goal.loop-x-preserved
loop-x-preserved c = λ x y z x_below y_below z_below cells single.
    elim (cases_lt x c.loop-x.x) [
      | inl before ↦ c.loop-x.invariant x y z before y_below z_below cells single
      | inr here ↦
          let same : x ≡ c.loop-x.x = omega (arith, here, x_below) in
          let inside : y < c.loop-y.y = omega (arith, y_below, c.loop-y-test.false) in
          rw same (c.loop-y.invariant y z inside z_below cells single)
    ]
