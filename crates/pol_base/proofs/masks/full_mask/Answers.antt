use Rattle.std.proofs.Common.{ℕ, ◌≡◌, ◌^◌, ◌*◌, ◌%◌, ◌-◌, ◌≤◌, arith}
use Rattle.std.proofs.Math.Nat.{pow-le-pow_right}
use Rattle.pol_base.specs.Tuples.{IsDomain}
use Rattle.pol_base.specs.Masks.{IsMask}
use Rattle.pol_base.proofs.masks.full_mask.Goals as goal

-- the mask of all values of a domain
full : (d size : ℕ) → IsDomain d → size ≡ d → IsMask d (1 * 2 ^ size % 256 - 1)
full d size is same =
    let few : 2 ^ d ≤ 2 ^ 5 = pow-le-pow_right (omega arith) is.few in
    let some : 2 ^ 1 ≤ 2 ^ d = pow-le-pow_right (omega arith) is.some in
    rw same (record { some = omega arith; below = omega arith })

pub returns-clause-mask : goal.returns-clause-mask
returns-clause-mask c = full c.args.d c.size.result c.size.ensures.within c.size.ensures.size
