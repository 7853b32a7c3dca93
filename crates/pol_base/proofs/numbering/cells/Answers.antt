-- a domain of one value has one cell for any number of arguments
use Rattle.std.proofs.Common.{◌≡◌, ◌^◌, refl, arith, add-one, ◌*◌, ◌+◌, ◌<◌}
use Rattle.std.proofs.Math.Nat.{pow-suc}
use Rattle.pol_base.proofs.CellLemmas.{power_of_one, power_monotone}
use Rattle.pol_base.proofs.numbering.cells.Goals as goal

pub returns-then-size-eq1-clause-none : goal.returns-then-size-eq1-clause-none
returns-then-size-eq1-clause-none c =
    let one : c.args.d ≡ 1 = cc in
    rw (one, power_of_one) (λ h. cc, λ h. absurd (omega arith))

pub returns-then-size-eq1-clause-power : goal.returns-then-size-eq1-clause-power
returns-then-size-eq1-clause-power c = let one : c.args.d ≡ 1 = cc in rw (one, power_of_one) refl

-- the power so far is past the limit, and only grows
pub returns-then-power-gt-MOST_CELLS-clause-none : goal.returns-then-power-gt-MOST_CELLS-clause-none
returns-then-power-gt-MOST_CELLS-clause-none c =
    let next : c.args.d ^ (c.loop.counter + 1) ≡ c.args.d ^ c.loop.counter * c.args.d = rw (add-one, pow-suc) refl in
    let same : c.loop.power * c.from-size.result ≡ c.args.d ^ (c.loop.counter + 1) = cc in
    let grown = power_monotone c.args.d (c.loop.counter + 1) c.args.k c.size.ensures.within.some (omega arith) in
    let past : 15625 < c.args.d ^ c.args.k = omega arith in
    (λ h. past, λ h. refl)
