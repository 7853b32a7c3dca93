use Rattle.std.proofs.Common.{refl, ◌≡◌, ◌+◌, ◌-◌, ◌*◌, ◌^◌, arith, add-one}
use Rattle.std.proofs.Math.Nat.{pow-suc, div-div-eq-div-mul}
use Rattle.pol_base.proofs.CellLemmas.{get_or-digits_of}
use Rattle.pol_base.proofs.numbering.digit.Goals as goal

pub loop-preserved : goal.loop-preserved
loop-preserved c =
    let one_more : c.loop.counter + 1 - (c.args.place + 1) ≡ c.loop.counter - (c.args.place + 1) + 1 = omega arith in
    let power : c.args.d ^ (c.loop.counter - (c.args.place + 1) + 1) ≡ c.args.d ^ (c.loop.counter - (c.args.place + 1)) * c.args.d = rw (add-one, pow-suc) refl in
    let quotients = div-div-eq-div-mul c.args.cell (c.args.d ^ (c.loop.counter - (c.args.place + 1))) c.args.d in
    rw (one_more, power) (cc)

pub returns-clause-digit : goal.returns-clause-digit
returns-clause-digit c =
    let at_place = get_or-digits_of c.args.d c.args.k c.args.cell c.args.place c.size.ensures.within.some c.requires.place c.requires.cell in
    let whole : c.loop.counter ≡ c.args.k = omega arith in
    cc
