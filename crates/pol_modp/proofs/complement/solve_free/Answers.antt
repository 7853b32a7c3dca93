use Rattle.std.proofs.Common.{◌≡◌, ◌≢◌, ℕ, zero, suc, ◌+◌, ◌<◌, length, get_or, refl, ap, ◌∙◌, arith}
use Rattle.std.specs.Prelude.{replicate}
use Rattle.std.proofs.lemmas.List.{length-set, length-replicate, get_or-set_same, get_or-set_other}
use Rattle.pol_modp.proofs.complement.solve_free.Goals as goal

zero_at : (n c : ℕ) → get_or (replicate {A = ℕ} n 0) c 0 ≡ 0
zero_at zero c = refl
zero_at (suc n) zero = refl
zero_at (suc n) (suc c) = zero_at n c

pub returns-clause-free : goal.returns-clause-free
returns-clause-free c =
    let n = c.args.n in
    let f = c.args.f in
    let out = c.args.ys.now in
    let inside : f < length out = omega (arith, ap length c.requires.nothing, length-replicate {A = ℕ} (n + 1) 0, c.requires.within) in
    record {
      long = c.substitute.auto.ys ∙ (length-set out f 1 ∙ (ap length c.requires.nothing ∙ length-replicate {A = ℕ} (n + 1) 0));
      one = c.substitute.ensures.free f c.requires.apart ∙ get_or-set_same out f 1 0 inside;
      zeros = λ m differs apart. c.substitute.ensures.free m apart ∙ (get_or-set_other out f m 1 0 differs ∙ (ap (λ ys. get_or ys m 0) c.requires.nothing ∙ zero_at (n + 1) m));
      vanish = c.substitute.ensures.vanish;
    }

pub returns-clause-last : goal.returns-clause-last
returns-clause-last c =
    let n = c.args.n in
    let out = c.args.ys.now in
    let differs : n ≢ c.args.f = omega (arith, c.requires.within) in
    c.substitute.ensures.last ∙ (get_or-set_other out c.args.f n 1 0 differs ∙ (ap (λ ys. get_or ys n 0) c.requires.nothing ∙ zero_at (n + 1) n))
