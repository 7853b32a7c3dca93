use Rattle.std.proofs.Common.{◌-◌, arith, subst}
use Rattle.pol_nogood.specs.Answers.{IsCertificate}
use Rattle.pol_nogood.proofs.LogSound.{valid_log_sound}
use Rattle.pol_arc.specs.Answers.{WipedHasCertificate}
use Rattle.pol_solve.proofs.answering.by_near_unanimity.Goals as goal

pub returns-in-Wiped : goal.returns-in-Wiped
returns-in-Wiped g c =
    let lang = c.args.lang.now in
    let inst = c.args.inst.now in
    let log = c.in-Wiped.log in
    let one : IsCertificate 1 lang inst log = subst (WipedHasCertificate lang inst) c.in-Wiped.is c.in_ok-log.ensures.certificate in
    let more : IsCertificate (g.row.K - 1) lang inst log = record {
      valid = one.valid;
      fits = record {
        different = one.fits.different;
        small = λ i none inside. omega (arith, one.fits.small i none inside, c.requires.some_arguments);
      };
    } in
    record { answers = c.by_log.ensures.answers (g.row.K - 1) lang inst tt (valid_log_sound lang inst log one.valid) more }

pub returns : goal.returns
returns g c =
    let given = c.in_ok-solve_nu-in-None.ensures in
    record { answers = c.by_log-in-None.ensures.answers (g.row.K - 1) c.args.lang.now c.args.inst.now given.yes given.no_only_without_solution given.certificate }
