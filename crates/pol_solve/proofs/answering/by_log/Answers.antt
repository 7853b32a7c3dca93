use Rattle.std.proofs.Common.{subst}
use Rattle.pol_nogood.specs.Answers.{NoOnlyWithoutSolution, NoHasCertificate}
use Rattle.pol_solve.proofs.answering.by_log.Goals as goal

pub returns-in_ok-trimmed-in-No : goal.returns-in_ok-trimmed-in-No
returns-in_ok-trimmed-in-No c =
    let part = c.in_ok-trimmed-in-No.ensures in
    record {
      answers = λ most lang inst yes none certificate.
          (let valid = subst (NoHasCertificate most lang inst) c.in-No.is certificate in (
            subst (NoOnlyWithoutSolution lang inst) c.in-No.is none,
            record { valid = part.valid lang inst valid.valid; fits = part.fits most valid.fits },
            part.needed,
          ));
    }
