use Rattle.std.proofs.Common.{arith}
use Rattle.std.proofs.lemmas.Bool.Decides.{not_from_Decides, Decides-eqb}
use Rattle.std.proofs.lemmas.Slice.Eq.{slice_eq-Decides}
use Rattle.pol_rows.proofs.RunLemmas.{run_ends}
use Rattle.pol_rows.proofs.rows.Rows.run_len.Goals as goal

pub returns-else-eq : goal.returns-else-eq
returns-else-eq c =
    let told = rw (c.row.ensures.row, c.row-first.ensures.row) at c.eq.ensures in
    record { run = run_ends _ _ _ _ _ _ c.domain-domain.ensures.rows.tuples c.requires.ascending c.loop-count.invariant (λ _. not_from_Decides c.eq.result (slice_eq-Decides Decides-eqb _ _ c.eq.result told) c.if-eq.false) }

pub returns-after-loop-count : goal.returns-after-loop-count
returns-after-loop-count c =
    record { run = run_ends _ _ _ _ _ _ c.domain-domain.ensures.rows.tuples c.requires.ascending c.loop-count.invariant (λ inside agree. omega (arith, inside, c.loop-count-test.false)) }
