use Rattle.std.proofs.Common.{◌<◌, sym, ◌∙◌, arith}
use Rattle.std.proofs.lemmas.Bool.{false≢true}
use Rattle.pol_maltsev.specs.Views.{root_in}
use Rattle.pol_maltsev.proofs.table.Table.reads_only_at.Goals as goal

-- a row that reads none
pub returns-then-not-reads_row : goal.returns-then-not-reads_row
returns-then-not-reads_row c =
    let low : c.loop-a.a < c.args.self.now.domain = omega (arith, c.loop-a-test.true, c.size-d.ensures.size, c.domain.ensures.domain) in
    let there : root_in c.args.self.now c.args.p c.loop-a.a < c.args.self.now.domain = omega (arith, c.if-root-d.true, c.root.ensures.root, c.size-d.ensures.size, c.domain.ensures.domain) in
    record {
      reads = (λ h. absurd (false≢true h), λ only. sym c.if-not-reads_row.true ∙ c.reads_row.ensures.reads.1 (rw c.row.ensures.row (only.each c.loop-a.a low there)));
    }
