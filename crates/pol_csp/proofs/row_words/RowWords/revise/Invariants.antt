use Rattle.std.specs.Prelude.{Contains}
use Rattle.pol_relation.specs.Instances.{read_at}
use Rattle.pol_csp.specs.Narrowing.{Narrows}
use Rattle.pol_csp.proofs.row_words.RowWords.revise.Given as goal

abbrev pub invariant-loop-place : goal.invariant-loop-place
invariant-loop-place l = Narrows (λ xs. Contains l.fn.self.rows (read_at xs l.fn.scope)) l.initial.masks l.masks
