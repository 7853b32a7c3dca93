use Rattle.std.proofs.Common.{◌≡◌, map, take}
use Rattle.pol_nogood.specs.Marks.{renumbered}
use Rattle.pol_nogood.proofs.trimming.renumbered.Given as goal

abbrev pub invariant-loop-reference : goal.invariant-loop-reference
invariant-loop-reference l = l.new ≡ map (renumbered l.numbers) (take l.reference-index l.references)
