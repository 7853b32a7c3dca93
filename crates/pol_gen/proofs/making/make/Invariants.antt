use Rattle.std.proofs.Common.{◌≡◌}
use Rattle.pol_gen.specs.Kinds.{kind_of, language_of}
use Rattle.pol_gen.specs.Files.{state_before}
use Rattle.pol_gen.proofs.InstanceLemmas.{made_so_far}
use Rattle.pol_gen.proofs.making.make.Given as goal

-- the instances so far, and the state behind them
abbrev pub invariant-loop-i : goal.invariant-loop-i
invariant-loop-i l = record {
  language : l.file.language ≡ language_of (kind_of l.number);
  instances : l.file.instances ≡ made_so_far l.number l.i;
  state : l.draws ≡ state_before l.number l.i;
}
