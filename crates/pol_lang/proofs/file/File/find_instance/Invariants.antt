use Rattle.std.proofs.Common.{◌≡◌, ℕ, ◌<◌}
use Rattle.pol_lang.specs.Files.{instance_of}
use Rattle.pol_lang.proofs.file.File.find_instance.Given as goal

-- no instance so far has the name
abbrev pub invariant-loop-i : goal.invariant-loop-i
invariant-loop-i l = (k : ℕ) → k < l.i → (instance_of l.self k).name ≡ l.name → ⊥
