use Rattle.std.proofs.Common.{◌≡◌, ◌∷◌, ◌++◌, take, map, codes}
use Rattle.pol_text.specs.Texts.{joined, printed_line}
use Rattle.pol_lang.specs.Spelling.{constraint_tokens}
use Rattle.pol_lang.proofs.writing.put_constraints.Given as goal

-- the constraints so far stand behind what was there
abbrev pub invariant-loop-c : goal.invariant-loop-c
invariant-loop-c l = l.out ≡ l.initial.out ++ joined printed_line (map (λ at. codes "constraint" ∷ constraint_tokens l.file.language l.inst at) (take l.c l.inst.constraints))
