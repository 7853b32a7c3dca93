use Rattle.std.proofs.Common.{◌≡◌, ◌++◌, take}
use Rattle.pol_text.specs.Texts.{spaced_texts}
use Rattle.pol_lang.proofs.writing.put_variables.Given as goal

-- the names so far stand behind what was there
abbrev pub invariant-loop-i : goal.invariant-loop-i
invariant-loop-i l = l.out ≡ l.initial.out ++ spaced_texts (take l.i l.inst.variables)
