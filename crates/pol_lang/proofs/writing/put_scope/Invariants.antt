use Rattle.std.proofs.Common.{◌≡◌, ◌++◌, [], take, map, slice_index_or}
use Rattle.pol_text.specs.Texts.{spaced_texts}
use Rattle.pol_lang.proofs.writing.put_scope.Given as goal

-- the names so far stand behind what was there
abbrev pub invariant-loop-variable : goal.invariant-loop-variable
invariant-loop-variable l = l.out ≡ l.initial.out ++ spaced_texts (map (λ x. slice_index_or l.inst.variables x []) (take l.variable-index l.scope))
