-- Names of variables that are refused.
use Rattle.std.proofs.Common.{ℕ, Bool, true, false, List, Result, Ok, Err}
use Rattle.pol_relation.specs.Instances.{InstanceView}
use Rattle.pol_text.specs.declared.word.Word.{Word}
use Rattle.pol_text.specs.declared.word.Word.TheVariants.{BadName, RepeatedName}
use Rattle.pol_text.specs.Reading.{unless, Gives}
use Rattle.pol_lang.specs.Grammar.{after_names}
use Rattle.pol_lang.specs.Reading.{Changes}
use Rattle.pol_text.specs.declared.refusal.LineFail.{LineFail}
use Rattle.pol_text.specs.declared.refusal.LineFail.TheVariants as line_fail

-- the first name that is refused decides, whatever stands behind it
pub refused_name : (fail : LineFail) (is new : Bool) (made after : InstanceView) (rest : Result (List (List ℕ)) Word) (next : List (List ℕ) → Result InstanceView Word) → Changes {X = Unit {0}} (Err fail) after (unless is BadName (unless new RepeatedName (Ok made))) → Gives {X = InstanceView} (Err fail) (after_names (unless is BadName (unless new RepeatedName rest)) next)
refused_name line_fail.NoMemory is new made after rest next e = tt
refused_name (line_fail.Refused word) false new made after rest next e = cc
refused_name (line_fail.Refused word) true false made after rest next e = cc
refused_name (line_fail.Refused word) true true made after rest next e = cc
