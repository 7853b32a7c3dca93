-- What a call that reads has to do with the definition of what it reads.
use Rattle.std.specs.Prelude.{◌≡◌, ◌≤◌, ℕ, List, [], ◌++◌, ⊤, Result, Ok, Err}
use Rattle.pol_text.specs.declared.refusal.Refusal.{Refusal}
use Rattle.pol_text.specs.declared.refusal.LineFail.{LineFail}
use Rattle.pol_text.specs.declared.refusal.LineFail.TheVariants as line_fail
use Rattle.pol_text.specs.declared.refusal.ReadFail.{ReadFail}
use Rattle.pol_text.specs.declared.refusal.ReadFail.TheVariants as read_fail
use Rattle.pol_text.specs.declared.word.Word.{Word}
use Rattle.pol_nogood.specs.Nogoods.{Pair}
use Rattle.pol_nogood.specs.Logs.{Basis}
use Rattle.pol_report.specs.declared.opening.Opening.{Opening}
use Rattle.pol_report.specs.declared.opening.Opening.TheVariants.{Steps, Parts}
use Rattle.pol_report.specs.declared.opening.RestsOn.{RestsOn}
use Rattle.pol_report.specs.declared.opening.RestsOn.TheVariants as rests_on
use Rattle.pol_report.specs.Limits.{most_steps, most_parts}

-- ---- calls

-- the call took what is read first and left the tokens behind it, unless memory ran out
abbrev pub Took : {X Y R : Type 0} → (X → Y) → Result X LineFail → R → Result (Y × R) Word → Type 0
Took view (Ok x) rest read = read ≡ Ok (view x, rest)
Took view (Err (line_fail.Refused word)) rest read = read ≡ Err word
Took view (Err line_fail.NoMemory) rest read = ⊤

-- the call answers what the tokens are read as, unless memory ran out
abbrev pub Takes : {X Y : Type 0} → (X → Y) → Result X LineFail → Result Y Word → Type 0
Takes view (Ok x) read = read ≡ Ok (view x)
Takes view (Err (line_fail.Refused word)) read = read ≡ Err word
Takes view (Err line_fail.NoMemory) read = ⊤

-- the call took what is read first and left the lines behind it, unless memory ran out
abbrev pub TookLines : {X Y R : Type 0} → (X → Y) → Result X ReadFail → R → Result (Y × R) Refusal → Type 0
TookLines view (Ok x) rest read = read ≡ Ok (view x, rest)
TookLines view (Err (read_fail.Refused refusal)) rest read = read ≡ Err refusal
TookLines view (Err read_fail.NoMemory) rest read = ⊤

-- the call tells whether the lines are read as no item more
abbrev pub Ends : {A : Type 0} → Result (Unit {0}) ReadFail → Result (List A) Refusal → Type 0
Ends (Ok _) read = read ≡ Ok []
Ends (Err (read_fail.Refused refusal)) read = read ≡ Err refusal
Ends (Err read_fail.NoMemory) read = ⊤

-- ---- what was read

-- the value as it is
abbrev pub itself : {X : Type 0} → X → X
itself x = x

-- a pair of numbers, seen as a variable and a value
abbrev pub pair_named : ℕ × ℕ → Pair
pair_named p = record { variable = p.0; value = p.1 }

-- what a step rests on, of which the number comes next
abbrev pub basis_named : RestsOn → ℕ → Basis
basis_named rests_on.Constraint = Basis.ByConstraint
basis_named rests_on.Variable = Basis.ByVariable

-- what is read behind what is there already, and what is left
abbrev pub behind : {A R E : Type 0} → List A → Result (List A × R) E → Result (List A × R) E
behind front (Err refusal) = Err refusal
behind front (Ok read) = Ok (front ++ read.0, read.1)

-- what is read behind what is there already
abbrev pub all_behind : {A E : Type 0} → List A → Result (List A) E → Result (List A) E
all_behind front (Err refusal) = Err refusal
all_behind front (Ok read) = Ok (front ++ read)

-- the line opens no more steps and no more parts than a report may have
abbrev pub OpensFew : Opening → Type 0
OpensFew (Steps name class count) = count ≤ most_steps
OpensFew (Parts name labels count) = count ≤ most_parts
OpensFew opening = ⊤
