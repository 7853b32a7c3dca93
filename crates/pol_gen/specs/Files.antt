-- The file that a number makes.
use Rattle.std.specs.Prelude.{ℕ, zero, suc, Bool, ◌/◌, ◌%◌, ◌==◌, nat_lt, if◌then◌else◌, List, []}
use Rattle.std.specs.Prelude.{◌∷◌, ◌++◌, map, All}
use Rattle.std.specs.List.{filter, list_any, range_with_len}
use Rattle.pol_base.specs.Lists.{is_among}
use Rattle.pol_relation.specs.Relations.{LanguageView, rows_of}
use Rattle.pol_relation.specs.Instances.{ConstraintView, InstanceView, read_at, IsSolution, HasNoSolution}
use Rattle.pol_lang.specs.Files.{FileView, instance_of}
use Rattle.pol_gen.specs.Draws.{Drawn, first_state, draw_numbers, draw_constraints}
use Rattle.pol_gen.specs.Kinds.{kind_of, language_of, variables_of, instance_name, variable_names, contradiction}
use Rattle.pol_gen.specs.declared.kinds.Kind.{Kind}

-- the instances
abbrev pub instance_count : ℕ
instance_count = 8

-- the instances with hidden values: those below it
abbrev pub planted_count : ℕ
planted_count = 6

-- the instances that have their hidden values as a solution
abbrev pub solved : List ℕ
solved = 0 ∷ 2 ∷ 4 ∷ []

-- the instances that are made so that they have no solution
abbrev pub unsolvable : List ℕ
unsolvable = 1 ∷ 3 ∷ 5 ∷ []

-- the instance with these constraints
abbrev pub instance_with : Kind → ℕ → List ConstraintView → InstanceView
instance_with kind i constraints =
    record { name = instance_name i; variables = variable_names (variables_of kind); constraints = constraints }

-- the instance with these constraints too, behind its own
abbrev pub with_constraints : InstanceView → List ConstraintView → InstanceView
with_constraints inst constraints =
    record { name = inst.name; variables = inst.variables; constraints = inst.constraints ++ constraints }

-- a hidden value for each variable
abbrev pub draw_hidden : Kind → ℕ → Drawn (List ℕ)
draw_hidden kind s = draw_numbers (variables_of kind) (language_of kind).domain s

-- so many constraints over the variables of the kind's instances
abbrev pub draw_over : Kind → ℕ → ℕ → Drawn (List ConstraintView)
draw_over kind count s = draw_constraints count (language_of kind) (variables_of kind) s

-- the hidden values meet the constraint
abbrev pub is_met : LanguageView → List ℕ → ConstraintView → Bool
is_met lang hidden c = is_among (rows_of lang c.relation) (read_at hidden c.scope)

-- the constraints that are appended whatever is drawn
abbrev pub appended : Kind → ℕ → List ConstraintView
appended kind i = if list_any (λ k. i == k) unsolvable then contradiction kind else []

-- how many constraints are drawn for an instance with hidden values
unfoldable pub tries : ℕ
tries = 60

-- the instance that has those of sixty constraints that its hidden values meet
abbrev pub draw_planted : Kind → ℕ → ℕ → Drawn InstanceView
draw_planted kind i s =
    let hidden = draw_hidden kind s in
    let tried = draw_over kind tries hidden.state in
    let met = filter (is_met (language_of kind) hidden.drawn) tried.drawn in
    record { drawn = instance_with kind i (met ++ appended kind i); state = tried.state }

-- how many constraints an instance without hidden values has
abbrev pub free_count : ℕ → ℕ
free_count number = number / 5 % 61

-- the instance that has all constraints that are drawn
abbrev pub draw_free : Kind → ℕ → ℕ → ℕ → Drawn InstanceView
draw_free kind count i s =
    let made = draw_over kind count s in
    record { drawn = instance_with kind i made.drawn; state = made.state }

-- the instance with the number i, from the state before it
unfoldable pub draw_instance : ℕ → ℕ → ℕ → Drawn InstanceView
draw_instance number i s =
    if nat_lt i planted_count
    then draw_planted (kind_of number) i s
    else draw_free (kind_of number) (free_count number) i s

-- the state before the instance: that behind the one before it
unfoldable pub state_before : ℕ → ℕ → ℕ
state_before number zero = first_state number
state_before number (suc i) = (draw_instance number i (state_before number i)).state

-- the instance with the number i
unfoldable pub made_instance : ℕ → ℕ → InstanceView
made_instance number i = (draw_instance number i (state_before number i)).drawn

-- the hidden values of the instance with the number i
unfoldable pub hidden_of : ℕ → ℕ → List ℕ
hidden_of number i = (draw_hidden (kind_of number) (state_before number i)).drawn

-- the file that the number makes
abbrev pub made_file : ℕ → FileView
made_file number = record {
  language = language_of (kind_of number);
  instances = map (made_instance number) (range_with_len 0 instance_count);
}

-- ---- solutions

-- the hidden values are a solution of each of i0, i2 and i4
abbrev pub HaveTheirHiddenSolutions : ℕ → FileView → Type 0
HaveTheirHiddenSolutions number file =
    All (λ i. IsSolution file.language (instance_of file i) (hidden_of number i)) solved

-- none of i1, i3 and i5 has a solution
abbrev pub HaveNoSolution : FileView → Type 0
HaveNoSolution file = All (λ i. HasNoSolution file.language (instance_of file i)) unsolvable
