-- Numbers drawn one after another, and what is made of them.
use Rattle.std.specs.Prelude.{ℕ, zero, suc, ◌+◌, ◌*◌, ◌/◌, ◌%◌, ◌^◌, List, [], ◌∷◌, length}
use Rattle.pol_relation.specs.Relations.{LanguageView, relation_of}
use Rattle.pol_relation.specs.Instances.{ConstraintView}

-- the state behind the state
unfoldable pub turned : ℕ → ℕ
turned s = (s * 1103515245 + 12345) % 2 ^ 31

-- the state that the number begins with
abbrev pub first_state : ℕ → ℕ
first_state number = number % 2 ^ 31

-- what was drawn, and the state behind it
pub record Drawn (A : Type 0) : Type 0 where
  pub drawn : A
  pub state : ℕ

-- a number below n
abbrev pub draw : ℕ → ℕ → Drawn ℕ
draw n s = record { drawn = turned s / 65536 % n; state = turned s }

-- so many things, each drawn from the state behind the one before
unfoldable pub one_by_one : {A : Type 0} → ℕ → (ℕ → Drawn A) → ℕ → Drawn (List A)
one_by_one zero next s = record { drawn = []; state = s }
one_by_one (suc count) next s =
    let first = next s in
    let rest = one_by_one count next first.state in
    record { drawn = first.drawn ∷ rest.drawn; state = rest.state }

-- so many numbers below n
abbrev pub draw_numbers : ℕ → ℕ → ℕ → Drawn (List ℕ)
draw_numbers count n s = one_by_one count (draw n) s

-- a constraint over v variables: the number of a relation, then a variable for each of its places
abbrev pub draw_constraint : LanguageView → ℕ → ℕ → Drawn ConstraintView
draw_constraint lang v s =
    let relation = draw (length lang.relations) s in
    let scope = draw_numbers (relation_of lang relation.drawn).arity v relation.state in
    record { drawn = record { relation = relation.drawn; scope = scope.drawn }; state = scope.state }

-- so many constraints over v variables
abbrev pub draw_constraints : ℕ → LanguageView → ℕ → ℕ → Drawn (List ConstraintView)
draw_constraints count lang v s = one_by_one count (draw_constraint lang v) s
