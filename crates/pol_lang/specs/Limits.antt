-- The limits of files.
use Rattle.std.specs.Prelude.{ℕ, ◌^◌}

-- the relations of a language
abbrev pub most_relations : ℕ
most_relations = 32

-- the different tuples of a relation
abbrev pub most_tuples : ℕ
most_tuples = 128

-- the instances of a file
abbrev pub most_instances : ℕ
most_instances = 8

-- the variables of an instance
abbrev pub most_variables : ℕ
most_variables = 40

-- the constraints of an instance
abbrev pub most_constraints : ℕ
most_constraints = 256

-- the bytes of an input
abbrev pub most_bytes : ℕ
most_bytes = 2 ^ 28
