-- The limits of reports.
use Rattle.std.specs.Prelude.{ℕ}

-- the items of a report
abbrev pub most_items : ℕ
most_items = 64

-- the steps of all logs of a report
abbrev pub most_steps : ℕ
most_steps = 10037608

-- the parts of a combination
abbrev pub most_parts : ℕ
most_parts = 4096
