-- A reader or a writer beside the count of its errors.
use Rattle.std.specs.Prelude.{ℕ}

-- a reader or a writer, and how many of its calls failed
pub record Counted (S : Type 0) : Type 0 where
  pub stream : S
  pub faults : ℕ
