-- Members that begin with a front.
use Rattle.std.specs.Prelude.{ℕ, List, ◌≤◌, length, All}
use Rattle.pol_maltsev.specs.Representations.{Begins}

-- members that begin with the front, at least one where there is one
pub record AreBeginners (T : List ℕ → Type 0) (front : List ℕ) (found : List (List ℕ)) : Type 0 where
  pub begin : All (Begins T front) found
  pub some : (t : List ℕ) → Begins T front t → 1 ≤ length found
