-- What the cells of a table and the digits that write them have to do with each other.
use Rattle.std.specs.Prelude.{◌≡◌, ℕ, ◌<◌, ◌≤◌, ◌^◌, List}
use Rattle.pol_base.specs.Tuples.{IsTuple, cell_of, digits_of}

-- the digits of a cell write it
abbrev pub DigitsWriteTheCell : Type 0
DigitsWriteTheCell =
    (d k cell : ℕ)
    → 1 ≤ d
    → cell < d ^ k
    → cell_of d (digits_of d k cell) ≡ cell

-- the cell of a tuple is below the number of cells, and has the tuple as its digits
abbrev pub CellHasTheDigits : Type 0
CellHasTheDigits =
    (d k : ℕ) (t : List ℕ)
    → IsTuple d k t
    → (cell_of d t < d ^ k) × (digits_of d k (cell_of d t) ≡ t)
