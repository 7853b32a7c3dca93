-- The columns of rows that are given by their numbers, and the cells that they name.
use Rattle.std.proofs.Common.{◌≡◌, ℕ, ◌+◌, ◌*◌, ◌<◌, ◌^◌, List, [], length, take, set, get_or, arith, sym, ap, ◌∙◌, All, subst}
use Rattle.std.proofs.lemmas.List.{length-map, get_or-map, get_or_default, take_more, take_more_set}
use Rattle.std.proofs.lemmas.List.Elements.{All-push}
use Rattle.std.proofs.lemmas.List.FromFn.{map-range_with_len_more}
use Rattle.pol_base.specs.Tuples.{IsTuple, cell_of}
use Rattle.pol_base.proofs.CellLemmas.{cell_of-push, cell_of-take}
use Rattle.pol_relation.specs.Relations.{RelationView, IsRelation}
use Rattle.pol_optable.specs.Operations.{column}
use Rattle.pol_optable.specs.Breaks.{rows_at}
use Rattle.pol_indicator.specs.Indicators.{scope_of}

pub length-rows_at : (r : RelationView) (numbers : List ℕ) → length (rows_at r numbers) ≡ length numbers
length-rows_at r numbers = length-map numbers (λ i. get_or r.rows i [])

pub length-column : (r : RelationView) (numbers : List ℕ) (place : ℕ) → length (column (rows_at r numbers) place) ≡ length numbers
length-column r numbers place = length-map (rows_at r numbers) (λ row. get_or row place 0) ∙ length-rows_at r numbers

-- the value of a row in the column
pub column_at : (r : RelationView) (numbers : List ℕ) (place k : ℕ) → k < length numbers
    → get_or (column (rows_at r numbers) place) k 0 ≡ get_or (get_or r.rows (get_or numbers k 0) []) place 0
column_at r numbers place k inside =
    get_or-map (λ row. get_or row place 0) (rows_at r numbers) k [] 0 (rw (length-rows_at r numbers) inside)
    ∙ ap (λ row. get_or row place 0) (get_or-map (λ i. get_or r.rows i []) numbers k 0 [] inside)

-- the values of the rows are below d
pub column_below : (r : RelationView) (numbers : List ℕ) (place : ℕ) → IsRelation r → place < r.arity
    → All (λ i. i < length r.rows) numbers → All (λ v. v < r.domain) (column (rows_at r numbers) place)
column_below r numbers place is inside rows k none h =
    let known : k < length numbers = rw (length-column r numbers place) at h in
    let tuple : IsTuple r.domain r.arity (get_or r.rows (get_or numbers k 0) []) = is.tuples (get_or numbers k 0) [] (rows k 0 known) in
    rw (get_or_default (column (rows_at r numbers) place) k none 0 h, column_at r numbers place k known)
    (tuple.below place 0 (rw tuple.long inside))

-- one place more of a scope
pub scope_more : (d : ℕ) (rows : List (List ℕ)) (place : ℕ) (scope : List ℕ) (cell : ℕ) → place < length scope
    → take place scope ≡ scope_of d place rows → cell ≡ cell_of d (column rows place)
    → take (place + 1) (set scope place cell) ≡ scope_of d (place + 1) rows
scope_more d rows place scope cell inside so_far is =
    take_more_set scope place cell inside
    ∙ rw (so_far, is) (sym (map-range_with_len_more (λ j. cell_of d (column rows j)) 0 place place (omega arith)))

pub scope_below : (most place : ℕ) (scope : List ℕ) (cell : ℕ) → place < length scope → All (λ c. c < most) (take place scope)
    → cell < most → All (λ c. c < most) (take (place + 1) (set scope place cell))
scope_below most place scope cell inside below less =
    rw (take_more_set scope place cell inside) (All-push (λ c. c < most) (take place scope) cell below less)

-- a value more of a list that writes a cell
pub cell_step : (d : ℕ) (xs : List ℕ) (i : ℕ) → i < length xs
    → cell_of d (take (i + 1) xs) ≡ cell_of d (take i xs) * d + get_or xs i 0
cell_step d xs i inside = ap (cell_of d) (take_more xs i 0 inside) ∙ cell_of-push d (take i xs) (get_or xs i 0)

-- what the front of a column of K rows writes is below the number of cells
pub column_cell : (r : RelationView) (numbers : List ℕ) (place i K : ℕ) → IsRelation r → place < r.arity
    → All (λ n. n < length r.rows) numbers → length numbers ≡ K
    → cell_of r.domain (take i (column (rows_at r numbers) place)) < r.domain ^ K
column_cell r numbers place i K is inside rows long =
    let below = cell_of-take r.domain i (column (rows_at r numbers) place) is.domain_is.some (column_below r numbers place is inside rows) in
    subst (λ n. cell_of r.domain (take i (column (rows_at r numbers) place)) < r.domain ^ n) (length-column r numbers place ∙ long) below
