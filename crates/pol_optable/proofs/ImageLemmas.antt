-- The image of rows, from the cells of the columns.
use Rattle.std.proofs.Common.{◌≡◌, ℕ, zero, suc, ◌+◌, ◌*◌, ◌^◌, ◌<◌, ◌≤◌, List, [], ◌∷◌, ◌++◌, length, take, get_or, All, refl, sym, ap, ◌∙◌, arith, add-one}
use Rattle.std.proofs.Math.Nat.{pow-suc, pow-succ', mul-le-mul_right}
use Rattle.std.proofs.lemmas.Nat.{mul-add-lt}
use Rattle.std.proofs.lemmas.List.{map_push, take_more}
use Rattle.std.proofs.lemmas.List.Elements.{All-from_get_or}
use Rattle.std.proofs.lemmas.List.FromFn.{fill_by_all}
use Rattle.pol_base.specs.Tuples.{IsTuple, cell_of}
use Rattle.pol_base.proofs.CellLemmas.{cell_of-push}
use Rattle.pol_relation.specs.Relations.{RelationView}
use Rattle.pol_optable.specs.Operations.{Operation, value_at, column, image}
use Rattle.pol_optable.specs.Tables.{IsOpTable}
use Rattle.pol_optable.specs.Breaks.{rows_at, values_from}

-- the column of rows with a further row
pub column_push :
    (r : RelationView) (numbers : List ℕ) (place last : ℕ)
    → column (rows_at r (numbers ++ last ∷ [])) place
    ≡ column (rows_at r numbers) place ++ get_or (get_or r.rows last []) place 0 ∷ []
column_push r numbers place last =
    ap (λ rows. column rows place) (map_push (λ i. get_or r.rows i []) numbers last)
    ∙ map_push (λ row. get_or row place 0) (rows_at r numbers) (get_or r.rows last [])

-- its cell
pub column_cell :
    (d : ℕ) (r : RelationView) (numbers : List ℕ) (place last : ℕ)
    → cell_of d (column (rows_at r (numbers ++ last ∷ [])) place)
    ≡ cell_of d (column (rows_at r numbers) place) * d + get_or (get_or r.rows last []) place 0
column_cell d r numbers place last =
    ap (cell_of d) (column_push r numbers place last)
    ∙ cell_of-push d (column (rows_at r numbers) place) (get_or (get_or r.rows last []) place 0)

-- the cell of the column of the first rows, one row on
pub column_more :
    (d : ℕ) (r : RelationView) (numbers : List ℕ) (place i : ℕ)
    → i < length numbers
    → cell_of d (column (rows_at r (take (i + 1) numbers)) place)
    ≡ cell_of d (column (rows_at r (take i numbers)) place) * d + get_or (get_or r.rows (get_or numbers i 0) []) place 0
column_more d r numbers place i inside =
    ap (λ some. cell_of d (column (rows_at r some) place)) (take_more numbers i 0 inside)
    ∙ column_cell d r (take i numbers) place (get_or numbers i 0)

-- one more digit stays below the next power
pub digit_room : (d n cell v : ℕ) → cell < d ^ n → v < d → cell * d + v < d ^ (n + 1)
digit_room d n cell v small below = rw (add-one, pow-succ') (mul-add-lt cell d v (d ^ n) small below)

pub digit_most : (d n cell : ℕ) → cell < d ^ n → cell * d + d ≤ d ^ (n + 1)
digit_most d n cell small = let grown : suc cell * d ≤ d ^ n * d = mul-le-mul_right d small in rw (add-one, pow-suc) (omega arith)

-- the first cell behind some rows of a front at one place, one row on
pub first_more :
    (d : ℕ) (r : RelationView) (front : List ℕ) (place i first : ℕ)
    → i < length front
    → first ≡ cell_of d (column (rows_at r (take i front)) place) * d
    → (first + get_or (get_or r.rows (get_or front i 0) []) place 0) * d
    ≡ cell_of d (column (rows_at r (take (i + 1) front)) place) * d
first_more d r front place i first inside is =
    ap (λ c. (c + get_or (get_or r.rows (get_or front i 0) []) place 0) * d) is
    ∙ ap (λ c. c * d) (sym (column_more d r front place i inside))

-- it has room behind it for each value
pub first_room : (d n first v : ℕ) → first + d ≤ d ^ (n + 1) → v < d → (first + v) * d + d ≤ d ^ (n + 1 + 1)
first_room d n first v room below = digit_most d (n + 1) (first + v) (omega (arith, room, below))

-- each first cell has room behind it for each value
abbrev pub HasRoom : (d K n : ℕ) → List ℕ → Type 0
HasRoom d K n firsts = (place : ℕ) → place < n → get_or firsts place 0 + d ≤ d ^ K

-- the value behind a first cell is one of the domain
pub value_below :
    (K : ℕ) (f : Operation) (firsts row : List ℕ) (place : ℕ)
    → IsOpTable K f
    → HasRoom f.domain K (length row) firsts
    → All (λ v. v < f.domain) row
    → place < length row
    → get_or f.cells (get_or firsts place 0 + get_or row place 0) 0 < f.domain
value_below K f firsts row place table room below inside =
    let value : get_or row place 0 < f.domain = below place 0 inside in
    let behind = room place inside in
    let power : f.domain ^ f.arity ≡ f.domain ^ K = ap (λ n. f.domain ^ n) table.arity_is in
    table.is_operation.below (get_or firsts place 0 + get_or row place 0) 0 (omega (arith, table.is_operation.all_cells))

-- there is a value for each place
pub length-values_from :
    (f : Operation) (firsts values : List ℕ)
    → length values ≤ length firsts
    → length (values_from f firsts values) ≡ length values
length-values_from f [] [] short = refl
length-values_from f [] (v ∷ vs) short = absurd (omega (arith, short))
length-values_from f (x ∷ xs) [] short = refl
length-values_from f (x ∷ xs) (v ∷ vs) short = ap suc (length-values_from f xs vs (omega (arith, short)))

-- what it is
pub get_or-values_from :
    (f : Operation) (firsts values : List ℕ) (place : ℕ)
    → length values ≤ length firsts
    → place < length values
    → get_or (values_from f firsts values) place 0 ≡ get_or f.cells (get_or firsts place 0 + get_or values place 0) 0
get_or-values_from f firsts [] place short inside = absurd (omega (arith, inside))
get_or-values_from f [] (v ∷ vs) place short inside = absurd (omega (arith, short))
get_or-values_from f (x ∷ xs) (v ∷ vs) zero short inside = refl
get_or-values_from f (x ∷ xs) (v ∷ vs) (suc place) short inside =
    get_or-values_from f xs vs place (omega (arith, short)) (omega (arith, inside))

-- the values are those of the image, where the first cells are those of the columns of the front
pub values_image :
    (f : Operation) (r : RelationView) (front firsts : List ℕ) (last : ℕ)
    → length (get_or r.rows last []) ≡ r.arity
    → r.arity ≤ length firsts
    → ((place : ℕ) → place < r.arity
    → get_or firsts place 0 ≡ cell_of f.domain (column (rows_at r front) place) * f.domain)
    → values_from f firsts (get_or r.rows last []) ≡ image f r.arity (rows_at r (front ++ last ∷ []))
values_image f r front firsts last long short columns =
    let fits : length (get_or r.rows last []) ≤ length firsts = omega (arith, long, short) in
    fill_by_all
    (λ place. value_at f (column (rows_at r (front ++ last ∷ [])) place))
    (values_from f firsts (get_or r.rows last []))
    r.arity
    0
    (length-values_from f firsts (get_or r.rows last []) fits ∙ long)
    (λ place inside.
    get_or-values_from f firsts (get_or r.rows last []) place fits (omega (arith, inside, long))
    ∙ ap (λ i. get_or f.cells i 0) (index place inside))
  where
    index : (place : ℕ)
        → place < r.arity
        → get_or firsts place 0 + get_or (get_or r.rows last []) place 0
        ≡ cell_of f.domain (column (rows_at r (front ++ last ∷ [])) place)
    index place inside =
        ap (λ first. first + get_or (get_or r.rows last []) place 0) (columns place inside)
        ∙ sym (column_cell f.domain r front place last)

-- they are values of the domain
pub values_from-IsTuple :
    (K : ℕ) (f : Operation) (firsts values : List ℕ)
    → IsOpTable K f
    → length values ≤ length firsts
    → HasRoom f.domain K (length values) firsts
    → All (λ v. v < f.domain) values
    → IsTuple f.domain (length values) (values_from f firsts values)
values_from-IsTuple K f firsts values table short room below = record {
  long = length-values_from f firsts values short;
  below = All-from_get_or (λ v. v < f.domain) (values_from f firsts values) 0 (λ place inside.
      let known : place < length values = omega (arith, inside, length-values_from f firsts values short) in
      rw (get_or-values_from f firsts values place short known) (value_below K f firsts values place table room below known));
}
