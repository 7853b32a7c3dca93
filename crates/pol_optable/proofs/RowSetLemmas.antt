-- The marks of the cells of rows.
use Rattle.std.proofs.Common.{◌≡◌, ℕ, ◌+◌, ◌/◌, ◌^◌, ◌<◌, ◌≤◌, ◌⊎◌, ◌↔◌, inl, inr, List, [], ◌∷◌, ◌++◌, length, take, drop, set, replicate, refl, get_or, All, Contains, Bool, true, false, sym, ap, ◌∙◌, subst, arith}
use Rattle.std.proofs.Math.ListN.{get_or-eq_default}
use Rattle.std.proofs.lemmas.Bool.{cases_lt, cases_eq, true≢false}
use Rattle.std.proofs.lemmas.List.{get_or-set_same, get_or-set_other, length-set, take_more, take_all, length-replicate}
use Rattle.std.proofs.lemmas.List.Elements.{All-replicate, Contains-append_left, Contains-push, Contains-push_cases}
use Rattle.pol_base.specs.Tuples.{IsTuple, cell_of, digits_of}
use Rattle.pol_base.proofs.CellLemmas.{cell_of-IsTuple, cell_of-digits_of, digits_of-IsTuple}
use Rattle.pol_base.proofs.Enumeration.{same_list}
use Rattle.pol_base.proofs.MemberLemmas.{Contains-nil}
use Rattle.pol_relation.specs.Relations.{RelationView, IsRelation}
use Rattle.pol_relation.proofs.RelationLemmas.{few_cells}
use Rattle.pol_optable.specs.RowSets.{MarksRows, HalvesRows, IsRoom}

-- the cells of some of the rows are marked, and no other cell of a tuple is
pub record MarksSome (r : RelationView) (rows : List (List ℕ)) (marks : List Bool) : Type 0 where
  pub counted : r.domain ^ r.arity ≤ length marks
  pub marked : (t : List ℕ) → IsTuple r.domain r.arity t
      → (get_or marks (cell_of r.domain t) false ≡ true) ↔ Contains rows t

pub relation_cells : (r : RelationView) → IsRelation r → r.domain ^ r.arity ≤ 15625
relation_cells r is = few_cells r.domain r.arity is.domain_is.few is.few_places

unmarked : (marks : List Bool) (k : ℕ) → All (λ marked. marked ≡ false) marks → get_or marks k false ≡ false
unmarked marks k blank = by (cases_lt k (length marks))
  where
    by : (k < length marks) ⊎ (length marks ≤ k) → get_or marks k false ≡ false
    by (inl inside) = blank k false inside
    by (inr past) = get_or-eq_default marks false past

-- at the start nothing is marked
pub MarksSome-none :
    (r : RelationView) (marks : List Bool) (fronts backs : List ℕ)
    → IsRoom r marks fronts backs
    → MarksSome r [] marks
MarksSome-none r marks fronts backs room = record {
  counted = room.marks_fit;
  marked = λ t tuple. (
    λ marked. absurd (true≢false (sym marked ∙ unmarked marks (cell_of r.domain t) room.blank)),
    λ row. absurd (Contains-nil t row),
  );
}

-- as many marks as a relation may have cells, all unmarked, and as many numbers as it may have rows are room
pub IsRoom-most :
    (r : RelationView) (n front back : ℕ)
    → IsRelation r
    → n ≡ 15625
    → length r.rows ≤ 15625
    → IsRoom r (replicate n false) (replicate n front) (replicate n back)
IsRoom-most r n front back is most few = record {
  marks_fit = rw (length-replicate n false, most) (relation_cells r is);
  fronts_fit = rw (length-replicate n front, most) few;
  backs_fit = rw (length-replicate n back, most) few;
  blank = All-replicate (λ marked. marked ≡ false) n false refl;
}

-- a further row is marked
pub MarksSome-more :
    (r : RelationView) (i : ℕ) (row : List ℕ) (marks : List Bool)
    → i < length r.rows
    → row ≡ get_or r.rows i []
    → IsTuple r.domain r.arity row
    → MarksSome r (take i r.rows) marks
    → MarksSome r (take (i + 1) r.rows) (set marks (cell_of r.domain row) true)
MarksSome-more r i row marks inside here row_tuple some = record {
  counted = rw (length-set marks (cell_of r.domain row) true) some.counted;
  marked = λ t tuple. by t tuple (cases_eq (cell_of r.domain t) (cell_of r.domain row));
}
  where
    known : cell_of r.domain row < length marks
    known =
        let within : cell_of r.domain row < r.domain ^ r.arity = cell_of-IsTuple r.domain r.arity row row_tuple in
        omega (arith, within, some.counted)

    rows_more : take (i + 1) r.rows ≡ take i r.rows ++ row ∷ []
    rows_more = take_more r.rows i [] inside ∙ ap (λ t. take i r.rows ++ t ∷ []) (sym here)

    from : (t : List ℕ) → Contains (take i r.rows ++ row ∷ []) t → Contains (take (i + 1) r.rows) t
    from t member = subst (λ (rows : List (List ℕ)). Contains rows t) (sym rows_more) member

    to : (t : List ℕ) → Contains (take (i + 1) r.rows) t → Contains (take i r.rows ++ row ∷ []) t
    to t member = subst (λ (rows : List (List ℕ)). Contains rows t) rows_more member

    by : (t : List ℕ)
        → IsTuple r.domain r.arity t
        → (cell_of r.domain t ≡ cell_of r.domain row) ⊎ (cell_of r.domain t ≡ cell_of r.domain row → ⊥)
        → (get_or (set marks (cell_of r.domain row) true) (cell_of r.domain t) false ≡ true)
        ↔ Contains (take (i + 1) r.rows) t
    by t tuple (inl same) =
        let one : t ≡ row = same_list r.domain r.arity t row tuple row_tuple same in (
          λ _. from t (subst (Contains (take i r.rows ++ row ∷ [])) (sym one) (Contains-push (take i r.rows) row)),
          λ _. ap (λ c. get_or (set marks (cell_of r.domain row) true) c false) same
              ∙ get_or-set_same marks (cell_of r.domain row) true false known,
        )
    by t tuple (inr apart) =
        let other = get_or-set_other marks (cell_of r.domain row) (cell_of r.domain t) true false apart in (
          λ marked. from t (Contains-append_left (take i r.rows) (row ∷ []) t ((some.marked t tuple).0 (sym other ∙ marked))),
          λ member. elim (Contains-push_cases (take i r.rows) row t (to t member)) [
            | inl old ↦ other ∙ (some.marked t tuple).1 old
            | inr same ↦ absurd (apart (ap (cell_of r.domain) (sym same)))
          ],
        )

-- the numbers of the halves of the first n rows
pub record HalvesSome (r : RelationView) (n : ℕ) (fronts backs : List ℕ) : Type 0 where
  pub counted_fronts : length r.rows ≤ length fronts
  pub counted_backs : length r.rows ≤ length backs
  pub fronts_are : (i : ℕ) → i < n
      → get_or fronts i 0 ≡ cell_of r.domain (take (r.arity / 2) (get_or r.rows i []))
  pub backs_are : (i : ℕ) → i < n
      → get_or backs i 0 ≡ cell_of r.domain (drop (r.arity / 2) (get_or r.rows i []))

pub HalvesSome-none :
    (r : RelationView) (marks : List Bool) (fronts backs : List ℕ)
    → IsRoom r marks fronts backs
    → HalvesSome r 0 fronts backs
HalvesSome-none r marks fronts backs room = record {
  counted_fronts = room.fronts_fit;
  counted_backs = room.backs_fit;
  fronts_are = λ i none. omega (arith, none);
  backs_are = λ i none. omega (arith, none);
}

-- an entry more
entries_more :
    (entry : ℕ → ℕ) (entries : List ℕ) (n value : ℕ)
    → n < length entries
    → value ≡ entry n
    → ((i : ℕ) → i < n → get_or entries i 0 ≡ entry i)
    → (i : ℕ)
    → i < n + 1
    → get_or (set entries n value) i 0 ≡ entry i
entries_more entry entries n value inside is before i below = by (cases_eq i n)
  where
    by : (i ≡ n) ⊎ (i ≡ n → ⊥) → get_or (set entries n value) i 0 ≡ entry i
    by (inl here) = rw here (get_or-set_same entries n value 0 inside ∙ is)
    by (inr apart) = get_or-set_other entries n i value 0 apart ∙ before i (omega (arith, below, apart))

-- a further row has its halves
pub HalvesSome-more :
    (r : RelationView) (n front back : ℕ) (row fronts backs : List ℕ)
    → n < length r.rows
    → row ≡ get_or r.rows n []
    → front ≡ cell_of r.domain (take (r.arity / 2) row)
    → back ≡ cell_of r.domain (drop (r.arity / 2) row)
    → HalvesSome r n fronts backs
    → HalvesSome r (n + 1) (set fronts n front) (set backs n back)
HalvesSome-more r n front back row fronts backs inside here front_is back_is some = record {
  counted_fronts = rw (length-set fronts n front) some.counted_fronts;
  counted_backs = rw (length-set backs n back) some.counted_backs;
  fronts_are = entries_more (λ i. cell_of r.domain (take (r.arity / 2) (get_or r.rows i []))) fronts n front
      (omega (arith, inside, some.counted_fronts))
      (front_is ∙ ap (λ t. cell_of r.domain (take (r.arity / 2) t)) here) some.fronts_are;
  backs_are = entries_more (λ i. cell_of r.domain (drop (r.arity / 2) (get_or r.rows i []))) backs n back
      (omega (arith, inside, some.counted_backs))
      (back_is ∙ ap (λ t. cell_of r.domain (drop (r.arity / 2) t)) here) some.backs_are;
}

-- at the end all rows have their halves
pub HalvesRows-from_some :
    (r : RelationView) (n : ℕ) (fronts backs : List ℕ)
    → length r.rows ≤ n
    → HalvesSome r n fronts backs
    → HalvesRows r fronts backs
HalvesRows-from_some r n fronts backs all some = record {
  counted_fronts = some.counted_fronts;
  counted_backs = some.counted_backs;
  fronts_are = λ i inside. some.fronts_are i (omega (arith, inside, all));
  backs_are = λ i inside. some.backs_are i (omega (arith, inside, all));
}

-- at the end all rows are marked
pub MarksRows-from_some :
    (r : RelationView) (i : ℕ) (marks : List Bool)
    → length r.rows ≤ i
    → MarksSome r (take i r.rows) marks
    → MarksRows r marks
MarksRows-from_some r i marks all some =
    let marks_all : MarksSome r r.rows marks =
    subst (λ (rows : List (List ℕ)). MarksSome r rows marks) (take_all i r.rows all) some in
    record { counted = marks_all.counted; marked = marks_all.marked }

-- a cell is marked where the tuple that writes it is a row
pub marked_cell :
    (r : RelationView) (marks : List Bool) (cell : ℕ)
    → IsRelation r
    → MarksRows r marks
    → cell < r.domain ^ r.arity
    → (get_or marks cell false ≡ true) ↔ Contains r.rows (digits_of r.domain r.arity cell)
marked_cell r marks cell is marks_rows within =
    let some = is.domain_is.some in
    subst
    (λ (c : ℕ). (get_or marks c false ≡ true) ↔ Contains r.rows (digits_of r.domain r.arity cell))
    (cell_of-digits_of r.domain r.arity cell some within)
    (marks_rows.marked (digits_of r.domain r.arity cell) (digits_of-IsTuple r.domain r.arity cell some within))
