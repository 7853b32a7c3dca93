-- Rows and relations: what `with_row` keeps and adds, how many rows there can be, and what a language keeps.
use Rattle.std.proofs.Common.{◌≡◌, ℕ, List, [], ◌∷◌, length, get_or, ap, suc, ◌-◌, refl, arith, All, sym, ◌∙◌, Contains, inl, inr, ◌⊎◌, AllPairs, ◌+◌, zero, ◌<◌, ◌≤◌, Ordering, Less, Equal, Greater, subst, Result, Ok, Err, ◌^◌, map, ◌≢◌}
use Rattle.std.proofs.lemmas.Bool.{cases_lt}
use Rattle.std.proofs.lemmas.List.{get_or-map, length-map, length_push}
use Rattle.std.proofs.lemmas.List.Elements.{All-nil, All-cons, All-head, All-tail, All-contains, Contains-get_or, All-weaker, All-push}
use Rattle.std.proofs.lemmas.List.Quantifiers.{all_pairs_push}
use Rattle.std.specs.Result.{MatchResult}
use Rattle.std.specs.List.Sorted.{IsNonDecreasingBy, IsPartitionPoint, IsSearchInRange, IsBinarySearchResult}
use Rattle.std.specs.List.{insert}
use Rattle.std.specs.Cmp.Lexicographic.{slice_cmp}
use Rattle.std.specs.Ordering.{ordering_index, nat_cmp, is_eq}
use Rattle.std.proofs.Math.Nat.{pow-le-pow_left, pow-le-pow_right}
use Rattle.std.proofs.lemmas.List.Kept.{AllPairs-cons}
use Rattle.pol_relation.specs.Relations.{RelationView, no_relation, with_row, with_row_at_last, LanguageView, last_of, with_last_row, IsRelation, IsRelationOver, IsLanguage, relation_of, with_relation, names_of, NamedRelation, no_named, with_row_in}
use Rattle.pol_base.specs.Tuples.{IsBefore, IsTuple, cell_of, IsDomain}
use Rattle.pol_base.proofs.LookupLemmas.{IsPlaceOf}
use Rattle.pol_base.proofs.OrderLemmas.{slice_cmp-before, slice_cmp-same, slice_cmp-after, order_of, IsBefore-trans, is_eq-decides, before-slice_cmp, after-slice_cmp}
use Rattle.pol_base.proofs.OrderLemmas.Order.{Before, Same, After}
use Rattle.pol_base.proofs.MemberLemmas.{Contains-here, Contains-there, Contains-cons_cases, Contains-nil, AllPairs-nil, AllPairs-head, AllPairs-tail}
use Rattle.pol_base.proofs.CellLemmas.{cell_of-before, cell_of-IsTuple}

-- with a tuple that is there the last relation stays
with_row_at_last-there : (t : List ℕ) (e : NamedRelation) (rest : List NamedRelation) → (let last = get_or (e ∷ rest) (length rest) no_named in with_row t last.relation.rows ≡ last.relation.rows) → with_row_at_last t (e ∷ rest) ≡ e ∷ rest
with_row_at_last-there t e [] same = ap (λ rows. record { name = e.name; relation = record { domain = e.relation.domain; arity = e.relation.arity; rows = rows } } ∷ []) same
with_row_at_last-there t e (f ∷ rest) same = ap (λ relations. e ∷ relations) (with_row_at_last-there t f rest same)

relations-there : (t : List ℕ) (relations : List NamedRelation) → (let last = get_or relations (length relations - 1) no_named in with_row t last.relation.rows ≡ last.relation.rows) → with_row_at_last t relations ≡ relations
relations-there t [] same = refl
relations-there t (e ∷ rest) same =
    let last : suc (length rest) - 1 ≡ length rest = omega arith in
    with_row_at_last-there t e rest (rw last at same)

pub with_last_row-there : (lang : LanguageView) (t : List ℕ) → with_row t (last_of lang).rows ≡ (last_of lang).rows → with_last_row lang t ≡ lang
with_last_row-there lang t same = ap (λ relations. record { domain = lang.domain; relations = relations }) (relations-there t lang.relations same)

-- one step of `with_row`

pub with_row-before : (t row : List ℕ) (rows : List (List ℕ)) → IsBefore row t → with_row t (row ∷ rows) ≡ row ∷ with_row t rows
with_row-before t row rows before = rw (slice_cmp-before row t before) refl

pub with_row-same : (t row : List ℕ) (rows : List (List ℕ)) → row ≡ t → with_row t (row ∷ rows) ≡ row ∷ rows
with_row-same t row rows same = rw (slice_cmp-same row t same) refl

pub with_row-after : (t row : List ℕ) (rows : List (List ℕ)) → IsBefore t row → with_row t (row ∷ rows) ≡ t ∷ row ∷ rows
with_row-after t row rows after = rw (slice_cmp-after row t after) refl

-- lists of one length
abbrev pub AreLong : ℕ → List (List ℕ) → Type 0
AreLong n rows = All (λ row. length row ≡ n) rows

pub AreLong-tuples : (d n : ℕ) (rows : List (List ℕ)) → All (IsTuple d n) rows → AreLong n rows
AreLong-tuples d n rows tuples = λ k fallback inside. (tuples k fallback inside).long

-- what holds of the tuple and of each row holds of each row with the tuple
pub All-with_row : (P : List ℕ → Type 0) (n : ℕ) (t : List ℕ) (rows : List (List ℕ)) → length t ≡ n → AreLong n rows → P t → All P rows → All P (with_row t rows)
All-with_row P n t [] long rows_long holds all = All-cons P t [] holds (All-nil P)
All-with_row P n t (row ∷ rows) long rows_long holds all =
    let rest = All-with_row P n t rows long (All-tail (λ r. length r ≡ n) row rows rows_long) holds (All-tail P row rows all) in
    elim (order_of row t (All-head (λ r. length r ≡ n) row rows rows_long ∙ sym long)) [
      | Before before ↦ rw (with_row-before t row rows before) (All-cons P row (with_row t rows) (All-head P row rows all) rest)
      | Same same ↦ rw (with_row-same t row rows same) all
      | After after ↦ rw (with_row-after t row rows after) (All-cons P t (row ∷ rows) holds all)
    ]

pub Contains-with_row : (n : ℕ) (t : List ℕ) (rows : List (List ℕ)) → length t ≡ n → AreLong n rows → Contains (with_row t rows) t
Contains-with_row n t [] long rows_long = Contains-here t []
Contains-with_row n t (row ∷ rows) long rows_long =
    let rest = Contains-with_row n t rows long (All-tail (λ r. length r ≡ n) row rows rows_long) in
    elim (order_of row t (All-head (λ r. length r ≡ n) row rows rows_long ∙ sym long)) [
      | Before before ↦ rw (with_row-before t row rows before) (Contains-there row t (with_row t rows) rest)
      | Same same ↦ rw (with_row-same t row rows same) (0, omega arith, same)
      | After after ↦ rw (with_row-after t row rows after) (Contains-here t (row ∷ rows))
    ]

pub Contains-with_row_old : (n : ℕ) (t u : List ℕ) (rows : List (List ℕ)) → length t ≡ n → AreLong n rows → Contains rows u → Contains (with_row t rows) u
Contains-with_row_old n t u [] long rows_long inside = absurd (Contains-nil u inside)
Contains-with_row_old n t u (row ∷ rows) long rows_long inside =
    let rest = Contains-with_row_old n t u rows long (All-tail (λ r. length r ≡ n) row rows rows_long) in
    elim (order_of row t (All-head (λ r. length r ≡ n) row rows rows_long ∙ sym long)) [
      | Before before ↦ rw (with_row-before t row rows before) (elim (Contains-cons_cases row u rows inside) [
        | inl first ↦ (0, omega arith, first)
        | inr behind ↦ Contains-there row u (with_row t rows) (rest behind)
      ])
      | Same same ↦ rw (with_row-same t row rows same) inside
      | After after ↦ rw (with_row-after t row rows after) (Contains-there t u (row ∷ rows) inside)
    ]

-- a row with the tuple is the tuple, or one of the old rows
pub with_row-cases : (n : ℕ) (t u : List ℕ) (rows : List (List ℕ)) → length t ≡ n → AreLong n rows → Contains (with_row t rows) u → (u ≡ t) ⊎ Contains rows u
with_row-cases n t u rows long rows_long inside =
    All-contains (λ v. (v ≡ t) ⊎ Contains rows v) (with_row t rows) u
    (All-with_row (λ v. (v ≡ t) ⊎ Contains rows v) n t rows long rows_long (inl refl) (λ k d within. inr (Contains-get_or rows k d within))) inside

pub ascending-with_row : (n : ℕ) (t : List ℕ) (rows : List (List ℕ)) → length t ≡ n → AreLong n rows → AllPairs IsBefore rows → AllPairs IsBefore (with_row t rows)
ascending-with_row n t [] long rows_long ascending = AllPairs-cons IsBefore t [] (All-nil (IsBefore t)) (AllPairs-nil IsBefore)
ascending-with_row n t (row ∷ rows) long rows_long ascending =
    let tail_long = All-tail (λ r. length r ≡ n) row rows rows_long in
    let later = AllPairs-head IsBefore row rows ascending in
    let rest = ascending-with_row n t rows long tail_long (AllPairs-tail IsBefore row rows ascending) in
    elim (order_of row t (All-head (λ r. length r ≡ n) row rows rows_long ∙ sym long)) [
      | Before before ↦ rw (with_row-before t row rows before) (AllPairs-cons IsBefore row (with_row t rows) (All-with_row (IsBefore row) n t rows long tail_long before later) rest)
      | Same same ↦ rw (with_row-same t row rows same) ascending
      | After after ↦ rw (with_row-after t row rows after) (AllPairs-cons IsBefore t (row ∷ rows)
          (All-cons (IsBefore t) row rows after (All-weaker (IsBefore row) (IsBefore t) (λ u behind. IsBefore-trans t row u after behind) rows later)) ascending)
    ]

-- a tuple that is there changes nothing
pub with_row-there : (n : ℕ) (t : List ℕ) (rows : List (List ℕ)) → length t ≡ n → AreLong n rows → AllPairs IsBefore rows → Contains rows t → with_row t rows ≡ rows
with_row-there n t [] long rows_long ascending inside = absurd (Contains-nil t inside)
with_row-there n t (row ∷ rows) long rows_long ascending inside =
    let rest = with_row-there n t rows long (All-tail (λ r. length r ≡ n) row rows rows_long) (AllPairs-tail IsBefore row rows ascending) in
    elim (Contains-cons_cases row t rows inside) [
      | inl first ↦ with_row-same t row rows first
      | inr behind ↦ with_row-before t row rows (All-contains (IsBefore row) rows t (AllPairs-head IsBefore row rows ascending) behind) ∙ ap (λ some. row ∷ some) (rest behind)
    ]

-- a new tuple is one row more
pub length-with_row_new : (n : ℕ) (t : List ℕ) (rows : List (List ℕ)) → length t ≡ n → AreLong n rows → (Contains rows t → ⊥) → length (with_row t rows) ≡ length rows + 1
length-with_row_new n t [] long rows_long new = refl
length-with_row_new n t (row ∷ rows) long rows_long new =
    let rest = length-with_row_new n t rows long (All-tail (λ r. length r ≡ n) row rows rows_long) (λ inside. new (Contains-there row t rows inside)) in
    elim (order_of row t (All-head (λ r. length r ≡ n) row rows rows_long ∙ sym long)) [
      | Before before ↦ rw (with_row-before t row rows before) (omega arith)
      | Same same ↦ absurd (new (0, omega arith, same))
      | After after ↦ rw (with_row-after t row rows after) (omega arith)
    ]

-- the tuple goes between the rows before it and those after it
pub with_row-insert : (t : List ℕ) (rows : List (List ℕ)) (i : ℕ) → i ≤ length rows → ((k : ℕ) (d : List ℕ) → k < i → IsBefore (get_or rows k d) t) → ((k : ℕ) (d : List ℕ) → i ≤ k → k < length rows → IsBefore t (get_or rows k d)) → with_row t rows ≡ insert rows i t
with_row-insert t [] zero within before after = refl
with_row-insert t [] (suc i) within before after = absurd (omega arith)
with_row-insert t (row ∷ rows) zero within before after = with_row-after t row rows (after 0 row (omega arith) (omega arith))
with_row-insert t (row ∷ rows) (suc i) within before after =
    let rest = with_row-insert t rows i (omega arith) (λ k d less. before (suc k) d (omega arith)) (λ k d more inside. after (suc k) d (omega arith) (omega arith)) in
    with_row-before t row rows (before 0 row (omega arith)) ∙ ap (λ some. row ∷ some) rest

-- the tuple is new, and goes to the place
pub record IsGapFor (t : List ℕ) (rows : List (List ℕ)) (i : ℕ) : Type 0 where
  pub within : i ≤ length rows
  pub inserted : with_row t rows ≡ insert rows i t
  pub new : Contains rows t → ⊥

at_most_two : (answer : Ordering) → ordering_index answer ≤ 2
at_most_two Less = omega arith
at_most_two Equal = omega arith
at_most_two Greater = omega arith

equal_lists : (xs ys : List ℕ) → slice_cmp nat_cmp xs ys ≡ Equal → xs ≡ ys
equal_lists xs ys equal = (is_eq-decides xs ys).0 (ap is_eq equal)

not_equal : (xs ys : List ℕ) → xs ≡ ys → (slice_cmp nat_cmp xs ys ≡ Less) ⊎ (slice_cmp nat_cmp xs ys ≡ Greater) → ⊥
not_equal xs ys same unequal =
    let equal = slice_cmp-same xs ys same in
    elim unequal [ inl less ↦ absurd (cc) | inr more ↦ absurd (cc) ]

index_behind : (r u t : List ℕ) → length r ≡ length t → IsBefore r u → ordering_index (slice_cmp nat_cmp r t) ≤ ordering_index (slice_cmp nat_cmp u t)
index_behind r u t long before =
    elim (order_of r t long) [
      | Before first ↦ rw (slice_cmp-before r t first) (omega arith)
      | Same same ↦ rw (slice_cmp-after u t (subst (λ v. IsBefore v u) same before)) (at_most_two (slice_cmp nat_cmp r t))
      | After after ↦ rw (slice_cmp-after u t (IsBefore-trans t r u after before)) (at_most_two (slice_cmp nat_cmp r t))
    ]

-- ascending rows, compared with one tuple, are first less, then equal, then greater
pub rising_rows : (n : ℕ) (t : List ℕ) (rows : List (List ℕ)) → length t ≡ n → AreLong n rows → AllPairs IsBefore rows → IsNonDecreasingBy (λ row. ordering_index (slice_cmp nat_cmp row t)) rows
rising_rows n t rows long rows_long ascending = λ i j d less inside.
    elim (cases_lt i j) [
      | inl earlier ↦ index_behind (get_or rows i d) (get_or rows j d) t (rows_long i d (omega arith) ∙ sym long) (ascending i j d earlier inside)
      | inr later ↦ let one : i ≡ j = omega arith in rw one (omega arith)
    ]

gap_at : (t : List ℕ) (rows : List (List ℕ)) (n i : ℕ) → length t ≡ n → AreLong n rows → i ≤ length rows → IsPartitionPoint (λ row. slice_cmp nat_cmp row t ≡ Less) (λ row. slice_cmp nat_cmp row t ≡ Greater) rows i → IsGapFor t rows i
gap_at t rows n i long rows_long within parted = record {
  within = within;
  inserted = with_row-insert t rows i within
      (λ k d less. before-slice_cmp (get_or rows k d) t (rows_long k d (omega arith) ∙ sym long) (parted.0 k d (omega arith) less))
      (λ k d more inside. after-slice_cmp (get_or rows k d) t (rows_long k d inside ∙ sym long) (parted.1 k d more inside));
  new = λ member. not_equal (get_or rows member.0 t) t member.2 (elim (cases_lt member.0 i) [
    | inl less ↦ inl (parted.0 member.0 t (omega arith) less)
    | inr more ↦ inr (parted.1 member.0 t more member.1)
  ]);
}

-- what `binary_search` answers in ascending rows: the place of the tuple, or the place where it goes
pub searched_rows : (n : ℕ) (t : List ℕ) (rows : List (List ℕ)) (answer : Result ℕ ℕ) → length t ≡ n → AreLong n rows → AllPairs IsBefore rows → IsSearchInRange answer (length rows) → IsBinarySearchResult (λ row. slice_cmp nat_cmp row t) rows answer → MatchResult answer (IsPlaceOf t rows) (IsGapFor t rows)
searched_rows n t rows (Ok i) long rows_long ascending bound found = record { inside = bound; found = equal_lists (get_or rows i t) t (found t) }
searched_rows n t rows (Err i) long rows_long ascending bound found = gap_at t rows n i long rows_long bound (found (rising_rows n t rows long rows_long ascending))

-- few rows

-- the row at a place has a cell of at least the place
pub place-le-cell : (d n : ℕ) (rows : List (List ℕ)) → All (IsTuple d n) rows → AllPairs IsBefore rows → (i : ℕ) → i < length rows → i ≤ cell_of d (get_or rows i [])
place-le-cell d n rows tuples ascending zero within = omega arith
place-le-cell d n rows tuples ascending (suc i) within =
    let rest = place-le-cell d n rows tuples ascending i (omega arith) in
    let one = tuples i [] (omega arith) in
    let other = tuples (suc i) [] within in
    let step = cell_of-before d (get_or rows i []) (get_or rows (suc i) []) (one.long ∙ sym other.long) one.below other.below (ascending i (suc i) [] (omega arith) within) in
    omega arith

pub rows-le-cells : (d n : ℕ) (rows : List (List ℕ)) → All (IsTuple d n) rows → AllPairs IsBefore rows → length rows ≤ d ^ n
rows-le-cells d n [] tuples ascending = omega arith
rows-le-cells d n (row ∷ rows) tuples ascending =
    let last = place-le-cell d n (row ∷ rows) tuples ascending (length rows) (omega arith) in
    let within = cell_of-IsTuple d n (get_or (row ∷ rows) (length rows) []) (tuples (length rows) [] (omega arith)) in
    omega arith

pub few_cells : (d n : ℕ) → d ≤ 5 → n ≤ 6 → d ^ n ≤ 15625
few_cells d n few short =
    let base : d ^ n ≤ 5 ^ n = pow-le-pow_left {n = d} {m = 5} few n in
    let exponent : 5 ^ n ≤ 5 ^ 6 = pow-le-pow_right {n = 5} (omega arith) {i = n} {j = 6} short in
    omega arith

pub length-rows : (r : RelationView) → IsRelation r → length r.rows ≤ r.domain ^ r.arity
length-rows r is = rows-le-cells r.domain r.arity r.rows is.tuples is.ascending

pub length-rows_few : (r : RelationView) → IsRelation r → length r.rows ≤ 15625
length-rows_few r is =
    let rows = length-rows r is in
    let cells = few_cells r.domain r.arity is.domain_is.few is.few_places in
    omega arith

-- a language with a row, and with a relation

-- the relation with the tuple as a row
pub IsRelation-with_row : (r : RelationView) (t : List ℕ) → IsRelation r → IsTuple r.domain r.arity t → IsRelation (with_row_in r t)
IsRelation-with_row r t is tuple =
    let long = AreLong-tuples r.domain r.arity r.rows is.tuples in
    record {
      domain_is = is.domain_is;
      some_places = is.some_places;
      few_places = is.few_places;
      tuples = All-with_row (IsTuple r.domain r.arity) r.arity t r.rows tuple.long long tuple is.tuples;
      ascending = ascending-with_row r.arity t r.rows tuple.long long is.ascending;
    }

pub IsRelationOver-with_row : (d : ℕ) (r : RelationView) (t : List ℕ) → IsRelationOver d r → IsTuple r.domain r.arity t → IsRelationOver d (with_row_in r t)
IsRelationOver-with_row d r t over tuple = record { is_relation = IsRelation-with_row r t over.is_relation tuple; same_domain = over.same_domain }

names-with_row_at_last : (t : List ℕ) (relations : List NamedRelation) → map (λ e. e.name) (with_row_at_last t relations) ≡ map (λ e. e.name) relations
names-with_row_at_last t [] = refl
names-with_row_at_last t (e ∷ []) = refl
names-with_row_at_last t (e ∷ f ∷ rest) = ap (λ names. e.name ∷ names) (names-with_row_at_last t (f ∷ rest))

length-with_row_at_last : (t : List ℕ) (relations : List NamedRelation) → length (with_row_at_last t relations) ≡ length relations
length-with_row_at_last t [] = refl
length-with_row_at_last t (e ∷ []) = refl
length-with_row_at_last t (e ∷ f ∷ rest) = ap suc (length-with_row_at_last t (f ∷ rest))

-- what stands at the last place
get_or-with_row_at_last : (t : List ℕ) (e : NamedRelation) (rest : List NamedRelation) (d : NamedRelation) → get_or (with_row_at_last t (e ∷ rest)) (length rest) d ≡ (let last = get_or (e ∷ rest) (length rest) d in record { name = last.name; relation = with_row_in last.relation t })
get_or-with_row_at_last t e [] d = refl
get_or-with_row_at_last t e (f ∷ rest) d = get_or-with_row_at_last t f rest d

-- what stands before it
get_or-with_row_at_last_other : (t : List ℕ) (relations : List NamedRelation) (i : ℕ) (d : NamedRelation) → i + 1 < length relations → get_or (with_row_at_last t relations) i d ≡ get_or relations i d
get_or-with_row_at_last_other t [] i d before = refl
get_or-with_row_at_last_other t (e ∷ []) i d before = absurd (omega arith)
get_or-with_row_at_last_other t (e ∷ f ∷ rest) zero d before = refl
get_or-with_row_at_last_other t (e ∷ f ∷ rest) (suc i) d before = get_or-with_row_at_last_other t (f ∷ rest) i d (omega arith)

-- each relation, where the last one is kept with the row
relations-with_row_at_last : (d : ℕ) (t : List ℕ) (e : NamedRelation) (rest : List NamedRelation) → All (λ f. IsRelationOver d f.relation) (e ∷ rest) → (let last = get_or (e ∷ rest) (length rest) no_named in IsTuple last.relation.domain last.relation.arity t) → All (λ f. IsRelationOver d f.relation) (with_row_at_last t (e ∷ rest))
relations-with_row_at_last d t e [] all tuple =
    All-cons (λ f. IsRelationOver d f.relation) (record { name = e.name; relation = with_row_in e.relation t }) [] (IsRelationOver-with_row d e.relation t (All-head (λ f. IsRelationOver d f.relation) e [] all) tuple) (All-nil (λ f. IsRelationOver d f.relation))
relations-with_row_at_last d t e (f ∷ rest) all tuple =
    All-cons (λ f. IsRelationOver d f.relation) e (with_row_at_last t (f ∷ rest)) (All-head (λ f. IsRelationOver d f.relation) e (f ∷ rest) all)
    (relations-with_row_at_last d t f rest (All-tail (λ f. IsRelationOver d f.relation) e (f ∷ rest) all) tuple)

-- the names are distinct where the names are distinct
distinct_names : (relations : List NamedRelation) → AllPairs (λ e f. e.name ≢ f.name) relations → AllPairs (λ a b. a ≢ b) (map (λ e. e.name) relations)
distinct_names relations distinct = λ i j d less inside same.
    let j_inside : j < length relations = omega (arith, length-map relations (λ e. e.name)) in
    let i_inside : i < length relations = omega arith in
    distinct i j (record { name = d; relation = no_relation }) less j_inside
    (sym (get_or-map (λ e. e.name) relations i (record { name = d; relation = no_relation }) d i_inside) ∙ (same ∙ get_or-map (λ e. e.name) relations j (record { name = d; relation = no_relation }) d j_inside))

distinct_relations : (relations : List NamedRelation) → AllPairs (λ a b. a ≢ b) (map (λ e. e.name) relations) → AllPairs (λ e f. e.name ≢ f.name) relations
distinct_relations relations distinct = λ i j d less inside same.
    let i_inside : i < length relations = omega arith in
    distinct i j d.name less (omega (arith, length-map relations (λ e. e.name)))
    (get_or-map (λ e. e.name) relations i d d.name i_inside ∙ (same ∙ sym (get_or-map (λ e. e.name) relations j d d.name inside)))

pub length-with_last_row : (lang : LanguageView) (t : List ℕ) → length (with_last_row lang t).relations ≡ length lang.relations
length-with_last_row lang t = length-with_row_at_last t lang.relations

last_relation : (t : List ℕ) (relations : List NamedRelation) (d : NamedRelation) → 0 < length relations → get_or (with_row_at_last t relations) (length relations - 1) d ≡ (let last = get_or relations (length relations - 1) d in record { name = last.name; relation = with_row_in last.relation t })
last_relation t [] d some = absurd (omega arith)
last_relation t (e ∷ rest) d some =
    let last : suc (length rest) - 1 ≡ length rest = omega arith in
    rw last (get_or-with_row_at_last t e rest d)

relations_kept : (d : ℕ) (t : List ℕ) (relations : List NamedRelation) → All (λ f. IsRelationOver d f.relation) relations → (let last = get_or relations (length relations - 1) no_named in IsTuple last.relation.domain last.relation.arity t) → All (λ f. IsRelationOver d f.relation) (with_row_at_last t relations)
relations_kept d t [] all tuple = all
relations_kept d t (e ∷ rest) all tuple =
    let last : suc (length rest) - 1 ≡ length rest = omega arith in
    relations-with_row_at_last d t e rest all (rw last at tuple)

pub IsLanguage-with_last_row : (lang : LanguageView) (t : List ℕ) → IsLanguage lang → IsTuple (relation_of lang (length lang.relations - 1)).domain (relation_of lang (length lang.relations - 1)).arity t → IsLanguage (with_last_row lang t)
IsLanguage-with_last_row lang t is tuple = record {
  domain_is = is.domain_is;
  relations_are = relations_kept lang.domain t lang.relations is.relations_are tuple;
  distinct = distinct_relations (with_row_at_last t lang.relations) (subst (λ names. AllPairs (λ a b. a ≢ b) names) (sym (names-with_row_at_last t lang.relations)) (distinct_names lang.relations is.distinct));
}

pub length-with_relation : (lang : LanguageView) (name : List ℕ) (r : RelationView) → length (with_relation lang name r).relations ≡ length lang.relations + 1
length-with_relation lang name r = length_push lang.relations (record { name = name; relation = r })

pub IsLanguage-with_relation : (lang : LanguageView) (name : List ℕ) (r : RelationView) → IsLanguage lang → IsRelationOver lang.domain r → (Contains (names_of lang) name → ⊥) → IsLanguage (with_relation lang name r)
IsLanguage-with_relation lang name r is over new = record {
  domain_is = is.domain_is;
  relations_are = All-push (λ e. IsRelationOver lang.domain e.relation) lang.relations (record { name = name; relation = r }) is.relations_are over;
  distinct = all_pairs_push (λ e f. e.name ≢ f.name) lang.relations (record { name = name; relation = r }) is.distinct (λ k d inside same.
      new (k, omega (arith, length-map lang.relations (λ e. e.name)), get_or-map (λ e. e.name) lang.relations k d name inside ∙ same));
}

-- a relation that is begun has no rows
pub IsRelation-begun : (d arity : ℕ) → IsDomain d → 1 ≤ arity → arity ≤ 6 → IsRelation (record { domain = d; arity = arity; rows = [] })
IsRelation-begun d arity domain some few = record {
  domain_is = domain;
  some_places = some;
  few_places = few;
  tuples = All-nil (IsTuple d arity);
  ascending = AllPairs-nil IsBefore;
}

-- a language that is begun has no relations
pub IsLanguage-begun : (d : ℕ) → IsDomain d → IsLanguage (record { domain = d; relations = [] })
IsLanguage-begun d domain = record { domain_is = domain; relations_are = All-nil (λ e. IsRelationOver d e.relation); distinct = AllPairs-nil (λ e f. e.name ≢ f.name) }

pub IsRelationOver-relation_of : (lang : LanguageView) (r : ℕ) → IsLanguage lang → r < length lang.relations → IsRelationOver lang.domain (relation_of lang r)
IsRelationOver-relation_of lang r is inside = is.relations_are r no_named inside
