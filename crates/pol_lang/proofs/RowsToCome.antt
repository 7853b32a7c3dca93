-- Rows of a relation that lines write one behind another: those so far ascend, and behind the last line they are the relation's.
use Rattle.std.proofs.Common.{◌≡◌, ℕ, zero, suc, List, [], ◌∷◌, ◌<◌, ◌≤◌, ◌⊎◌, inl, inr, All, AllPairs, Any, Contains, Some, map, length, get_or, refl, sym, ap₂, ◌∙◌, subst, arith}
use Rattle.std.proofs.lemmas.List.Elements.{All-nil, All-head, All-tail, All-weaker, All-contains}
use Rattle.pol_base.specs.Tuples.{IsTuple, IsBefore}
use Rattle.pol_base.proofs.MemberLemmas.{AllPairs-nil, AllPairs-head, AllPairs-tail, Contains-cons_cases, Contains-nil, no_longer}
use Rattle.pol_base.proofs.OrderLemmas.{IsBefore-irrefl, IsBefore-trans}
use Rattle.pol_relation.specs.Relations.{RelationView, IsRelation, with_row}
use Rattle.pol_relation.proofs.RelationLemmas.{AreLong, AreLong-tuples, All-with_row, ascending-with_row, Contains-with_row, Contains-with_row_old}
use Rattle.pol_lang.specs.Spelling.{Write}

-- ---- ascending rows

-- the first row stands before the other members
first_or_behind : (y x : List ℕ) (ys : List (List ℕ)) → AllPairs IsBefore (y ∷ ys) → Contains (y ∷ ys) x → (y ≡ x) ⊎ IsBefore y x
first_or_behind y x ys ascending inside =
    elim (Contains-cons_cases y x ys inside) [
      | inl first ↦ inl first
      | inr behind ↦ inr (All-contains (IsBefore y) ys x (AllPairs-head IsBefore y ys ascending) behind)
    ]

same_first : (x y : List ℕ) → (x ≡ y) ⊎ IsBefore x y → (y ≡ x) ⊎ IsBefore y x → x ≡ y
same_first x y (inl same) other = same
same_first x y (inr before) (inl same) = sym same
same_first x y (inr before) (inr after) = absurd (IsBefore-irrefl x (IsBefore-trans x y x before after))

-- what stands behind the first row is behind the first of the other rows too
behind_first : (x y : List ℕ) (xs ys : List (List ℕ)) → x ≡ y → AllPairs IsBefore (x ∷ xs) → All (Contains (y ∷ ys)) (x ∷ xs) → All (Contains ys) xs
behind_first x y xs ys same ascending members k d inside =
    let z = get_or xs k d in
    elim (Contains-cons_cases y z ys (All-tail (Contains (y ∷ ys)) x xs members k d inside)) [
      | inl first ↦ absurd (IsBefore-irrefl z (subst (λ row. IsBefore row z) (same ∙ first) (AllPairs-head IsBefore x xs ascending k d inside)))
      | inr behind ↦ behind
    ]

-- ascending rows with the same members are the same
same_rows : (xs ys : List (List ℕ)) → AllPairs IsBefore xs → AllPairs IsBefore ys → All (Contains ys) xs → All (Contains xs) ys → xs ≡ ys
same_rows [] [] ascending up there back = refl
same_rows [] (y ∷ ys) ascending up there back = absurd (Contains-nil y (All-head (Contains []) y ys back))
same_rows (x ∷ xs) [] ascending up there back = absurd (Contains-nil x (All-head (Contains []) x xs there))
same_rows (x ∷ xs) (y ∷ ys) ascending up there back =
    let first = same_first x y (first_or_behind x y xs ascending (All-head (Contains (x ∷ xs)) y ys back)) (first_or_behind y x ys up (All-head (Contains (y ∷ ys)) x xs there)) in
    ap₂ (λ row rows. row ∷ rows) first (same_rows xs ys (AllPairs-tail IsBefore x xs ascending) (AllPairs-tail IsBefore y ys up) (behind_first x y xs ys first ascending there) (behind_first y x ys xs (sym first) up back))

-- ---- some of the rows

-- the rows ascend and are rows of the relation
pub record AreSomeRows (r : RelationView) (rows : List (List ℕ)) : Type 0 where
  pub is_relation : IsRelation r
  pub ascending : AllPairs IsBefore rows
  pub members : All (Contains r.rows) rows

AreSomeRows-none : (r : RelationView) → IsRelation r → AreSomeRows r []
AreSomeRows-none r is = record { is_relation = is; ascending = AllPairs-nil IsBefore; members = All-nil (Contains r.rows) }

pub row-tuple : (r : RelationView) (t : List ℕ) → IsRelation r → Contains r.rows t → IsTuple r.domain r.arity t
row-tuple r t is there = All-contains (IsTuple r.domain r.arity) r.rows t is.tuples there

pub some_rows-long : (r : RelationView) (rows : List (List ℕ)) → AreSomeRows r rows → AreLong r.arity rows
some_rows-long r rows some = AreLong-tuples r.domain r.arity rows (All-weaker (Contains r.rows) (IsTuple r.domain r.arity) (λ row there. row-tuple r row some.is_relation there) rows some.members)

pub AreSomeRows-with_row : (r : RelationView) (rows : List (List ℕ)) (t : List ℕ) → AreSomeRows r rows → Contains r.rows t → AreSomeRows r (with_row t rows)
AreSomeRows-with_row r rows t some there =
    let long = (row-tuple r t some.is_relation there).long in
    record {
      is_relation = some.is_relation;
      ascending = ascending-with_row r.arity t rows long (some_rows-long r rows some) some.ascending;
      members = All-with_row (Contains r.rows) r.arity t rows long (some_rows-long r rows some) there some.members;
    }

-- there are no more of them than the relation has
pub some_rows-few : (r : RelationView) (rows : List (List ℕ)) → AreSomeRows r rows → length rows ≤ length r.rows
some_rows-few r rows some =
    no_longer rows r.rows (λ i j d less inside same. IsBefore-irrefl (get_or rows j d) (subst (λ row. IsBefore row (get_or rows j d)) same (some.ascending i j d less inside))) some.members

-- ---- rows to come

-- the lines write rows of the relation, and each row is there already or written by a line
pub record AreToCome (r : RelationView) (rows : List (List ℕ)) (lines : List (List (List ℕ))) : Type 0 where
  pub some : AreSomeRows r rows
  pub rows_only : All (λ tokens. Any (Write tokens) r.rows) lines
  pub each_row : All (λ row. Contains rows row ⊎ Any (λ tokens. Write tokens row) lines) r.rows

pub AreToCome-all : (r : RelationView) (lines : List (List (List ℕ))) → IsRelation r → All (λ tokens. Any (Write tokens) r.rows) lines → All (λ row. Any (λ tokens. Write tokens row) lines) r.rows → AreToCome r [] lines
AreToCome-all r lines is only each = record { some = AreSomeRows-none r is; rows_only = only; each_row = λ k d inside. inr (each k d inside) }

pub AreToCome-done : (r : RelationView) (rows : List (List ℕ)) → AreToCome r rows [] → rows ≡ r.rows
AreToCome-done r rows come =
    same_rows rows r.rows come.some.ascending come.some.is_relation.ascending come.some.members (λ k d inside. elim (come.each_row k d inside) [
      | inl there ↦ there
      | inr any ↦ absurd (omega (arith, any.2))
    ])

-- the tokens write one list of values
same_values : (tokens : List (List ℕ)) (xs ys : List ℕ) → Write tokens xs → Write tokens ys → xs ≡ ys
same_values tokens xs ys write also = same_somes xs ys (sym write ∙ also)
  where
    same_somes : (us vs : List ℕ) → map (λ v. Some v) us ≡ map (λ v. Some v) vs → us ≡ vs
    same_somes [] [] e = refl
    same_somes [] (v ∷ vs) e = absurd (cc)
    same_somes (u ∷ us) [] e = absurd (cc)
    same_somes (u ∷ us) (v ∷ vs) e =
        let first : u ≡ v = cc in
        let later : map (λ w. Some w) us ≡ map (λ w. Some w) vs = cc in
        ap₂ (λ w ws. w ∷ ws) first (same_somes us vs later)

pub AreToCome-more : (r : RelationView) (rows : List (List ℕ)) (tokens : List (List ℕ)) (lines : List (List (List ℕ))) (t : List ℕ) → Contains r.rows t → Write tokens t → AreToCome r rows (tokens ∷ lines) → AreToCome r (with_row t rows) lines
AreToCome-more r rows tokens lines t there write come = record {
  some = AreSomeRows-with_row r rows t come.some there;
  rows_only = All-tail (λ line. Any (Write line) r.rows) tokens lines come.rows_only;
  each_row = λ k d inside. still (get_or r.rows k d) (come.each_row k d inside);
}
  where
    long : length t ≡ r.arity
    long = (row-tuple r t come.some.is_relation there).long

    rows_long : AreLong r.arity rows
    rows_long = some_rows-long r rows come.some

    written : (row : List ℕ) (k : ℕ) (line : List (List ℕ)) → k < suc (length lines) → get_or (tokens ∷ lines) k line ≡ line → Write line row → Contains (with_row t rows) row ⊎ Any (λ other. Write other row) lines
    written row zero line inside found writes =
        let same = same_values tokens t row write (subst (λ other. Write other row) (sym found) writes) in
        inl (subst (Contains (with_row t rows)) same (Contains-with_row r.arity t rows long rows_long))
    written row (suc k) line inside found writes = inr (k, line, omega arith, found, writes)

    still : (row : List ℕ) → Contains rows row ⊎ Any (λ line. Write line row) (tokens ∷ lines) → Contains (with_row t rows) row ⊎ Any (λ line. Write line row) lines
    still row (inl old) = inl (Contains-with_row_old r.arity t row rows long rows_long old)
    still row (inr any) = written row any.0 any.1 any.2 any.3 any.4
