-- Rows that ascend: there is one list of them for a set.
use Rattle.std.proofs.Common.{◌≡◌, ℕ, zero, suc, List, [], ◌∷◌, ◌⊎◌, inl, inr, All, AllPairs, Contains, Bool, Ordering, Less, Equal, Greater, true, false, length, get_or, refl, sym, ap₂, ◌∙◌, subst, arith}
use Rattle.std.specs.List.{list_all}
use Rattle.std.specs.Cmp.Lexicographic.{slice_cmp}
use Rattle.std.specs.Ordering.{nat_cmp, is_lt}
use Rattle.std.specs.Prelude.{IsTrue, ◌↔◌}
use Rattle.std.proofs.lemmas.Bool.{and_parts, false≢true}
use Rattle.std.proofs.lemmas.List.{get_or_default}
use Rattle.std.proofs.lemmas.List.Elements.{All-head, All-tail, All-weaker, All-contains}
use Rattle.std.proofs.lemmas.List.Sums.{AllPass-from_list_all}
use Rattle.pol_base.specs.Tuples.{IsBefore}
use Rattle.pol_base.proofs.MemberLemmas.{AllPairs-nil, AllPairs-head, AllPairs-tail, Contains-cons_cases, Contains-nil, Contains-here, Contains-there}
use Rattle.pol_base.proofs.OrderLemmas.{IsBefore-irrefl, IsBefore-trans, before-slice_cmp}
use Rattle.pol_base.specs.Lists.{is_among}
use Rattle.pol_base.proofs.LookupLemmas.{is_among-decides, other_name}
use Rattle.pol_relation.specs.Relations.{RelationView, IsRelation, SameMembers}
use Rattle.pol_gen.specs.Kinds.{ascend}

pub All-from_list_all : {X : Type 0} (test : X → Bool) (P : X → Type 0) → ((x : X) → test x ≡ true → P x) → (xs : List X) → list_all test xs ≡ true → All P xs
All-from_list_all test P says xs passes = All-weaker (λ x. test x ≡ true) P says xs (AllPass-from_list_all test xs passes)

-- ---- one list for a set

-- the first row stands before the other members
first_or_behind : (y x : List ℕ) (ys : List (List ℕ)) → AllPairs IsBefore (y ∷ ys) → Contains (y ∷ ys) x → (y ≡ x) ⊎ IsBefore y x
first_or_behind y x ys ascending inside =
    elim (Contains-cons_cases y x ys inside) [
      | inl first ↦ inl first
      | inr behind ↦ inr (All-contains (IsBefore y) ys x (AllPairs-head IsBefore y ys ascending) behind)
    ]

same_first : (x y : List ℕ) → (x ≡ y) ⊎ IsBefore x y → (y ≡ x) ⊎ IsBefore y x → x ≡ y
same_first x y (inl same) other = same
same_first x y (inr before) (inl same) = sym same
same_first x y (inr before) (inr after) = absurd (IsBefore-irrefl x (IsBefore-trans x y x before after))

-- what stands behind the first row is behind the first of the other rows too
behind_first : (x y : List ℕ) (xs ys : List (List ℕ)) → x ≡ y → AllPairs IsBefore (x ∷ xs) → SameMembers (x ∷ xs) (y ∷ ys) → (z : List ℕ) → Contains xs z → Contains ys z
behind_first x y xs ys same ascending members z inside =
    elim (Contains-cons_cases y z ys ((members z).0 (Contains-there x z xs inside))) [
      | inl first ↦ absurd (IsBefore-irrefl z (subst (λ row. IsBefore row z) (same ∙ first) (All-contains (IsBefore x) xs z (AllPairs-head IsBefore x xs ascending) inside)))
      | inr behind ↦ behind
    ]

-- ascending rows with the same members are the same
pub same_rows : (xs ys : List (List ℕ)) → AllPairs IsBefore xs → AllPairs IsBefore ys → SameMembers xs ys → xs ≡ ys
same_rows [] [] ascending up members = refl
same_rows [] (y ∷ ys) ascending up members = absurd (Contains-nil y ((members y).1 (Contains-here y ys)))
same_rows (x ∷ xs) [] ascending up members = absurd (Contains-nil x ((members x).0 (Contains-here x xs)))
same_rows (x ∷ xs) (y ∷ ys) ascending up members =
    let first = same_first x y (first_or_behind x y xs ascending ((members y).1 (Contains-here y ys))) (first_or_behind y x ys up ((members x).0 (Contains-here x xs))) in
    let back : SameMembers (y ∷ ys) (x ∷ xs) = λ t. ((members t).1, (members t).0) in
    let rest : SameMembers xs ys = λ t. (behind_first x y xs ys first ascending members t, behind_first y x ys xs (sym first) up back t) in
    ap₂ (λ row rows. row ∷ rows) first (same_rows xs ys (AllPairs-tail IsBefore x xs ascending) (AllPairs-tail IsBefore y ys up) rest)

-- ---- the test for ascending rows

less_from_is_lt : (o : Ordering) → is_lt o ≡ true → o ≡ Less
less_from_is_lt Less e = refl
less_from_is_lt Equal e = cc
less_from_is_lt Greater e = cc

AllPairs-cons : (x : List ℕ) (xs : List (List ℕ)) → All (IsBefore x) xs → AllPairs IsBefore xs → AllPairs IsBefore (x ∷ xs)
AllPairs-cons x xs first rest zero zero d less inside = absurd (omega arith)
AllPairs-cons x xs first rest zero (suc j) d less inside = first j d (omega arith)
AllPairs-cons x xs first rest (suc i) zero d less inside = absurd (omega arith)
AllPairs-cons x xs first rest (suc i) (suc j) d less inside = rest i j d (omega arith) (omega arith)

-- rows of one length that pass the test ascend
pub ascending-from_ascend : (n : ℕ) (rows : List (List ℕ)) → All (λ row. length row ≡ n) rows → ascend rows ≡ true → AllPairs IsBefore rows
ascending-from_ascend n [] long passes = AllPairs-nil IsBefore
ascending-from_ascend n (t ∷ rest) long passes =
    let parts = and_parts (list_all (λ u. is_lt (slice_cmp nat_cmp t u)) rest) (ascend rest) passes in
    let head : length t ≡ n = All-head (λ row. length row ≡ n) t rest long in
    let tail : All (λ row. length row ≡ n) rest = All-tail (λ row. length row ≡ n) t rest long in
    let before : All (λ u. is_lt (slice_cmp nat_cmp t u) ≡ true) rest = AllPass-from_list_all (λ u. is_lt (slice_cmp nat_cmp t u)) rest parts.0 in
    AllPairs-cons t rest (λ k d inside. before-slice_cmp t (get_or rest k d) (head ∙ sym (tail k d inside)) (less_from_is_lt (slice_cmp nat_cmp t (get_or rest k d)) (before k d inside))) (ascending-from_ascend n rest tail parts.1)

-- the relation of tuples that are written in ascending order
pub relation_of_tuples : (r : RelationView) (d n : ℕ) (tuples : List (List ℕ)) → r.domain ≡ d → r.arity ≡ n → SameMembers r.rows tuples → IsRelation r → ascend tuples ≡ true → r ≡ record { domain = d; arity = n; rows = tuples }
relation_of_tuples r d n tuples domain arity members is passes =
    let long : All (λ t. length t ≡ r.arity) tuples = λ k fallback inside. let t = get_or tuples k fallback in (All-contains (λ u. length u ≡ r.arity) r.rows t (λ j e within. (is.tuples j e within).long) ((members t).1 (k, inside, get_or_default tuples k t fallback inside))) in
    let rows = same_rows r.rows tuples is.ascending (ascending-from_ascend r.arity tuples long passes) members in
    (λ i. record { domain = domain i; arity = arity i; rows = rows i })

-- a test for a row is the test for a member
pub same_test : (b : Bool) (rows : List (List ℕ)) (t : List ℕ) → IsTrue b ↔ Contains rows t → b ≡ is_among rows t
same_test true rows t tells = sym ((is_among-decides rows t).1 (tells.0 refl))
same_test false rows t tells = sym (other_name rows t (λ inside. false≢true (tells.1 inside)))
