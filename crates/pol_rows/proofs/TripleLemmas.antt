-- Triples that pass a test, listed each once, are as many as are counted.
use Rattle.std.proofs.Common.{◌≡◌, ◌≢◌, ℕ, zero, suc, ◌+◌, ◌<◌, ◌≤◌, ◌⊎◌, inl, inr, Bool, true, false, cond, List, [], ◌∷◌, ◌++◌, ◌∙◌, length, length-append, All, AllPairs, Contains, get_or, sym, refl, subst, arith}
use Rattle.std.specs.Prelude.{slice_index}
use Rattle.std.proofs.lemmas.Bool.{cases_lt, false≢true}
use Rattle.std.proofs.lemmas.List.Elements.{All-nil, All-cons, All-append, All-head, All-tail, All-contains, Contains-append_left, Contains-append_right}
use Rattle.std.proofs.lemmas.List.Kept.{AllPairs-cons}
use Rattle.pol_base.specs.Tuples.{IsTuple}
use Rattle.pol_base.proofs.MemberLemmas.{AllPairs-nil, AllPairs-head, AllPairs-tail, Contains-here, no_longer}
use Rattle.pol_rows.specs.Signatures.{sum_below, count_pairs, count_triples, IsSignatureSize}
use Rattle.pol_rows.specs.RowLists.{IsLeastPair}
use Rattle.pol_rows.specs.Laws.{Triple, IsTripleOf, ListsSignature}

-- the triples of which P holds can be listed, each once, and are so many
pub record Enumerates (P : Triple → Type 0) (count : ℕ) : Type 0 where
  pub list : List Triple
  pub distinct : AllPairs (λ s t. s ≢ t) list
  pub only : All P list
  pub all : (t : Triple) → P t → Contains list t
  pub counted : length list ≡ count

none_listed : (P : Triple → Type 0) → ((t : Triple) → P t → ⊥) → Enumerates P 0
none_listed P none = record {
  list = [];
  distinct = AllPairs-nil (λ (s t : Triple). s ≢ t);
  only = All-nil P;
  all = λ t holds. absurd (none t holds);
  counted = refl;
}

one_listed : (P : Triple → Type 0) (x : Triple) → P x → ((t : Triple) → P t → x ≡ t) → Enumerates P 1
one_listed P x holds same = record {
  list = x ∷ [];
  distinct = AllPairs-cons (λ (s t : Triple). s ≢ t) x [] (All-nil (λ t. x ≢ t)) (AllPairs-nil (λ (s t : Triple). s ≢ t));
  only = All-cons P x [] holds (All-nil P);
  all = λ t is. subst (Contains (x ∷ [])) (same t is) (Contains-here x []);
  counted = refl;
}

-- lists without a member in common
distinct_append : (xs ys : List Triple) → AllPairs (λ s t. s ≢ t) xs → AllPairs (λ s t. s ≢ t) ys → All (λ x. All (λ y. x ≢ y) ys) xs → AllPairs (λ s t. s ≢ t) (xs ++ ys)
distinct_append [] ys first second apart = second
distinct_append (x ∷ xs) ys first second apart =
    AllPairs-cons (λ (s t : Triple). s ≢ t) x (xs ++ ys)
    (All-append (λ y. x ≢ y) xs ys (AllPairs-head (λ (s t : Triple). s ≢ t) x xs first) (All-head (λ x. All (λ y. x ≢ y) ys) x xs apart))
    (distinct_append xs ys (AllPairs-tail (λ (s t : Triple). s ≢ t) x xs first) second (All-tail (λ x. All (λ y. x ≢ y) ys) x xs apart))

both_listed :
    (P Q R : Triple → Type 0) (k m : ℕ)
    → Enumerates P k
    → Enumerates Q m
    → ((t : Triple) → P t → Q t → ⊥)
    → ((t : Triple) → R t → P t ⊎ Q t)
    → ((t : Triple) → P t → R t)
    → ((t : Triple) → Q t → R t)
    → Enumerates R (k + m)
both_listed P Q R k m p q apart split left right = record {
  list = p.list ++ q.list;
  distinct = distinct_append p.list q.list p.distinct q.distinct (λ i d low j e low' same.
      apart (get_or p.list i d) (p.only i d low) (subst Q (sym same) (q.only j e low')));
  only = All-append R p.list q.list (λ i d low. left (get_or p.list i d) (p.only i d low)) (λ i d low. right (get_or q.list i d) (q.only i d low));
  all = λ t is. elim (split t is) [
    | inl first ↦ Contains-append_left p.list q.list t (p.all t first)
    | inr second ↦ Contains-append_right p.list q.list t (q.all t second)
  ];
  counted = omega (arith, length-append p.list q.list, p.counted, q.counted);
}

-- for some number below n
record Below (n : ℕ) (P : ℕ → Triple → Type 0) (t : Triple) : Type 0 where
  number : ℕ
  below : number < n
  holds : P number t

sum_listed :
    (n : ℕ) (count : ℕ → ℕ) (P : ℕ → Triple → Type 0)
    → ((k : ℕ) → Enumerates (P k) (count k))
    → ((j k : ℕ) (t : Triple) → P j t → P k t → j ≡ k)
    → Enumerates (Below n P) (sum_below n count)
sum_listed zero count P each one = none_listed (Below zero P) (λ t some. (let low = some.below in omega arith))
sum_listed (suc n) count P each one =
    both_listed (Below n P) (P n) (Below (suc n) P) (sum_below n count) (count n) (sum_listed n count P each one) (each n)
    (λ t some last. (let same = one some.number n t some.holds last in let low = some.below in omega (arith, same, low)))
    (λ t some. split t some (cases_lt some.number n))
    (λ t some. record { number = some.number; below = (let low : some.number < n = some.below in omega arith); holds = some.holds })
    (λ t last. record { number = n; below = omega arith; holds = last })
  where
    split : (t : Triple) (some : Below (suc n) P t) → (some.number < n) ⊎ (n ≤ some.number) → Below n P t ⊎ P n t
    split t some (inl low) = inl (record { number = some.number; below = low; holds = some.holds })
    split t some (inr high) =
        let same : some.number ≡ n = (let low : some.number < suc n = some.below in omega (arith, low, high)) in
        inr (subst (λ k. P k t) same some.holds)

-- the triple of a place and two values, where it passes
record Passes (test : ℕ → ℕ → ℕ → Bool) (i a b : ℕ) (t : Triple) : Type 0 where
  place : t.place ≡ i
  first : t.first ≡ a
  second : t.second ≡ b
  passes : test i a b ≡ true

passing_listed : (test : ℕ → ℕ → ℕ → Bool) (i a b : ℕ) → Enumerates (Passes test i a b) (cond (test i a b) 1 0)
passing_listed test i a b = by (test i a b) refl
  where
    by : (x : Bool) → test i a b ≡ x → Enumerates (Passes test i a b) (cond x 1 0)
    by true passes = one_listed (Passes test i a b) (record { place = i; first = a; second = b })
        (record { place = refl; first = refl; second = refl; passes = passes })
        (λ t is. λ j. record { place = sym is.place j; first = sym is.first j; second = sym is.second j })
    by false fails = none_listed (Passes test i a b) (λ t is. false≢true (sym fails ∙ is.passes))

-- a triple of a place below n and two values below d that passes
abbrev Counted : ℕ → ℕ → (ℕ → ℕ → ℕ → Bool) → Triple → Type 0
Counted n d test = Below n (λ i. Below d (λ a. Below d (Passes test i a)))

triples_listed : (n d : ℕ) (test : ℕ → ℕ → ℕ → Bool) → Enumerates (Counted n d test) (count_triples n d test)
triples_listed n d test =
    sum_listed n (λ i. count_pairs d (test i)) (λ i. Below d (λ a. Below d (Passes test i a)))
    (λ i. sum_listed d (λ a. sum_below d (λ b. cond (test i a b) 1 0)) (λ a. Below d (Passes test i a))
    (λ a. sum_listed d (λ b. cond (test i a b) 1 0) (Passes test i a) (passing_listed test i a) (λ j k t one other. sym one.second ∙ other.second))
    (λ j k t one other. sym one.holds.first ∙ other.holds.first))
    (λ j k t one other. sym one.holds.holds.place ∙ other.holds.holds.place)

-- a value of a row is below the domain
value_below : (d n i v : ℕ) (rows : List (List ℕ)) (row : List ℕ) → All (IsTuple d n) rows → Contains rows row → i < n → slice_index row i ≡ v → v < d
value_below d n i v rows row tuples inside low there =
    let tuple = All-contains (IsTuple d n) rows row tuples inside in
    subst (λ v. v < d) there (tuple.below i 0 (omega (arith, low, tuple.long)))

pub size_counts :
    (n d size : ℕ) (rows : List (List ℕ)) (triples : List Triple)
    → All (IsTuple d n) rows
    → IsSignatureSize n d (Contains rows) size
    → ListsSignature n (Contains rows) triples
    → size ≡ length triples
size_counts n d size rows triples tuples s lists =
    let counted = triples_listed n d s.test in
    let up : length counted.list ≤ length triples = no_longer counted.list triples counted.distinct (λ k e low. lists.all (get_or counted.list k e) (to (get_or counted.list k e) (counted.only k e low))) in
    let down : length triples ≤ length counted.list = no_longer triples counted.list lists.distinct (λ k e low. counted.all (get_or triples k e) (from (get_or triples k e) (lists.only k e low))) in
    omega (arith, s.counted, counted.counted, up, down)
  where
    to : (t : Triple) → Counted n d s.test t → IsTripleOf n (Contains rows) t
    to t some =
        let passes = some.holds.holds.holds in
        let shown = (s.decides some.number some.holds.number some.holds.holds.number some.below some.holds.below some.holds.holds.below).0 passes.passes in
        record { placed = rw passes.place some.below; shown = rw (passes.place, passes.first, passes.second) shown }

    from : (t : Triple) → IsTripleOf n (Contains rows) t → Counted n d s.test t
    from t is =
        let first = value_below d n t.place t.first rows is.shown.one tuples is.shown.one_in is.placed is.shown.one_at in
        let second = value_below d n t.place t.second rows is.shown.other tuples is.shown.other_in is.placed is.shown.other_at in
        record {
          number = t.place;
          below = is.placed;
          holds = record {
            number = t.first;
            below = first;
            holds = record {
              number = t.second;
              below = second;
              holds = record { place = refl; first = refl; second = refl; passes = (s.decides t.place t.first t.second is.placed first second).1 is.shown };
            };
          };
        }

pub least_pair_one : (rows : List (List ℕ)) (i a b p q j k : ℕ) → IsLeastPair rows i a b p q → IsLeastPair rows i a b j k → (p ≡ j) × (q ≡ k)
least_pair_one rows i a b p q j k one other = by (one.least j k other.shown) (other.least p q one.shown)
  where
    by : (p < j) ⊎ ((p ≡ j) × (q ≤ k)) → (j < p) ⊎ ((j ≡ p) × (k ≤ q)) → (p ≡ j) × (q ≡ k)
    by (inl less) (inl more) = absurd (omega arith)
    by (inl less) (inr same) = absurd (omega (arith, less, same.0))
    by (inr same) (inl more) = absurd (omega (arith, more, same.0))
    by (inr first) (inr second) = (first.0, omega (arith, first.1, second.1))
