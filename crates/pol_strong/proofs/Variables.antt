-- Lists of variables: which are among which, without one of them, and the first ones.
use Rattle.std.proofs.Common.{◌≡◌, ℕ, suc, zero, ◌+◌, ◌-◌, ◌<◌, ◌≤◌, List, [], ◌∷◌, length, All, arith, ap, get_or, inl, inr, sym, subst, ◌∙◌, ◌⊎◌}
use Rattle.std.specs.Prelude.{◌≢◌, Contains, remove, AllPairs}
use Rattle.std.proofs.lemmas.Bool.{cases_eq, cases_lt, cases_order}
use Rattle.std.proofs.lemmas.List.{get_or_default}
use Rattle.std.proofs.lemmas.List.Edits.{length-remove, get_or-remove_below, get_or-remove_above}
use Rattle.std.proofs.lemmas.List.Elements.{Contains-get_or, All-contains, All-nil, All-cons}
use Rattle.std.proofs.lemmas.List.Kept.{AllPairs-cons}
use Rattle.pol_base.proofs.MemberLemmas.{Contains-here, Contains-there, Contains-cons_cases, Contains-nil, AllPairs-nil}
use Rattle.pol_strong.specs.Families.{AreAmong, AreKnown, firsts}

-- where a list has one of its members
pub place_of : {X : Type 0} (xs : List X) (x d : X) → Contains xs x → (p : ℕ) × (p < length xs) × (get_or xs p d ≡ x)
place_of xs x d inside = (inside.0, inside.1, get_or_default xs inside.0 d x inside.1 ∙ inside.2)

-- what holds of all variables holds of those among them
pub AreAmong-All : (P : ℕ → Type 0) (xs ys : List ℕ) → AreAmong xs ys → All P ys → All P xs
AreAmong-All P xs ys among all k d inside =
    All-contains P ys (get_or xs k d) all (among (get_or xs k d) (Contains-get_or xs k d inside))

pub AreAmong-itself : (xs : List ℕ) → AreAmong xs xs
AreAmong-itself xs x inside = inside

AreAmong-cons : (x : ℕ) (xs ys : List ℕ) → AreAmong xs ys → AreAmong (x ∷ xs) (x ∷ ys)
AreAmong-cons x xs ys among y inside = by (Contains-cons_cases x y xs inside)
  where
    by : (x ≡ y) ⊎ Contains xs y → Contains (x ∷ ys) y
    by (inl same) = subst (Contains (x ∷ ys)) same (Contains-here x ys)
    by (inr later) = Contains-there x y ys (among y later)

-- ---- without the one at a place

-- a member other than the one at the place is still a member
pub in_remove : (xs : List ℕ) (i x : ℕ) → i < length xs → Contains xs x → get_or xs i 0 ≢ x → Contains (remove xs i) x
in_remove xs i x within (p, inside, same) apart = by (cases_order p i)
  where
    by : (p ≡ i) ⊎ ((p < i) ⊎ (i < p)) → Contains (remove xs i) x
    by (inl here) = absurd (apart (ap (λ k. get_or xs k 0) (sym here) ∙ (get_or_default xs p 0 x inside ∙ same)))
    by (inr (inl less)) = (p, omega (arith, length-remove xs i within), get_or-remove_below xs i x p less within ∙ same)
    by (inr (inr more)) =
        let before : (p - 1) + 1 ≡ p = omega arith in (
          p - 1,
          omega (arith, length-remove xs i within),
          get_or-remove_above xs i x (p - 1) (omega arith) within ∙ (ap (λ k. get_or xs k x) before ∙ same),
        )

pub remove_among : (xs : List ℕ) (i : ℕ) → i < length xs → AreAmong (remove xs i) xs
remove_among xs i within x (p, inside, same) = by (cases_lt p i)
  where
    by : (p < i) ⊎ (i ≤ p) → Contains xs x
    by (inl less) =
        (p, omega (arith, length-remove xs i within), sym (get_or-remove_below xs i x p less within) ∙ same)
    by (inr more) =
        (p + 1, omega (arith, length-remove xs i within), sym (get_or-remove_above xs i x p more within) ∙ same)

-- different places of a list without repeats have different members
pub distinct_places : (xs : List ℕ) → AllPairs (λ x y. x ≢ y) xs → (p i : ℕ) → p < length xs → i < length xs → i ≢ p
    → get_or xs p 0 ≢ get_or xs i 0
distinct_places xs distinct p i inside within apart = by (cases_order i p)
  where
    by : (i ≡ p) ⊎ ((i < p) ⊎ (p < i)) → get_or xs p 0 ≢ get_or xs i 0
    by (inl same) = absurd (apart same)
    by (inr (inl less)) = λ same. distinct i p 0 less inside (sym same)
    by (inr (inr more)) = distinct p i 0 more within

-- ---- without one variable, wherever it stands

-- the variables but x
pub record IsWithout (xs : List ℕ) (x : ℕ) (rest : List ℕ) : Type 0 where
  pub short : length rest ≤ length xs
  pub gone : ¬ Contains rest x
  pub inside : AreAmong rest xs
  pub back : AreAmong xs (x ∷ rest)

pub without : (xs : List ℕ) (x : ℕ) → (rest : List ℕ) × IsWithout xs x rest
without [] x = (
  [],
  record {
    short = omega arith;
    gone = Contains-nil x;
    inside = λ y m. m;
    back = λ y m. absurd (Contains-nil y m);
  },
)
without (y ∷ ys) x = by (without ys x).0 (without ys x).1 (cases_eq y x)
  where
    by : (rest : List ℕ) → IsWithout ys x rest → (y ≡ x) ⊎ (y ≡ x → ⊥) → (rest : List ℕ) × IsWithout (y ∷ ys) x rest
    by rest is (inl same) = (
      rest,
      record {
        short = let less = is.short in omega arith;
        gone = is.gone;
        inside = λ z m. Contains-there y z ys (is.inside z m);
        back = λ z m. here z (Contains-cons_cases y z ys m);
      },
    )
      where
        here : (z : ℕ) → (y ≡ z) ⊎ Contains ys z → Contains (x ∷ rest) z
        here z (inl first) = subst (Contains (x ∷ rest)) (sym same ∙ first) (Contains-here x rest)
        here z (inr later) = is.back z later
    by rest is (inr apart) = (
      y ∷ rest,
      record {
        short = let less = is.short in omega arith;
        gone = λ m. kept (Contains-cons_cases y x rest m);
        inside = AreAmong-cons y rest ys is.inside;
        back = λ z m. here z (Contains-cons_cases y z ys m);
      },
    )
      where
        kept : (y ≡ x) ⊎ Contains rest x → ⊥
        kept (inl same) = apart same
        kept (inr later) = is.gone later

        here : (z : ℕ) → (y ≡ z) ⊎ Contains ys z → Contains (x ∷ y ∷ rest) z
        here z (inl first) = Contains-there x z (y ∷ rest) (subst (Contains (y ∷ rest)) first (Contains-here y rest))
        here z (inr later) = skip (Contains-cons_cases x z rest (is.back z later))
          where
            skip : (x ≡ z) ⊎ Contains rest z → Contains (x ∷ y ∷ rest) z
            skip (inl first) = subst (Contains (x ∷ y ∷ rest)) first (Contains-here x (y ∷ rest))
            skip (inr behind) = Contains-there x z (y ∷ rest) (Contains-there y z rest behind)

-- ---- the first so many variables

pub in_firsts : (k x : ℕ) → x < k → Contains (firsts k) x
in_firsts zero x below = absurd (omega arith)
in_firsts (suc k) x below = by (cases_eq k x) (λ apart. in_firsts k x (omega arith))
  where
    by : (k ≡ x) ⊎ (k ≡ x → ⊥) → ((k ≡ x → ⊥) → Contains (firsts k) x) → Contains (firsts (suc k)) x
    by (inl same) rest = subst (Contains (k ∷ firsts k)) same (Contains-here k (firsts k))
    by (inr apart) rest = Contains-there k x (firsts k) (rest apart)

pub firsts_known : (n k : ℕ) → k ≤ n → AreKnown n (firsts k)
firsts_known n zero few = All-nil (λ v. v < n)
firsts_known n (suc k) few = All-cons (λ v. v < n) k (firsts k) (omega arith) (firsts_known n k (omega arith))

pub firsts_below : (k x : ℕ) → Contains (firsts k) x → x < k
firsts_below k x inside = All-contains (λ v. v < k) (firsts k) x (firsts_known k k (omega arith)) inside

pub firsts_distinct : (k : ℕ) → AllPairs (λ x y. x ≢ y) (firsts k)
firsts_distinct zero = AllPairs-nil (λ (x y : ℕ). x ≢ y)
firsts_distinct (suc k) =
    AllPairs-cons (λ (x y : ℕ). x ≢ y) k (firsts k)
    (λ i d h same. absurd (omega (arith, firsts_known k k (omega arith) i d h)))
    (firsts_distinct k)
