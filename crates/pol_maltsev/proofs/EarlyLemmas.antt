-- The classes of the first places after a restriction, from listed members.
use Rattle.std.proofs.Common.{◌≡◌, ℕ, zero, suc, ◌<◌, ◌≤◌, ◌+◌, List, [], ◌∷◌, get_or, Contains, arith, sym, refl, ap, ◌∙◌, Bool, true, false, eqb, if◌then◌else◌, ◌⊎◌, inl, inr}
use Rattle.std.specs.Prelude.{slice_index, Option, None, Some, IfSome, IfNone}
use Rattle.std.proofs.lemmas.Bool.{eqb-true, eqb-false, cases_lt}
use Rattle.std.proofs.lemmas.List.{get_or_default}
use Rattle.std.proofs.lemmas.List.Elements.{Contains-get_or}
use Rattle.pol_base.specs.Tuples.{IsTuple}
use Rattle.pol_base.proofs.MemberLemmas.{Contains-here, Contains-there, Contains-cons_cases, Contains-nil}
use Rattle.pol_maltsev.specs.Restrictions.{HasListed, SharesBase, IsFirstWith, IsSharer, IsJoinedTo, IsEarlyClass, IsMadeEarly, first_row}
use Rattle.pol_maltsev.specs.Views.{IsMade}

-- the first row that has the value is the one with the least number
pub first_is : (rows : List (List ℕ)) (j b i : ℕ) → IsFirstWith rows j b i → first_row rows j b ≡ get_or rows i []
first_is [] j b i h = absurd (omega (arith, h.known))
first_is (row ∷ rows) j b zero h = rw h.at (if_same b row (first_row rows j b))
  where
    if_same : (b : ℕ) (row rest : List ℕ) → (if eqb b b then row else rest) ≡ row
    if_same b row rest = by (eqb b b) refl
      where
        by : (test : Bool) → eqb b b ≡ test → (if test then row else rest) ≡ row
        by true e = refl
        by false e = absurd (eqb-false b b e refl)
first_is (row ∷ rows) j b (suc i) h = by (eqb (slice_index row j) b) refl (λ g. first_is rows j b i g)
  where
    by : (test : Bool) → eqb (slice_index row j) b ≡ test → (IsFirstWith rows j b i → first_row rows j b ≡ get_or rows i []) → (if test then row else first_row rows j b) ≡ get_or rows i []
    by true e again = absurd (h.first 0 (omega arith) (eqb-true (slice_index row j) b e))
    by false e again = again (record { known = omega (arith, h.known); at = h.at; first = λ k low. h.first (suc k) (omega (arith, low)) })

-- where some row has the value, it is a row that has it
pub record IsRowWith (rows : List (List ℕ)) (j b : ℕ) (row : List ℕ) : Type 0 where
  pub listed : Contains rows row
  pub at : slice_index row j ≡ b

pub first_has : (rows : List (List ℕ)) (j b : ℕ) → HasListed rows j b → IsRowWith rows j b (first_row rows j b)
first_has [] j b h = absurd (Contains-nil h.member h.listed)
first_has (row ∷ rows) j b h = by (eqb (slice_index row j) b) refl (Contains-cons_cases row h.member rows h.listed) (λ g. first_has rows j b g)
  where
    by : (test : Bool) → eqb (slice_index row j) b ≡ test → (row ≡ h.member) ⊎ Contains rows h.member → (HasListed rows j b → IsRowWith rows j b (first_row rows j b)) → IsRowWith (row ∷ rows) j b (if test then row else first_row rows j b)
    by true e c again = record { listed = Contains-here row rows; at = eqb-true (slice_index row j) b e }
    by false e (inl same) again = absurd (eqb-false (slice_index row j) b e (ap (λ r. slice_index r j) same ∙ h.at))
    by false e (inr there) again = from (again (record { member = h.member; listed = there; at = h.at }))
      where
        from : IsRowWith rows j b (first_row rows j b) → IsRowWith (row ∷ rows) j b (first_row rows j b)
        from g = record { listed = Contains-there row (first_row rows j b) rows g.listed; at = g.at }

-- a row that is joined to the first with b shares its base
pub joined_shares : (rows : List (List ℕ)) (S : ℕ → Type 0) (j b c i : ℕ) → IsJoinedTo rows S j b c i → SharesBase rows S j (first_row rows j) c b
joined_shares rows S j b c i h = record { owner = h.owner; member = get_or rows i []; listed = Contains-get_or rows i [] h.sharer.known; at = h.sharer.at; near = h.sharer.near }

-- and the other way
pub shares_joined : (rows : List (List ℕ)) (S : ℕ → Type 0) (j b c : ℕ) → SharesBase rows S j (first_row rows j) c b → ((i : ℕ) → ¬ IsSharer rows S j c (first_row rows j b) i) → ⊥
shares_joined rows S j b c h none = at h.listed
  where
    at : Contains rows h.member → ⊥
    at g =
        let same : get_or rows g.0 [] ≡ h.member = get_or_default rows g.0 [] h.member g.1 ∙ g.2 in
        none g.0 (record { known = g.1; at = ap (λ r. slice_index r j) same ∙ h.at; near = λ k s. ap (λ r. slice_index r k) same ∙ h.near k s })

-- the row and the root of a value, where b is the first that it is joined to
pub class_found : (d n : ℕ) (rows : List (List ℕ)) (S : ℕ → Type 0) (j b c i : ℕ) → IsTuple d n (get_or rows i []) → b < d → IsJoinedTo rows S j b c i → ((e : ℕ) → e < b → ¬ SharesBase rows S j (first_row rows j) c e) →
    IsMade (IsEarlyClass d rows S j) d n c (get_or rows i []) b
class_found d n rows S j b c i tuple b_low h none = record {
  tuple = tuple;
  most = omega (arith, b_low);
  holds = record {
    gone = λ _. record { member = get_or rows i []; listed = Contains-get_or rows i [] h.sharer.known; at = h.sharer.at };
    chosen = λ _. record { below = b_low; holds = joined_shares rows S j b c i h; first = λ e e_low g. first e g (cases_lt e b) };
    listed = λ _. Contains-get_or rows i [] h.sharer.known;
    at = λ _. h.sharer.at;
    near = λ _. h.sharer.near;
  };
}
  where
    first : (e : ℕ) → SharesBase rows S j (first_row rows j) c e → (e < b) ⊎ (b ≤ e) → b ≤ e
    first e g (inl before) = absurd (none e before g)
    first e g (inr after) = after

-- and of a value that no row has
pub class_none : (d n : ℕ) (rows : List (List ℕ)) (S : ℕ → Type 0) (j c : ℕ) (row : List ℕ) → IsTuple d n row → ((e : ℕ) → e < c + 1 → ¬ SharesBase rows S j (first_row rows j) c e) →
    IsMade (IsEarlyClass d rows S j) d n c row d
class_none d n rows S j c row tuple none = record {
  tuple = tuple;
  most = omega arith;
  holds = record {
    gone = λ h. absurd (omega (arith, h));
    chosen = λ h. absurd (clash h);
    listed = λ h. absurd (clash h);
    at = λ h. absurd (clash h);
    near = λ h. absurd (clash h);
  };
}
  where
    clash : HasListed rows j c → ⊥
    clash h = none c (omega arith) (record { owner = h; member = first_row rows j c; listed = (first_has rows j c h).listed; at = (first_has rows j c h).at; near = λ k s. refl })

-- classes of all values
pub early_classes : (d : ℕ) (rows : List (List ℕ)) (S : ℕ → Type 0) (j : ℕ) (row : ℕ → List ℕ) (root : ℕ → ℕ) → ((c : ℕ) → c < d → IsEarlyClass d rows S j c (row c) (root c)) → IsMadeEarly d rows S j (first_row rows j) row root
early_classes d rows S j row root each = record {
  base_listed = λ b h. (first_has rows j b h).listed;
  base_at = λ b h. (first_has rows j b h).at;
  gone = λ c low. (each c low).gone;
  chosen = λ c low. (each c low).chosen;
  listed = λ c low. (each c low).listed;
  at = λ c low. (each c low).at;
  near = λ c low. (each c low).near;
}

-- what an option tells, weakened
pub some_weaker : (o : Option ℕ) (P Q : ℕ → Type 0) → ((x : ℕ) → P x → Q x) → IfSome o P → IfSome o Q
some_weaker None P Q f h = h
some_weaker (Some x) P Q f h = f x h

pub none_weaker : (o : Option ℕ) (P Q : Type 0) → (P → Q) → IfNone o P → IfNone o Q
none_weaker None P Q f h = f h
none_weaker (Some x) P Q f h = h

-- the base that was found
pub base_found : (rows : List (List ℕ)) (j b i : ℕ) (base : List ℕ) → IsFirstWith rows j b i → base ≡ get_or rows i base → base ≡ first_row rows j b
base_found rows j b i base h is = is ∙ get_or_default rows i base [] h.known ∙ sym (first_is rows j b i h)

pub owner_found : (rows : List (List ℕ)) (j b i : ℕ) → IsFirstWith rows j b i → HasListed rows j b
owner_found rows j b i h = record { member = get_or rows i []; listed = Contains-get_or rows i [] h.known; at = h.at }

-- none of the values up to one
pub none_more : (P : ℕ → Type 0) (b : ℕ) → ((e : ℕ) → e < b → ¬ P e) → ¬ P b → (e : ℕ) → e < b + 1 → ¬ P e
none_more P b before here e low = at (cases_lt e b)
  where
    at : (e < b) ⊎ (b ≤ e) → ¬ P e
    at (inl less) = before e less
    at (inr most) = let same : e ≡ b = omega (arith, most, low) in λ h. here (rw same at h)
