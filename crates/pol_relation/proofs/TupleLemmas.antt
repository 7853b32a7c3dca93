-- The tuples that stand one behind another in a list, read from its front.
use Rattle.std.proofs.Common.{◌≡◌, ℕ, zero, suc, ◌+◌, ◌-◌, ◌*◌, ◌/◌, ◌%◌, ◌<◌, ◌≤◌, ◌⊎◌, ◌↔◌, List, [], ◌∷◌, length, take, drop, All, Contains, refl, sym, ap, ◌∙◌, subst, inl, inr, arith}
use Rattle.std.proofs.lemmas.Nat.{div-add-mod', div-mul-add, mod-mul-add, le-div, div_below, mod_below}
use Rattle.std.proofs.lemmas.List.{length-take-le, length-drop}
use Rattle.std.proofs.lemmas.List.Elements.{All-take, All-drop}
use Rattle.pol_base.specs.Tuples.{IsTuple}
use Rattle.pol_relation.specs.Relations.{RelationView, IsRelation, with_row, tuples_in, SameMembers, with_row_in}
use Rattle.pol_base.proofs.MemberLemmas.{Contains-here, Contains-there, Contains-cons_cases, Contains-nil}
use Rattle.pol_relation.proofs.RelationLemmas.{AreLong, AreLong-tuples, IsRelation-with_row, Contains-with_row, Contains-with_row_old, with_row-cases}

-- the rows and the tuples that are left are all the tuples
pub record AreRead (rows left all : List (List ℕ)) : Type 0 where
  pub members : (t : List ℕ) → (Contains rows t ⊎ Contains left t) ↔ Contains all t

AreRead-more : (n : ℕ) (x : List ℕ) (rows left all : List (List ℕ)) → length x ≡ n → AreLong n rows → AreRead rows (x ∷ left) all → AreRead (with_row x rows) left all
AreRead-more n x rows left all x-long rows-long read = record {
  members = λ t. (
    λ either. elim either [
      | inl row ↦ elim (with_row-cases n x t rows x-long rows-long row) [
        | inl first ↦ (read.members t).0 (inr (subst (Contains (x ∷ left)) (sym first) (Contains-here x left)))
        | inr old ↦ (read.members t).0 (inl old)
      ]
      | inr behind ↦ (read.members t).0 (inr (Contains-there x t left behind))
    ],
    λ member. elim ((read.members t).1 member) [
      | inl old ↦ inl (Contains-with_row_old n x t rows x-long rows-long old)
      | inr still ↦ elim (Contains-cons_cases x t left still) [
        | inl first ↦ inl (subst (Contains (with_row x rows)) first (Contains-with_row n x rows x-long rows-long))
        | inr behind ↦ inr behind
      ]
    ],
  );
}

SameMembers-from_read : (rows all : List (List ℕ)) → AreRead rows [] all → SameMembers rows all
SameMembers-from_read rows all read t =
    (λ row. (read.members t).0 (inl row), λ member. elim ((read.members t).1 member) [ inl row ↦ row | inr left ↦ absurd (Contains-nil t left) ])

-- a whole number of tuples, of which one goes

-- the number of tuples without the last, and what they leave
last_off : (size n : ℕ) → n ≤ size → 1 ≤ n → (q : ℕ) × (size / n ≡ suc q) × (size - n ≡ q * n + size % n)
last_off size n inside some = by (size / n) refl (le-div 1 size n some (omega arith))
  where
    by : (q : ℕ) → size / n ≡ q → 1 ≤ size / n → (p : ℕ) × (size / n ≡ suc p) × (size - n ≡ p * n + size % n)
    by zero none first = absurd (omega arith)
    by (suc q) more first =
        let parts : suc q * n + size % n ≡ size = subst (λ p. p * n + size % n ≡ size) more (div-add-mod' size n) in
        (q, more, omega arith)

pub le-whole : (size n : ℕ) → 0 < size → 1 ≤ n → size % n ≡ 0 → n ≤ size
le-whole size n some n-some whole = by (size / n) (div-add-mod' size n)
  where
    by : (q : ℕ) → q * n + size % n ≡ size → n ≤ size
    by zero parts = absurd (omega arith)
    by (suc q) parts = omega arith

whole-less : (size n : ℕ) → n ≤ size → 1 ≤ n → size % n ≡ 0 → (size - n) % n ≡ 0
whole-less size n inside some whole =
    let off = last_off size n inside some in
    ap (λ left. left % n) off.2 ∙ mod-mul-add off.0 n (size % n) (mod_below size n some) ∙ whole

quotient-less : (size n : ℕ) → n ≤ size → 1 ≤ n → size / n ≡ suc ((size - n) / n)
quotient-less size n inside some =
    let off = last_off size n inside some in
    off.1 ∙ ap suc (sym (ap (λ left. left / n) off.2 ∙ div-mul-add off.0 n (size % n) (mod_below size n some)))

none_left : (n : ℕ) → 1 ≤ n → 0 / n ≡ 0
none_left n some = let below : 0 / n < 1 = div_below 0 n 1 some (omega arith) in omega arith

tuples_in-more : (n : ℕ) (values : List ℕ) → n ≤ length values → 1 ≤ n → tuples_in n (length values / n) values ≡ take n values ∷ tuples_in n (length (drop n values) / n) (drop n values)
tuples_in-more n values inside n-some =
    let one : length values / n ≡ suc (length (drop n values) / n) = quotient-less (length values) n inside n-some ∙ sym (ap (λ l. suc (l / n)) (length-drop n values)) in
    ap (λ count. tuples_in n count values) one

IsTuple-take : (d n : ℕ) (values : List ℕ) → n ≤ length values → All (λ v. v < d) values → IsTuple d n (take n values)
IsTuple-take d n values inside below = record { long = length-take-le n values inside; below = All-take (λ v. v < d) n values below }

-- the relation has the tuples that were read, and a whole number of tuples is left
pub record IsReading (d n : ℕ) (relation : RelationView) (rest : List ℕ) (all : List (List ℕ)) : Type 0 where
  pub domain : relation.domain ≡ d
  pub arity : relation.arity ≡ n
  pub is_relation : IsRelation relation
  pub whole : length rest % n ≡ 0
  pub below : All (λ v. v < d) rest
  pub read : AreRead relation.rows (tuples_in n (length rest / n) rest) all

pub IsReading-more : (d n : ℕ) (relation : RelationView) (rest : List ℕ) (all : List (List ℕ)) → 1 ≤ n → 0 < length rest → IsReading d n relation rest all → IsReading d n (with_row_in relation (take n rest)) (drop n rest) all
IsReading-more d n relation rest all some more reading =
    let inside = le-whole (length rest) n more some reading.whole in
    let tuple = IsTuple-take d n rest inside reading.below in
    let long : AreLong n relation.rows = subst (λ m. AreLong m relation.rows) reading.arity (AreLong-tuples relation.domain relation.arity relation.rows reading.is_relation.tuples) in
    let read : AreRead relation.rows (take n rest ∷ tuples_in n (length (drop n rest) / n) (drop n rest)) all = subst (λ left. AreRead relation.rows left all) (tuples_in-more n rest inside some) reading.read in
    record {
      domain = reading.domain;
      arity = reading.arity;
      is_relation = IsRelation-with_row relation (take n rest) reading.is_relation (rw (reading.domain, reading.arity) tuple);
      whole = ap (λ left. left % n) (length-drop n rest) ∙ whole-less (length rest) n inside some reading.whole;
      below = All-drop (λ v. v < d) n rest reading.below;
      read = AreRead-more n (take n rest) relation.rows (tuples_in n (length (drop n rest) / n) (drop n rest)) all tuple.long long read;
    }

pub IsReading-done : (d n : ℕ) (relation : RelationView) (rest : List ℕ) (all : List (List ℕ)) → 1 ≤ n → length rest ≡ 0 → IsReading d n relation rest all → SameMembers relation.rows all
IsReading-done d n relation rest all some none reading =
    let no_more : length rest / n ≡ 0 = ap (λ size. size / n) none ∙ none_left n some in
    SameMembers-from_read relation.rows all (subst (λ count. AreRead relation.rows (tuples_in n count rest) all) no_more reading.read)
