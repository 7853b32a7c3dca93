-- Labellings: a value has one label, and a label one value.
use Rattle.std.proofs.Common.{◌≡◌, ℕ, zero, suc, ◌<◌, ◌⊎◌, inl, inr}
use Rattle.std.proofs.Common.{Bool, true, false, List, [], ◌∷◌, length, All, AllPairs}
use Rattle.std.proofs.Common.{Contains, get_or, sym, ◌∙◌, subst, refl, arith}
use Rattle.std.specs.Prelude.{◌==◌, ◌≢◌}
use Rattle.std.specs.List.{range_with_len}
use Rattle.std.proofs.lemmas.Bool.{cases_order, true≢false}
use Rattle.std.proofs.lemmas.Bool.Decides.{Decides-eqb}
use Rattle.std.proofs.lemmas.List.Elements.{All-nil, All-cons}
use Rattle.std.proofs.lemmas.List.FromFn.{length-range_with_len, get_or-range_with_len}
use Rattle.pol_base.proofs.MemberLemmas.{no_longer}
use Rattle.pol_optable.specs.Identities.{IsLabelling}
use Rattle.pol_identity.specs.Labels.{labelled}

-- no two values have one label
pub same_label :
    (d : ℕ) (labels : List ℕ) (x y : ℕ)
    → IsLabelling d labels
    → x < d
    → y < d
    → get_or labels x 0 ≡ get_or labels y 0
    → x ≡ y
same_label d labels x y is x_below y_below same =
    elim (cases_order x y) [
      | inl equal ↦ equal
      | inr apart ↦ elim apart [
        | inl less ↦ absurd (is.distinct x y 0 less (omega (arith, is.tuple.long)) same)
        | inr more ↦ absurd (is.distinct y x 0 more (omega (arith, is.tuple.long)) (sym same))
      ]
    ]

-- the value is there, and has the label
record IsAt (labels : List ℕ) (label value : ℕ) : Type 0 where
  within : value < length labels
  is_label : get_or labels value 0 ≡ label

-- the first value with the label has it, or none has
abbrev Cases : List ℕ → ℕ → Type 0
Cases labels label = IsAt labels label (labelled labels label) ⊎ All (λ l. label ≢ l) labels

labelled_cases : (labels : List ℕ) (label : ℕ) → Cases labels label
labelled_cases [] label = inr (All-nil (λ l. label ≢ l))
labelled_cases (first ∷ labels) label = by (first == label) refl (labelled_cases labels label)
  where
    by : (same : Bool) → (first == label) ≡ same → Cases labels label → Cases (first ∷ labels) label
    by true same behind =
        let here = (Decides-eqb first label).0 same in
        inl (rw same (record { within = omega arith; is_label = here }))
    by false apart (inl found) =
        inl (rw apart (record { within = omega (arith, found.within); is_label = found.is_label }))
    by false apart (inr none) =
        let differ : label ≢ first
        = λ same. true≢false (sym ((Decides-eqb first label).1 (sym same)) ∙ apart) in
        inr (All-cons (λ l. label ≢ l) first labels differ none)

-- a value before values that are pairwise different and differ from it
pairs_cons :
    (x : ℕ) (xs : List ℕ)
    → All (λ y. x ≢ y) xs
    → AllPairs (λ a b. a ≢ b) xs
    → AllPairs (λ a b. a ≢ b) (x ∷ xs)
pairs_cons x xs apart pairs zero zero e less inside = absurd (omega arith)
pairs_cons x xs apart pairs zero (suc j) e less inside = apart j e (omega arith)
pairs_cons x xs apart pairs (suc i) zero e less inside = absurd (omega arith)
pairs_cons x xs apart pairs (suc i) (suc j) e less inside = pairs i j e (omega arith) (omega arith)

in_range : (d v : ℕ) → v < d → Contains (range_with_len 0 d) v
in_range d v below = (v, omega (arith, length-range_with_len 0 d), get_or-range_with_len 0 d v v below ∙ omega arith)

-- each number below d is a label, since there are no d + 1 numbers below d
pub all_labels :
    (d : ℕ) (labels : List ℕ) (label : ℕ)
    → IsLabelling d labels
    → label < d
    → ¬ All (λ l. label ≢ l) labels
all_labels d labels label is below none =
    let InRange : ℕ → Type 0 = Contains (range_with_len 0 d) in
    let members : All InRange labels = λ k e inside. in_range d (get_or labels k e) (is.tuple.below k e inside) in
    let few = no_longer (label ∷ labels) (range_with_len 0 d) (pairs_cons label labels none is.distinct)
    (All-cons InRange label labels (in_range d label below) members) in
    omega (arith, few, length-range_with_len 0 d, is.tuple.long)

-- the value is one of the domain, and has the label
pub record HasLabel (d : ℕ) (labels : List ℕ) (label value : ℕ) : Type 0 where
  pub below : value < d
  pub is_label : get_or labels value 0 ≡ label

-- the first value with a label has it
pub has_label :
    (d : ℕ) (labels : List ℕ) (label : ℕ)
    → IsLabelling d labels
    → label < d
    → HasLabel d labels label (labelled labels label)
has_label d labels label is below =
    elim (labelled_cases labels label) [
      | inl found ↦ record { below = omega (arith, found.within, is.tuple.long); is_label = found.is_label }
      | inr none ↦ absurd (all_labels d labels label is below none)
    ]

-- and is the only one
pub labelled_is :
    (d : ℕ) (labels : List ℕ) (label value : ℕ)
    → IsLabelling d labels
    → value < d
    → get_or labels value 0 ≡ label
    → labelled labels label ≡ value
labelled_is d labels label value is below same =
    let inside : value < length labels = omega (arith, below, is.tuple.long) in
    let label_below : label < d = subst (λ (l : ℕ). l < d) same (is.tuple.below value 0 inside) in
    let found = has_label d labels label is label_below in
    same_label d labels (labelled labels label) value is found.below below (found.is_label ∙ sym same)
