-- Nogoods of one pair.
use Rattle.std.proofs.Common.{◌≡◌, ℕ, ◌↔◌, eqb, IsTrue, List, [], ◌∷◌, length, get_or, slice_get, Some, sym, ap, ◌∙◌, arith}
use Rattle.std.proofs.lemmas.Bool.{eqb-true, eq-eqb}
use Rattle.std.proofs.lemmas.Option.{get_or_from_slice_get}
use Rattle.pol_nogood.specs.Nogoods.{Pair}
use Rattle.pol_nogood.specs.Logs.{value_case}

pub pair_is : (p : Pair) (x a : ℕ) → p.variable ≡ x → p.value ≡ a → p ≡ record { variable = x; value = a }
pair_is p x a variables values = λ i. record { variable = variables i; value = values i }

no_pair : Pair
no_pair = record { variable = 0; value = 0 }

pub variable_same : (x a y b : ℕ) → value_case x a ≡ value_case y b → x ≡ y
variable_same x a y b same = ap (λ (ps : List Pair). (get_or {A = Pair} ps 0 no_pair).variable) same

pub value_same : (x a y b : ℕ) → value_case x a ≡ value_case y b → a ≡ b
value_same x a y b same = ap (λ (ps : List Pair). (get_or {A = Pair} ps 0 no_pair).value) same

pub one_pair_is : (nogood : List Pair) (y b x a : ℕ) → length nogood ≡ 1 → slice_get nogood 0 ≡ Some (record { variable = y; value = b }) → y ≡ x → IsTrue (eqb b a) ↔ (nogood ≡ value_case x a)
one_pair_is [] y b x a long read same = absurd (omega arith)
one_pair_is (p ∷ q ∷ rest) y b x a long read same = absurd (omega arith)
one_pair_is (p ∷ []) y b x a long read same =
    let first : p ≡ record { variable = y; value = b } = get_or_from_slice_get (p ∷ []) 0 (record { variable = y; value = b }) p read in (
      λ equal. ap (λ (r : Pair). r ∷ []) (first ∙ pair_is (record { variable = y; value = b }) x a same (eqb-true b a equal)),
      λ is. eq-eqb b a (ap (λ (r : Pair). r.value) (sym first) ∙ ap (λ (ps : List Pair). (get_or {A = Pair} ps 0 no_pair).value) is),
    )
