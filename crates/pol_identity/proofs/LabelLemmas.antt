-- Lists of labels by their numbers, and lists by their places.
use Rattle.std.proofs.Common.{◌≡◌, ℕ, ◌+◌, ◌-◌, ◌^◌, ◌<◌, ◌≤◌, List, length, get_or, take, drop, replicate, arith, sym, ap, ◌∙◌, subst}
use Rattle.std.proofs.Math.Nat.{pow-le-pow_left, pow-le-pow_right}
use Rattle.std.proofs.lemmas.List.{ext_get_or, get_or-take, get_or-drop, get_or-replicate, length-take-le, length-drop, length-replicate}
use Rattle.pol_base.specs.Tuples.{IsTuple, cell_of, digits_of}
use Rattle.pol_base.specs.Least.{IsLeast}
use Rattle.pol_base.proofs.CellLemmas.{cell_of-digits_of, cell_of-IsTuple, digits_of-cell_of-IsTuple}
use Rattle.pol_base.proofs.Enumeration.{least_now}

-- a domain has few lists of labels
pub few_lists : (d : ℕ) → d ≤ 5 → d ^ d ≤ 3125
few_lists d few =
    let wide : d ^ d ≤ 5 ^ d = pow-le-pow_left few d in
    let long : 5 ^ d ≤ 5 ^ 5 = pow-le-pow_right {n = 5} (omega arith) few in
    omega arith

-- the front of a list is the list that has the same elements
pub front_is :
    (n : ℕ) (xs ys : List ℕ)
    → n ≤ length xs
    → length ys ≡ n
    → ((k : ℕ) → k < n → get_or xs k 0 ≡ get_or ys k 0)
    → take n xs ≡ ys
front_is n xs ys fits long same =
    ext_get_or 0 (take n xs) ys (length-take-le n xs fits ∙ sym long)
    (λ k inside.
    let within : k < n = omega (arith, inside, length-take-le n xs fits) in
    get_or-take n xs k 0 within ∙ same k within)

-- the rest of a list is zeros where each element is
pub zeros_behind :
    (n m : ℕ) (xs : List ℕ)
    → length xs ≡ m
    → ((k : ℕ) → n ≤ k → k < m → get_or xs k 0 ≡ 0)
    → drop n xs ≡ replicate (m - n) 0
zeros_behind n m xs long zero =
    let rest : length (drop n xs) ≡ m - n = length-drop n xs ∙ ap (λ all. all - n) long in
    ext_get_or 0 (drop n xs) (replicate (m - n) 0) (rest ∙ sym (length-replicate (m - n) 0))
    (λ k inside.
    let within : k < m - n = omega (arith, inside, rest) in
    get_or-drop n xs k 0 ∙ (zero (n + k) (omega arith) (omega (arith, within))
    ∙ sym (get_or-replicate (m - n) k 0 0 within)))

-- lists with a property that only tuples have, one after another by their numbers
module _ (d k : ℕ) (P : List ℕ → Type 0) (tuples : (list : List ℕ) → P list → IsTuple d k list) where
  abbrev Has : ℕ → Type 0
  Has number = P (digits_of d k number)

  has_number : (list : List ℕ) → P list → Has (cell_of d list)
  has_number list holds =
      let Q : List ℕ → Type 0 = P in
      subst Q (sym (digits_of-cell_of-IsTuple d k list (tuples list holds))) holds

  -- none has it where none with a number has
  pub none_listed : ((number : ℕ) → number < d ^ k → ¬ P (digits_of d k number)) → (list : List ℕ) → ¬ P list
  none_listed none list holds =
      none (cell_of d list) (cell_of-IsTuple d k list (tuples list holds)) (has_number list holds)

  -- the first number whose list has it is that of the least
  pub least_listed :
      (number : ℕ)
      → 1 ≤ d
      → number < d ^ k
      → P (digits_of d k number)
      → ((lower : ℕ) → lower < number → ¬ P (digits_of d k lower))
      → IsLeast P (digits_of d k number)
  least_listed number some known here before =
      least_now d k P (digits_of d k number) tuples
      (λ list tuple lower holds.
      before (cell_of d list) (rw (cell_of-digits_of d k number some known) at lower) (has_number list holds))
      here
