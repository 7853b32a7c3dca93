-- Equations with their multipliers, where those with multiplier 0 are left out.
use Rattle.std.proofs.Common.{◌≡◌, ◌≢◌, ℕ, zero, suc, ◌+◌, ◌*◌, ◌%◌, ◌<◌, ◌≤◌, Bool, true, false, eqb, List, [], ◌∷◌, ◌++◌, length, get_or, map, take, All, if◌then◌else◌, refl, sym, ap, ◌∙◌, arith}
use Rattle.std.specs.List.{count_by}
use Rattle.std.proofs.Math.Nat.{mod-mod}
use Rattle.std.proofs.lemmas.Bool.{eqb-true, eqb-false, eq-eqb, ne_eqb}
use Rattle.std.proofs.lemmas.List.Elements.{All-nil, All-cons, All-head, All-tail}
use Rattle.std.proofs.lemmas.List.Sums.{sum_by-cons}
use Rattle.pol_relation.specs.Instances.{InstanceView}
use Rattle.pol_modp.specs.Equations.{dot, coefs_at, rights_of}
use Rattle.pol_modp.specs.Combinations.{PartView, weight_at, scope_at, sum_at, sum_right}
use Rattle.pol_modp.proofs.Modular.{add_same, mul_same}
use Rattle.pol_affine.specs.Systems.{PlacedView, spread_over, part_with, used_parts}
use Rattle.pol_affine.specs.Answers.{parts_at}
use Rattle.pol_affine.proofs.Weights.{at-weights}

-- one equation on, with a multiplier other than 0
pub used-yes : (ms : List ℕ) (placed : List PlacedView) (i : ℕ) (e : PlacedView) → length ms ≡ length placed → i < length placed → get_or ms i 0 ≢ 0
    → used_parts (take i ms) (take i placed) ++ part_with (get_or ms i 0) (get_or placed i e) ∷ [] ≡ used_parts (take (suc i) ms) (take (suc i) placed)
used-yes [] [] i e long inside nonzero = absurd (omega arith)
used-yes [] (p ∷ placed) i e long inside nonzero = absurd (omega arith)
used-yes (m ∷ ms) [] i e long inside nonzero = absurd (omega arith)
used-yes (m ∷ ms) (p ∷ placed) zero e long inside nonzero = sym (ap (λ (b : Bool). if b then [] else part_with m p ∷ []) (ne_eqb m 0 nonzero))
used-yes (m ∷ ms) (p ∷ placed) (suc i) e long inside nonzero = by _ _ _ (eqb m 0) (used-yes ms placed i e (omega arith) (omega arith) nonzero)
  where
    by : (some all : List PartView) (x : PartView) (b : Bool) → some ++ x ∷ [] ≡ all → (if b then some else part_with m p ∷ some) ++ x ∷ [] ≡ (if b then all else part_with m p ∷ all)
    by some all x true rest = rest
    by some all x false rest = ap (λ parts. part_with m p ∷ parts) rest

-- one equation on, with multiplier 0
pub used-no : (ms : List ℕ) (placed : List PlacedView) (i : ℕ) → length ms ≡ length placed → i < length placed → get_or ms i 0 ≡ 0
    → used_parts (take i ms) (take i placed) ≡ used_parts (take (suc i) ms) (take (suc i) placed)
used-no [] [] i long inside none = absurd (omega arith)
used-no [] (p ∷ placed) i long inside none = absurd (omega arith)
used-no (m ∷ ms) [] i long inside none = absurd (omega arith)
used-no (m ∷ ms) (p ∷ placed) zero long inside none = sym (ap (λ (b : Bool). if b then [] else part_with m p ∷ []) (eq-eqb m 0 none))
used-no (m ∷ ms) (p ∷ placed) (suc i) long inside none = by _ _ (eqb m 0) (used-no ms placed i (omega arith) (omega arith) none)
  where
    by : (some all : List PartView) (b : Bool) → some ≡ all → (if b then some else part_with m p ∷ some) ≡ (if b then all else part_with m p ∷ all)
    by some all true rest = rest
    by some all false rest = ap (λ parts. part_with m p ∷ parts) rest

-- what holds of each of the equations with a multiplier below d other than 0 holds of the parts
pub used-all : (d : ℕ) (Q : PlacedView → Type 0) (P : PartView → Type 0) → ((m : ℕ) (p : PlacedView) → m < d → m ≢ 0 → Q p → P (part_with m p))
    → (ms : List ℕ) (placed : List PlacedView) → All (λ m. m < d) ms → All Q placed → All P (used_parts ms placed)
used-all d Q P of [] placed below all = All-nil P
used-all d Q P of (m ∷ ms) [] below all = All-nil P
used-all d Q P of (m ∷ ms) (p ∷ placed) below all = by (eqb m 0) refl (used-all d Q P of ms placed (All-tail (λ m. m < d) m ms below) (All-tail Q p placed all))
  where
    by : (b : Bool) → eqb m 0 ≡ b → All P (used_parts ms placed) → All P (if b then used_parts ms placed else part_with m p ∷ used_parts ms placed)
    by true same rest = rest
    by false differs rest = All-cons P (part_with m p) (used_parts ms placed) (of m p (All-head (λ m. m < d) m ms below) (eqb-false m 0 differs) (All-head Q p placed all)) rest

-- no more parts than equations
pub used-few : (k : ℕ) (ms : List ℕ) (placed : List PlacedView) → parts_at k (used_parts ms placed) ≤ count_by (λ (p : PlacedView). eqb p.constraint k) placed
used-few k [] placed = omega arith
used-few k (m ∷ ms) [] = omega arith
used-few k (m ∷ ms) (p ∷ placed) = by (eqb m 0) (used-few k ms placed)
  where
    step : (x y z u w : ℕ) → x ≤ y → z ≡ u + y → w ≡ u + x → w ≤ z
    step x y z u w less first second = omega arith

    wait : (x y z u : ℕ) → x ≤ y → z ≡ u + y → x ≤ z
    wait x y z u less first = omega arith

    by : (b : Bool) → parts_at k (used_parts ms placed) ≤ count_by (λ (p : PlacedView). eqb p.constraint k) placed
        → parts_at k (if b then used_parts ms placed else part_with m p ∷ used_parts ms placed) ≤ count_by (λ (p : PlacedView). eqb p.constraint k) (p ∷ placed)
    by true rest = wait _ _ _ (if eqb p.constraint k then 1 else 0) rest (sum_by-cons (λ (p : PlacedView). if eqb p.constraint k then 1 else 0) p placed)
    by false rest = step _ _ _ (if eqb p.constraint k then 1 else 0) _ rest (sum_by-cons (λ (p : PlacedView). if eqb p.constraint k then 1 else 0) p placed)
        (sum_by-cons (λ (part : PartView). if eqb part.constraint k then 1 else 0) (part_with m p) (used_parts ms placed))

abbrev weight_in : InstanceView → ℕ → PlacedView → ℕ
weight_in inst v p = weight_at v (scope_at inst p.constraint) p.equation.coefs

abbrev cell_in : ℕ → InstanceView → ℕ → PlacedView → ℕ
cell_in d inst v p = get_or (spread_over d inst p).coefs v 0

abbrev sum_in : ℕ → InstanceView → ℕ → List ℕ → List PlacedView → ℕ
sum_in d inst v ms placed = dot ms (coefs_at v (map (spread_over d inst) placed))

abbrev right_in : ℕ → InstanceView → List ℕ → List PlacedView → ℕ
right_in d inst ms placed = dot ms (rights_of (map (spread_over d inst) placed))

nothing : (m a b : ℕ) → m ≡ 0 → b ≡ m * a + b
nothing m a b none = rw none (by a b)
  where
    by : (a b : ℕ) → b ≡ 0 * a + b
    by a b = grind arith

-- the sum of the parts is that of the equations over the variables
pub used-sum : (d : ℕ) (inst : InstanceView) (v : ℕ) → v < length inst.variables → (ms : List ℕ) (placed : List PlacedView)
    → sum_at inst (used_parts ms placed) v % d ≡ sum_in d inst v ms placed % d
used-sum d inst v inside [] placed = refl
used-sum d inst v inside (m ∷ ms) [] = refl
used-sum d inst v inside (m ∷ ms) (p ∷ placed) = by (eqb m 0) refl (used-sum d inst v inside ms placed)
  where
    by : (b : Bool) → eqb m 0 ≡ b → sum_at inst (used_parts ms placed) v % d ≡ sum_in d inst v ms placed % d
        → sum_at inst (if b then used_parts ms placed else part_with m p ∷ used_parts ms placed) v % d ≡ (m * cell_in d inst v p + sum_in d inst v ms placed) % d
    by true same rest = rest ∙ ap (λ s. s % d) (nothing m (cell_in d inst v p) (sum_in d inst v ms placed) (eqb-true m 0 same))
    by false differs rest =
        ap (λ s. s % d) (sum_by-cons (λ (part : PartView). part.multiplier * weight_at v (scope_at inst part.constraint) part.coefs) (part_with m p) (used_parts ms placed))
        ∙ add_same d (m * weight_in inst v p) (m * cell_in d inst v p) (sum_at inst (used_parts ms placed) v) (sum_in d inst v ms placed)
        (mul_same d m (weight_in inst v p) (cell_in d inst v p) (sym (ap (λ a. a % d) (at-weights d (length inst.variables) (scope_at inst p.constraint) p.equation.coefs v inside) ∙ mod-mod (weight_in inst v p) d))) rest

pub used-right : (d : ℕ) (inst : InstanceView) (ms : List ℕ) (placed : List PlacedView) → sum_right (used_parts ms placed) ≡ right_in d inst ms placed
used-right d inst [] placed = refl
used-right d inst (m ∷ ms) [] = refl
used-right d inst (m ∷ ms) (p ∷ placed) = by (eqb m 0) refl (used-right d inst ms placed)
  where
    by : (b : Bool) → eqb m 0 ≡ b → sum_right (used_parts ms placed) ≡ right_in d inst ms placed
        → sum_right (if b then used_parts ms placed else part_with m p ∷ used_parts ms placed) ≡ m * p.equation.right + right_in d inst ms placed
    by true same rest = rest ∙ nothing m p.equation.right (right_in d inst ms placed) (eqb-true m 0 same)
    by false differs rest = sum_by-cons (λ (part : PartView). part.multiplier * part.right) (part_with m p) (used_parts ms placed) ∙ ap (λ s. m * p.equation.right + s) rest
