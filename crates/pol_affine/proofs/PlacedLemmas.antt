-- The equations of the constraints, constraint after constraint.
use Rattle.std.proofs.Common.{◌≡◌, ℕ, zero, suc, ◌+◌, ◌*◌, ◌<◌, ◌≤◌, ◌⊎◌, inl, inr, Bool, eqb, List, [], ◌∷◌, ◌++◌, length, map, All, if◌then◌else◌, refl, sym, ap, ◌∙◌, subst, arith}
use Rattle.std.specs.List.{count_by}
use Rattle.std.proofs.lemmas.Bool.{cases_eq, ne_eqb}
use Rattle.std.proofs.lemmas.List.{length-map, length-append}
use Rattle.std.proofs.lemmas.List.Elements.{All-nil, All-cons, All-head, All-tail, All-append, All-map}
use Rattle.std.proofs.lemmas.List.Sums.{sum_by-cons, sum_by-append, count_by-le-length}
use Rattle.pol_relation.specs.Instances.{InstanceView}
use Rattle.pol_modp.specs.Equations.{EquationView}
use Rattle.pol_affine.specs.Systems.{PlacedView, placed_at, placed_in, equations_at}

All-front : {X : Type 0} (P : X → Type 0) (xs ys : List X) → All P (xs ++ ys) → All P xs
All-front P [] ys all = All-nil P
All-front P (x ∷ xs) ys all = All-cons P x xs (All-head P x (xs ++ ys) all) (All-front P xs ys (All-tail P x (xs ++ ys) all))

All-behind : {X : Type 0} (P : X → Type 0) (xs ys : List X) → All P (xs ++ ys) → All P ys
All-behind P [] ys all = all
All-behind P (x ∷ xs) ys all = All-behind P xs ys (All-tail P x (xs ++ ys) all)

All-mapped : {X Y : Type 0} (P : Y → Type 0) (f : X → Y) (xs : List X) → All P (map f xs) → All (λ x. P (f x)) xs
All-mapped P f [] all = All-nil (λ x. P (f x))
All-mapped P f (x ∷ xs) all = All-cons (λ x. P (f x)) x xs (All-head P (f x) (map f xs) all) (All-mapped P f xs (All-tail P (f x) (map f xs) all))

module _ (inst : InstanceView) (tables : List (List EquationView)) where
  -- what holds of the equations of each constraint holds of all
  pub placed-all : (Q : PlacedView → Type 0) (count : ℕ) → ((c : ℕ) → c < count → All (λ (e : EquationView). Q (placed_at c e)) (equations_at inst tables c)) → All Q (placed_in inst tables count)
  placed-all Q zero each = All-nil Q
  placed-all Q (suc c) each =
      All-append Q (placed_in inst tables c) (map (placed_at c) (equations_at inst tables c)) (placed-all Q c (λ k less. each k (omega arith)))
      (All-map Q (placed_at c) (equations_at inst tables c) (each c (omega arith)))

  -- and what holds of all holds of those of each constraint
  pub placed-each : (Q : PlacedView → Type 0) (count c : ℕ) → c < count → All Q (placed_in inst tables count) → All (λ (e : EquationView). Q (placed_at c e)) (equations_at inst tables c)
  placed-each Q zero c less all = absurd (omega arith)
  placed-each Q (suc last) c less all = by (cases_eq c last) (λ before. placed-each Q last c before (All-front Q (placed_in inst tables last) (map (placed_at last) (equations_at inst tables last)) all))
    where
      by : (c ≡ last) ⊎ (c ≡ last → ⊥) → (c < last → All (λ (e : EquationView). Q (placed_at c e)) (equations_at inst tables c)) → All (λ (e : EquationView). Q (placed_at c e)) (equations_at inst tables c)
      by (inl same) earlier = subst (λ k. All (λ (e : EquationView). Q (placed_at k e)) (equations_at inst tables k)) (sym same)
          (All-mapped Q (placed_at last) (equations_at inst tables last) (All-behind Q (placed_in inst tables last) (map (placed_at last) (equations_at inst tables last)) all))
      by (inr other) earlier = earlier (omega (arith, less, other))

  module _ (bound : ℕ) (few : (c : ℕ) → c < bound → length (equations_at inst tables c) ≤ 7) where
    pub length-placed : (count : ℕ) → count ≤ bound → length (placed_in inst tables count) ≤ 7 * count
    length-placed zero within = omega arith
    length-placed (suc c) within =
        let all = length-append (placed_in inst tables c) (map (placed_at c) (equations_at inst tables c)) in
        let last = length-map (equations_at inst tables c) (placed_at c) in
        let before = length-placed c (omega arith) in
        let here = few c (omega arith) in
        omega (arith, all, last, before, here)

    abbrev count_at : ℕ → List PlacedView → ℕ
    count_at k placed = count_by (λ (p : PlacedView). eqb p.constraint k) placed

    count-map-other : (k c : ℕ) → (c ≡ k → ⊥) → (equations : List EquationView) → count_at k (map (placed_at c) equations) ≡ 0
    count-map-other k c other [] = refl
    count-map-other k c other (e ∷ equations) =
        let rest = count-map-other k c other equations in
        let cons = sum_by-cons (λ (p : PlacedView). if eqb p.constraint k then 1 else 0) (placed_at c e) (map (placed_at c) equations) in
        let none = ap (λ (b : Bool). if b then 1 else 0) (ne_eqb c k other) in
        cons ∙ step _ _ none rest
      where
        step : (a b : ℕ) → a ≡ 0 → b ≡ 0 → a + b ≡ 0
        step a b first second = omega arith

    count-map-most : (k c : ℕ) (equations : List EquationView) → count_at k (map (placed_at c) equations) ≤ length equations
    count-map-most k c equations = subst (λ n. count_at k (map (placed_at c) equations) ≤ n) (length-map equations (placed_at c)) (count_by-le-length (λ (p : PlacedView). eqb p.constraint k) (map (placed_at c) equations))

    -- the constraints that are not there yet have none
    count-later : (k count : ℕ) → count ≤ k → count_at k (placed_in inst tables count) ≡ 0
    count-later k zero later = refl
    count-later k (suc c) later =
        sum_by-append (λ (p : PlacedView). if eqb p.constraint k then 1 else 0) (placed_in inst tables c) (map (placed_at c) (equations_at inst tables c))
        ∙ step _ _ (count-later k c (omega arith)) (count-map-other k c (λ e. absurd (omega (arith, e, later))) (equations_at inst tables c))
      where
        step : (a b : ℕ) → a ≡ 0 → b ≡ 0 → a + b ≡ 0
        step a b first second = omega arith

    pub count-placed : (k count : ℕ) → count ≤ bound → count_at k (placed_in inst tables count) ≤ 7
    count-placed k zero within = omega arith
    count-placed k (suc c) within = by (cases_eq c k) (count-placed k c (omega arith))
      where
        split : count_at k (placed_in inst tables (suc c)) ≡ count_at k (placed_in inst tables c) + count_at k (map (placed_at c) (equations_at inst tables c))
        split = sum_by-append (λ (p : PlacedView). if eqb p.constraint k then 1 else 0) (placed_in inst tables c) (map (placed_at c) (equations_at inst tables c))

        step : (a b s : ℕ) → s ≡ a + b → a ≡ 0 → b ≤ 7 → s ≤ 7
        step a b s sum first second = omega arith

        other_step : (a b s : ℕ) → s ≡ a + b → a ≤ 7 → b ≡ 0 → s ≤ 7
        other_step a b s sum first second = omega arith

        few_more : (a b : ℕ) → a ≤ b → b ≤ 7 → a ≤ 7
        few_more a b first second = omega arith

        by : (c ≡ k) ⊎ (c ≡ k → ⊥) → count_at k (placed_in inst tables c) ≤ 7 → count_at k (placed_in inst tables (suc c)) ≤ 7
        by (inl same) before = step _ _ _ split (count-later k c (omega (arith, same))) (few_more _ _ (count-map-most k c (equations_at inst tables c)) (few c (omega arith)))
        by (inr other) before = other_step _ _ _ split before (count-map-other k c other (equations_at inst tables c))
