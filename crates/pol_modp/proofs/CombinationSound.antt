-- An instance with a valid combination has no solution.
use Rattle.std.proofs.Common.{◌≡◌, ℕ, zero, suc, ◌+◌, ◌*◌, ◌%◌, ◌<◌, Bool, true, false, eqb, List, [], ◌∷◌, length, get_or, map, All, if◌then◌else◌, refl, sym, ap, ◌∙◌, arith}
use Rattle.std.specs.List.{sum_by}
use Rattle.std.proofs.lemmas.Bool.{eqb-true, eqb-false, ne_eqb}
use Rattle.std.proofs.lemmas.List.Elements.{All-head, All-tail, All-contains}
use Rattle.std.proofs.lemmas.List.Sums.{sum_by-cons}
use Rattle.pol_relation.specs.Relations.{LanguageView}
use Rattle.pol_relation.specs.Instances.{InstanceView, Fits, IsSolution, Meets, read_at, constraint_of, no_constraint}
use Rattle.pol_modp.specs.Equations.{dot, MeetsEquation}
use Rattle.pol_modp.specs.Combinations.{PartView, CombinationView, equation_of, labels_of, scope_at, rows_at, weight_at, sum_at, sum_right}
use Rattle.pol_modp.specs.ValidCombinations.{IsValidCombination}
use Rattle.pol_modp.proofs.Modular.{add_same, mul_same}
use Rattle.pol_modp.proofs.DotLemmas.{dot-nil}
use Rattle.pol_modp.proofs.ClashRefutes.{sum_below, sum_below-same, sum_below-add, sum_below-mul, sum_below-zero, sum_below-vanishes}

-- sums over the variables of a scope

sum_below-none : (n : ℕ) (f : ℕ → ℕ) → ((v : ℕ) → v < n → f v ≡ 0) → sum_below n f ≡ 0
sum_below-none zero f zeros = refl
sum_below-none (suc n) f zeros = let rest = sum_below-none n f (λ v inside. zeros v (omega arith)) in let last = zeros n (omega arith) in omega (arith, rest, last)

other : (b : Bool) (a k : ℕ) → b ≡ false → (if b then a else 0) * k ≡ 0
other b a k fails = ap (λ (c : Bool). (if c then a else 0) * k) fails ∙ by k
  where
    by : (k : ℕ) → 0 * k ≡ 0
    by k = grind arith

itself : (b : Bool) (a k : ℕ) → b ≡ true → (if b then a else 0) * k ≡ a * k
itself b a k passes = ap (λ (c : Bool). (if c then a else 0) * k) passes

-- one variable's term
sum_below-point : (n x a : ℕ) (g : ℕ → ℕ) → x < n → sum_below n (λ v. (if eqb x v then a else 0) * g v) ≡ a * g x
sum_below-point zero x a g inside = absurd (omega arith)
sum_below-point (suc n) x a g inside = by (eqb x n) refl (λ less. sum_below-point n x a g less)
  where
    by : (b : Bool) → eqb x n ≡ b → (x < n → sum_below n (λ v. (if eqb x v then a else 0) * g v) ≡ a * g x) → sum_below n (λ v. (if eqb x v then a else 0) * g v) + (if eqb x n then a else 0) * g n ≡ a * g x
    by true same call =
        let here : x ≡ n = eqb-true x n same in
        let before = sum_below-none n (λ v. (if eqb x v then a else 0) * g v) (λ v less. other (eqb x v) a (g v) (ne_eqb x v (λ e. absurd (omega (arith, e, less, here))))) in
        let last = itself (eqb x n) a (g n) same in
        let moved : a * g n ≡ a * g x = ap (λ k. a * g k) (sym here) in
        omega (arith, before, last, moved)
    by false differs call =
        let rest = call (by_less differs) in
        let last = other (eqb x n) a (g n) differs in
        omega (arith, rest, last)
      where
        by_less : eqb x n ≡ false → x < n
        by_less differs = let apart = eqb-false x n differs in omega (arith, apart, inside)

-- a part read at its scope, by variables
pub by_variables : (n : ℕ) (scope coefs : List ℕ) (g : ℕ → ℕ) → All (λ x. x < n) scope → dot coefs (map g scope) ≡ sum_below n (λ v. weight_at v scope coefs * g v)
by_variables n [] coefs g below = dot-nil coefs ∙ sym (sum_below-zero n (λ v. 0 * g v) (λ v. by (g v)))
  where
    by : (k : ℕ) → 0 * k ≡ 0
    by k = grind arith
by_variables n (x ∷ scope) [] g below = sym (sum_below-zero n (λ v. 0 * g v) (λ v. by (g v)))
  where
    by : (k : ℕ) → 0 * k ≡ 0
    by k = grind arith
by_variables n (x ∷ scope) (a ∷ coefs) g below =
    let rest = by_variables n scope coefs g (All-tail (λ x. x < n) x scope below) in
    let here = sum_below-point n x a g (All-head (λ x. x < n) x scope below) in
    let f : ℕ → ℕ = λ v. (if eqb x v then a else 0) * g v in
    let h : ℕ → ℕ = λ v. weight_at v scope coefs * g v in
    ap (λ s. a * g x + s) rest ∙ (ap (λ s. s + sum_below n h) (sym here) ∙ (sym (sum_below-add n f h)
    ∙ sum_below-same n (λ v. f v + h v) (λ v. weight_at v (x ∷ scope) (a ∷ coefs) * g v) (λ v. turn (if eqb x v then a else 0) (weight_at v scope coefs) (g v))))
  where
    turn : (b w k : ℕ) → b * k + w * k ≡ (b + w) * k
    turn b w k = grind arith

module _ (inst : InstanceView) (g : ℕ → ℕ) where
  -- what the part's equation reads, at the labels g of the variables
  abbrev side_of : PartView → ℕ
  side_of part = dot part.coefs (map g (scope_at inst part.constraint))

  parts_by_variables : (parts : List PartView) → All (λ (part : PartView). All (λ x. x < length inst.variables) (scope_at inst part.constraint)) parts
      → sum_by (λ (part : PartView). part.multiplier * side_of part) parts ≡ sum_below (length inst.variables) (λ v. sum_at inst parts v * g v)
  parts_by_variables [] below = sym (sum_below-zero (length inst.variables) (λ v. 0 * g v) (λ v. by (g v)))
    where
      by : (k : ℕ) → 0 * k ≡ 0
      by k = grind arith
  parts_by_variables (part ∷ parts) below =
      let n = length inst.variables in
      let rest = parts_by_variables parts (All-tail (λ (part : PartView). All (λ x. x < length inst.variables) (scope_at inst part.constraint)) part parts below) in
      let here = by_variables n (scope_at inst part.constraint) part.coefs g (All-head (λ (part : PartView). All (λ x. x < length inst.variables) (scope_at inst part.constraint)) part parts below) in
      let f : ℕ → ℕ = λ v. weight_at v (scope_at inst part.constraint) part.coefs * g v in
      let h : ℕ → ℕ = λ v. sum_at inst parts v * g v in
      sum_by-cons (λ (part : PartView). part.multiplier * side_of part) part parts ∙ (ap (λ s. part.multiplier * side_of part + s) rest ∙ (ap (λ s. part.multiplier * s + sum_below n h) here
      ∙ (ap (λ s. s + sum_below n h) (sym (sum_below-mul n part.multiplier f)) ∙ (sym (sum_below-add n (λ v. part.multiplier * f v) h)
      ∙ sum_below-same n (λ v. part.multiplier * f v + h v) (λ v. sum_at inst (part ∷ parts) v * g v)
      (λ v. turn part.multiplier (weight_at v (scope_at inst part.constraint) part.coefs) (g v) (sum_at inst parts v) (sum_at inst (part ∷ parts) v) (sum_by-cons (λ (p : PartView). p.multiplier * weight_at v (scope_at inst p.constraint) p.coefs) part parts))))))
    where
      turn : (m w k s all : ℕ) → all ≡ m * w + s → m * (w * k) + s * k ≡ all * k
      turn m w k s all same = rw same (by m w k s)
        where
          by : (m w k s : ℕ) → m * (w * k) + s * k ≡ (m * w + s) * k
          by m w k s = grind arith

  -- of parts that are met, the sums of both sides are the same modulo d
  parts_same : (d : ℕ) (parts : List PartView) → All (λ (part : PartView). side_of part % d ≡ part.right % d) parts
      → sum_by (λ (part : PartView). part.multiplier * side_of part) parts % d ≡ sum_right parts % d
  parts_same d [] met = refl
  parts_same d (part ∷ parts) met =
      let Met : PartView → Type 0 = λ (part : PartView). side_of part % d ≡ part.right % d in
      let rest = parts_same d parts (All-tail Met part parts met) in
      let here = mul_same d part.multiplier (side_of part) part.right (All-head Met part parts met) in
      ap (λ s. s % d) (sum_by-cons (λ (part : PartView). part.multiplier * side_of part) part parts)
      ∙ (add_same d (part.multiplier * side_of part) (part.multiplier * part.right) (sum_by (λ (part : PartView). part.multiplier * side_of part) parts) (sum_right parts) here rest
      ∙ sym (ap (λ s. s % d) (sum_by-cons (λ (part : PartView). part.multiplier * part.right) part parts)))

labels-read : (labels assignment scope : List ℕ) → labels_of labels (read_at assignment scope) ≡ map (λ u. get_or labels (get_or assignment u 0) 0) scope
labels-read labels assignment [] = refl
labels-read labels assignment (x ∷ scope) = ap (λ rest. get_or labels (get_or assignment x 0) 0 ∷ rest) (labels-read labels assignment scope)

-- an instance with a valid combination has no solution
pub valid_combination_refutes : (lang : LanguageView) (inst : InstanceView) (c : CombinationView) (assignment : List ℕ) → Fits lang inst → IsValidCombination lang inst c → IsSolution lang inst assignment → ⊥
valid_combination_refutes lang inst c assignment fits is solution =
    let d = lang.domain in
    let n = length inst.variables in
    let g : ℕ → ℕ = λ u. get_or c.labels (get_or assignment u 0) 0 in
    let below = λ (k : ℕ) (e : PartView) (inside : k < length c.parts). (fits (get_or c.parts k e).constraint no_constraint (is.placed k e inside).known).below in
    let met = λ (k : ℕ) (e : PartView) (inside : k < length c.parts). met_at g k e inside in
    let zeros = sum_below-vanishes d n (λ v. sum_at inst c.parts v) g is.coefs_zero in
    is.right_nonzero (sym (parts_same inst g d c.parts met) ∙ (ap (λ s. s % d) (parts_by_variables inst g c.parts below) ∙ zeros))
  where
    met_at : (g : ℕ → ℕ) (k : ℕ) (e : PartView) → k < length c.parts → side_of inst (λ u. get_or c.labels (get_or assignment u 0) 0) (get_or c.parts k e) % lang.domain ≡ (get_or c.parts k e).right % lang.domain
    met_at g k e inside =
        let part = get_or c.parts k e in
        let row = read_at assignment (scope_at inst part.constraint) in
        let is_row : Meets lang (constraint_of inst part.constraint) assignment = solution.meets part.constraint no_constraint (is.placed k e inside).known in
        let reads : MeetsEquation lang.domain (labels_of c.labels row) (equation_of part) = All-contains (λ row. MeetsEquation lang.domain (labels_of c.labels row) (equation_of part)) (rows_at lang inst part.constraint) row (is.implied k e inside) is_row in
        sym (ap (λ xs. dot part.coefs xs % lang.domain) (labels-read c.labels assignment (scope_at inst part.constraint))) ∙ reads
