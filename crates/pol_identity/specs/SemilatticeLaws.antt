-- Semilattice operations obey their rules.
use Rattle.std.proofs.Common.{◌≡◌, ℕ, ◌^◌, ◌<◌, ◌≤◌, List, [], ◌∷◌}
use Rattle.std.proofs.Common.{subst, refl, Bool, true, false, cond, All, slice_index, lit<, inl}
use Rattle.std.specs.Prelude.{◌==◌, nat_lt}
use Rattle.std.proofs.lemmas.Bool.Decides.{Decides-eqb, Decides-ltb}
use Rattle.std.proofs.lemmas.List.Elements.{All-cons, All-nil}
use Rattle.pol_base.specs.Tuples.{cell_of, digits_of}
use Rattle.pol_base.proofs.CellLemmas.{cell_of-before, cell_of-digits_of, digits_of-below}
use Rattle.pol_optable.specs.Operations.{Operation, value_at}
use Rattle.pol_optable.specs.Identities.{IsSemilattice}
use Rattle.pol_optable.specs.Tables.{IsOpTable}
use Rattle.pol_identity.specs.declared.identity.CellRule.{CellRule}
use Rattle.pol_identity.specs.declared.identity.CellRule.TheVariants.{Free, Value, SameAs}
use Rattle.pol_identity.specs.Rules.{Obeys, ObeysAll, IsRule}
use Rattle.pol_identity.specs.SemilatticeRule.{rule_of_two, semilattice_rule}
use Rattle.pol_identity.specs.CellLaws.{obeys_by_digits}

-- the rule of two arguments by what its tests answer
abbrev pub rule_by : (p q : Bool) (x other : ℕ) → CellRule
rule_by p q x other = cond p (Value x) (cond q (SameAs other) Free)

-- it names a value of the domain, or a lower cell where its second test passes
ruled_by : (d cell x other : ℕ) (p q : Bool) → x < d → (q ≡ true → other < cell)
    → IsRule d cell (rule_by p q x other)
ruled_by d cell x other true q below lower = below
ruled_by d cell x other false true below lower = lower refl
ruled_by d cell x other false false below lower = tt

-- a cell obeys it that has the value of each test that passes
obeys_by : (cells : List ℕ) (cell x other : ℕ) (p q : Bool)
    → (p ≡ true → slice_index cells cell ≡ x)
    → (q ≡ true → slice_index cells cell ≡ slice_index cells other)
    → Obeys cells cell (rule_by p q x other)
obeys_by cells cell x other true q same turned = same refl
obeys_by cells cell x other false true same turned = turned refl
obeys_by cells cell x other false false same turned = tt

-- two values of the domain
pub two_below : (d x y : ℕ) → x < d → y < d → All (λ v. v < d) (x ∷ y ∷ [])
two_below d x y x_below y_below =
    let Below : ℕ → Type 0 = λ v. v < d in
    All-cons Below x (y ∷ []) x_below (All-cons Below y [] y_below (All-nil Below))

-- of two orders of two arguments that with the lesser one first is the lower cell
turned_lower : (d x y : ℕ) → x < d → y < d → y < x → cell_of d (y ∷ x ∷ []) < cell_of d (x ∷ y ∷ [])
turned_lower d x y x_below y_below less =
    cell_of-before d (y ∷ x ∷ []) (x ∷ y ∷ []) refl
    (two_below d y x y_below x_below) (two_below d x y x_below y_below) (inl less)

-- a rule names a value of the domain, or a lower cell
pub semilattice_ruled : (d cell : ℕ) → 1 ≤ d → cell < d ^ 2 → IsRule d cell (semilattice_rule d cell)
semilattice_ruled d cell some known =
    let below : All (λ v. v < d) (digits_of d 2 cell) = digits_of-below d 2 cell some known in
    let x = slice_index (digits_of d 2 cell) 0 in
    let y = slice_index (digits_of d 2 cell) 1 in
    let x_below : x < d = below 0 0 (lit< tt) in
    let y_below : y < d = below 1 0 (lit< tt) in
    let writes : cell_of d (x ∷ y ∷ []) ≡ cell = cell_of-digits_of d 2 cell some known in
    ruled_by d cell x (cell_of d (y ∷ x ∷ [])) (x == y) (nat_lt y x) x_below
    (λ less. subst (λ (c : ℕ). cell_of d (y ∷ x ∷ []) < c) writes
    (turned_lower d x y x_below y_below ((Decides-ltb y x).0 less)))

module _ (f : Operation) (is : IsOpTable 2 f) (semilattice : IsSemilattice f) where
  -- the value at two arguments is as their rule says
  obeys_two : (x y : ℕ) → x < f.domain → y < f.domain
      → Obeys f.cells (cell_of f.domain (x ∷ y ∷ [])) (rule_of_two f.domain x y)
  obeys_two x y x_below y_below =
      obeys_by f.cells (cell_of f.domain (x ∷ y ∷ [])) x (cell_of f.domain (y ∷ x ∷ [])) (x == y) (nat_lt y x)
      (λ same. subst (λ (v : ℕ). value_at f (x ∷ v ∷ []) ≡ x) ((Decides-eqb x y).0 same)
      (semilattice.idempotent x x_below))
      (λ less. semilattice.commutative x y x_below y_below)

  -- a semilattice operation obeys every rule
  pub semilattice_obeys : ObeysAll f.cells (semilattice_rule f.domain)
  semilattice_obeys = obeys_by_digits 2 f (semilattice_rule f.domain) is obeys
    where
      obeys : (cell : ℕ) → cell < f.domain ^ 2
          → Obeys f.cells (cell_of f.domain (digits_of f.domain 2 cell)) (semilattice_rule f.domain cell)
      obeys cell within =
          let below : All (λ v. v < f.domain) (digits_of f.domain 2 cell)
          = digits_of-below f.domain 2 cell is.domain_is.some within in
          obeys_two (slice_index (digits_of f.domain 2 cell) 0) (slice_index (digits_of f.domain 2 cell) 1)
          (below 0 0 (lit< tt)) (below 1 0 (lit< tt))
