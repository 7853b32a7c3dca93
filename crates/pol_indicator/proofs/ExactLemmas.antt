-- The lists that an indicator problem admits are the polymorphisms that obey the rules.
use Rattle.std.proofs.Common.{◌≡◌, ℕ, ◌-◌, ◌<◌, ◌≤◌, ◌^◌, List, [], ◌∷◌, length, get_or, map, arith, sym, ◌∙◌, ap, All, subst, refl}
use Rattle.std.specs.Prelude.{Contains, IsBitSet, ◌↔◌}
use Rattle.std.specs.List.{range_with_len}
use Rattle.std.proofs.lemmas.List.{length-map, get_or_default}
use Rattle.std.proofs.lemmas.List.Elements.{All-contains}
use Rattle.std.proofs.lemmas.List.FromFn.{length-map-range_with_len, get_or-map-range_with_len}
use Rattle.std.proofs.lemmas.Nat.Bits.{bit_at_ones}
use Rattle.pol_base.specs.Tuples.{IsTuple, cell_of}
use Rattle.pol_base.specs.Masks.{AreMasks, IsWithin}
use Rattle.pol_base.proofs.BitLemmas.{single_set, set_single, set_at}
use Rattle.pol_base.proofs.MaskLemmas.{within_below}
use Rattle.pol_relation.specs.Relations.{LanguageView, RelationView, IsLanguage, IsRelationOver, no_named, relation_of, rows_of}
use Rattle.pol_relation.specs.Instances.{ConstraintView, FitsAt, Meets, read_at}
use Rattle.pol_optable.specs.Operations.{IsPolymorphism, operation_of, column, image}
use Rattle.pol_optable.specs.Breaks.{rows_at}
use Rattle.pol_csp.specs.Narrowing.{MeetsAll}
use Rattle.pol_csp.specs.Variables.{AreTied}
use Rattle.pol_csp.specs.Problems.{ProblemView, Admits, FitsLanguage}
use Rattle.pol_identity.specs.declared.identity.CellRule.{CellRule}
use Rattle.pol_identity.specs.declared.identity.CellRule.TheVariants.{Free, Value, SameAs}
use Rattle.pol_identity.specs.Rules.{Obeys, ObeysAll}
use Rattle.pol_indicator.specs.Indicators.{scope_of, constraint_of_rows, IsListed, AreIndicated}
use Rattle.pol_indicator.specs.Ruled.{mask_by, tie_by, AreRuled, IsRuledTable}
use Rattle.pol_optable.proofs.BreakLemmas.{numbers_of, AreNumbers}
use Rattle.pol_indicator.proofs.ColumnLemmas.{column_below}
use Rattle.pol_base.proofs.CellLemmas.{cell_of-below}

map-map : (f g : ℕ → ℕ) (xs : List ℕ) → map g (map f xs) ≡ map (λ x. g (f x)) xs
map-map f g [] = refl
map-map f g (x ∷ xs) = ap (λ ys. g (f x) ∷ ys) (map-map f g xs)

-- what is read at the scope of a list of rows is their image
pub reads_image : (d K n : ℕ) (cells : List ℕ) (rows : List (List ℕ)) → read_at cells (scope_of d n rows) ≡ image (operation_of d K cells) n rows
reads_image d K n cells rows = map-map (λ place. cell_of d (column rows place)) (λ c. get_or cells c 0) (range_with_len 0 n)

-- a table meets the constraint of some rows exactly where their image is a row
pub meets_image : (lang : LanguageView) (K number : ℕ) (cells : List ℕ) (rows : List (List ℕ))
    → Meets lang (constraint_of_rows lang number rows) cells
    ↔ Contains (rows_of lang number) (image (operation_of lang.domain K cells) (relation_of lang number).arity rows)
meets_image lang K number cells rows =
    let n = (relation_of lang number).arity in
    let same = reads_image lang.domain K n cells rows in
    (λ met. subst (Contains (rows_of lang number)) same met, λ kept. subst (Contains (rows_of lang number)) (sym same) kept)

cell_low : (d K n : ℕ) (values : List ℕ) → All (λ v. v < d) values → length values ≡ K → n ≡ d ^ K → cell_of d values < n
cell_low d K n values below long all = rw (all, ← long) (cell_of-below d values below)

module _ (lang : LanguageView) (is_language : IsLanguage lang) (K : ℕ) where
  -- the constraints of the lists of rows are met exactly by the polymorphisms
  pub met_by_polymorphism : (constraints : List ConstraintView) (cells : List ℕ) → All (IsListed lang K (length lang.relations)) constraints
      → IsPolymorphism (operation_of lang.domain K cells) lang → MeetsAll lang constraints cells
  met_by_polymorphism constraints cells listed keeps i none h =
      let c = get_or constraints i none in
      let is : IsListed lang K (length lang.relations) c = listed i none h in
      let kept = keeps c.relation no_named is.known is.rows is.long is.members in
      subst (λ e. Meets lang e cells) (sym is.is) ((meets_image lang K c.relation cells is.rows).1 kept)

  pub polymorphism_by_met : (constraints : List ConstraintView) (cells : List ℕ) → AreIndicated lang K (length lang.relations) constraints
      → MeetsAll lang constraints cells → IsPolymorphism (operation_of lang.domain K cells) lang
  polymorphism_by_met constraints cells are met number none inside rows long members =
      let f = operation_of lang.domain K cells in
      let same = get_or_default lang.relations number none no_named inside in
      subst (λ e. All (Contains e.relation.rows) rows → Contains e.relation.rows (image f e.relation.arity rows)) (sym same) kept members
    where
      kept : All (Contains (rows_of lang number)) rows → Contains (rows_of lang number) (image (operation_of lang.domain K cells) (relation_of lang number).arity rows)
      kept listed =
          let here = are.complete number rows inside long listed in
          (meets_image lang K number cells rows).0 (All-contains (λ c. Meets lang c cells) constraints (constraint_of_rows lang number rows) met here)

  -- the scope of listed rows has cells of the table
  pub scope_fits : (n number : ℕ) (rows : List (List ℕ)) → number < length lang.relations → length rows ≡ K → n ≡ lang.domain ^ K
      → All (Contains (rows_of lang number)) rows → FitsAt lang n (constraint_of_rows lang number rows)
  scope_fits n number rows known long all members = record {
    known = known;
    long = length-map-range_with_len (λ place. cell_of lang.domain (column rows place)) 0 (relation_of lang number).arity;
    below = below;
  }
    where
      r : RelationView
      r = relation_of lang number

      over : IsRelationOver lang.domain r
      over = is_language.relations_are number no_named known

      found : AreNumbers r rows
      found = numbers_of r rows members

      cell_below : (place : ℕ) → place < r.arity → cell_of lang.domain (column rows place) < n
      cell_below place inside =
          let values = column_below r found.numbers place over.is_relation inside found.below in
          let here = subst (λ d. All (λ v. v < d) (column (rows_at r found.numbers) place)) over.same_domain values in
          let listed = subst (λ some. All (λ v. v < lang.domain) (column some place)) found.same here in
          cell_low lang.domain K n (column rows place) listed (length-map rows (λ row. get_or row place 0) ∙ long) all

      below : All (λ c. c < n) (scope_of lang.domain r.arity rows)
      below k none h =
          let inside : k < r.arity = rw (length-map-range_with_len (λ place. cell_of lang.domain (column rows place)) 0 r.arity) at h in
          rw (get_or-map-range_with_len (λ place. cell_of lang.domain (column rows place)) 0 r.arity k k none inside (omega arith)) (cell_below k inside)

module _ (lang : LanguageView) (p : ProblemView) (K : ℕ) (rule : ℕ → CellRule)
    (masks : AreMasks lang.domain p.masks) (counted : length p.masks ≡ lang.domain ^ K)
    (ruled : AreRuled lang.domain rule (lang.domain ^ K) p.masks p.ties) where
  -- the rules are obeyed where the masks and ties are
  pub obeys : (cells : List ℕ) → IsWithin p.masks cells → AreTied p.ties cells → ObeysAll cells rule
  obeys cells w tied c h = by (rule c) (ruled.masks_by c low) (ruled.ties_by c low)
    where
      low : c < lang.domain ^ K
      low = omega (arith, h, w.long, counted)

      by : (q : CellRule) → get_or p.masks c 0 ≡ mask_by lang.domain q → get_or p.ties c 0 ≡ tie_by c q → Obeys cells c q
      by Free m t = tt
      by (Value v) m t = single_set v (get_or cells c 0) (rw m at (w.within c h))
      by (SameAs other) m t = rw t at (tied c (omega (arith, h, ruled.counted, w.long)))

  pub within : (cells : List ℕ) → IsTuple lang.domain (lang.domain ^ K) cells → ObeysAll cells rule → IsWithin p.masks cells
  within cells tuple obeyed = record { long = tuple.long ∙ sym counted; within = λ c h. by c h (rule c) (ruled.masks_by c (omega (arith, h, tuple.long))) (obeyed c h) }
    where
      full : (c : ℕ) → c < length cells → IsBitSet (2 ^ lang.domain - 1) (get_or cells c 0)
      full c h = set_at (2 ^ lang.domain - 1) (get_or cells c 0) (bit_at_ones lang.domain (get_or cells c 0) (tuple.below c 0 h))

      by : (c : ℕ) → c < length cells → (q : CellRule) → get_or p.masks c 0 ≡ mask_by lang.domain q → Obeys cells c q → IsBitSet (get_or p.masks c 0) (get_or cells c 0)
      by c h Free m o = rw m (full c h)
      by c h (Value v) m o = rw (m, o) (set_single v)
      by c h (SameAs other) m o = rw m (full c h)

  pub tied : (cells : List ℕ) → IsTuple lang.domain (lang.domain ^ K) cells → ObeysAll cells rule → AreTied p.ties cells
  tied cells tuple obeyed c h = by (rule c) (ruled.ties_by c (omega (arith, h, ruled.counted, counted))) (obeyed c (omega (arith, h, ruled.counted, counted, tuple.long)))
    where
      by : (q : CellRule) → get_or p.ties c 0 ≡ tie_by c q → Obeys cells c q → get_or cells c 0 ≡ get_or cells (get_or p.ties c 0) 0
      by Free t o = rw t refl
      by (Value v) t o = rw t refl
      by (SameAs other) t o = rw t o

-- a problem that says what the rules ask, and has the constraints of all lists of rows
module _ (lang : LanguageView) (is_language : IsLanguage lang) (K : ℕ) (rule : ℕ → CellRule) (p : ProblemView)
    (same : p.domain ≡ lang.domain) (some : 1 ≤ K) (masks : AreMasks p.domain p.masks) (counted : length p.masks ≡ lang.domain ^ K)
    (ruled : AreRuled lang.domain rule (lang.domain ^ K) p.masks p.ties) (are : AreIndicated lang K (length lang.relations) p.constraints) where
  here : AreMasks lang.domain p.masks
  here = rw same at masks

  pub fits : FitsLanguage lang p
  fits = record { domain = same; constraints = all }
    where
      all : All (FitsAt lang (length p.masks)) p.constraints
      all i none h =
          let c = get_or p.constraints i none in
          let is : IsListed lang K (length lang.relations) c = are.sound i none h in
          subst (FitsAt lang (length p.masks)) (sym is.is) (scope_fits lang is_language K (length p.masks) c.relation is.rows is.known is.long counted is.members)

  pub exactly : (cells : List ℕ) → Admits lang p cells ↔ IsRuledTable lang K rule cells
  exactly cells = (admitted, admits)
    where
      admitted : Admits lang p cells → IsRuledTable lang K rule cells
      admitted a =
          let tuple = within_below lang.domain p.masks cells here a.within in
          record {
            is_operation = record { some_arguments = some; all_cells = tuple.long ∙ counted; below = tuple.below };
            obeys = obeys lang p K rule here counted ruled cells a.within a.tied;
            preserves = polymorphism_by_met lang is_language K p.constraints cells are a.meets;
          }

      admits : IsRuledTable lang K rule cells → Admits lang p cells
      admits t =
          let tuple : IsTuple lang.domain (lang.domain ^ K) cells = record { long = t.is_operation.all_cells; below = t.is_operation.below } in
          record {
            within = within lang p K rule here counted ruled cells tuple t.obeys;
            tied = tied lang p K rule here counted ruled cells tuple t.obeys;
            meets = met_by_polymorphism lang is_language K p.constraints cells are.sound t.preserves;
          }
