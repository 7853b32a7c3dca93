-- Constant operations: their tables, which relations they preserve, and the line of the class `constant`.
use Rattle.std.proofs.Common.{ℕ, List, [], replicate, ◌≡◌, ◌^◌, arith, ◌∷◌, get_or, ap, ◌<◌, ◌∙◌, sym, ◌≤◌, length, map, ◌⊎◌, inl, inr, All, Contains, subst, refl, zero, suc, Some, None}
use Rattle.std.specs.List.{range_with_len}
use Rattle.std.proofs.Math.Nat.{pow-zero, pow-suc}
use Rattle.std.proofs.lemmas.List.{get_or-replicate, length-replicate, ext_get_or}
use Rattle.std.proofs.lemmas.List.Elements.{All-replicate, All-head, All-contains, All-nil, All-cons, Contains-get_or}
use Rattle.std.proofs.lemmas.List.FromFn.{length-map-range_with_len, get_or-map-range_with_len}
use Rattle.pol_optable.specs.Operations.{Operation, value_at, IsOperation, image, Preserves}
use Rattle.pol_base.specs.Tuples.{cell_of, IsTuple, IsBefore}
use Rattle.pol_base.specs.declared.class_name.ClassName.TheVariants.{Constant, Semilattice, SetFunction, Majority, Nu4, Affine, Maltsev}
use Rattle.pol_optable.specs.Identities.{IsConstant}
use Rattle.pol_optable.specs.Constants.{HoldsConstant, ClosedUnder}
use Rattle.pol_optable.specs.ClassLines.{IsTable, ClassLine, Serves, Chooses}
use Rattle.pol_optable.specs.ClassLines.Line.{Sought}
use Rattle.pol_optable.proofs.LineLemmas.{first_of_all}
use Rattle.pol_base.proofs.MemberLemmas.{Contains-nil}
use Rattle.pol_relation.specs.Relations.{RelationView, IsRelation, LanguageView, IsLanguage}

-- the operation of one argument with these cells
abbrev pub unary : ℕ → List ℕ → Operation
unary d cells = record { domain = d; arity = 1; cells = cells }

-- the cells of the operation that has the value a everywhere
abbrev pub constant_cells : ℕ → ℕ → List ℕ
constant_cells d a = replicate d a

pub power_one : (d : ℕ) → d ^ 1 ≡ d
power_one d = rw (pow-suc d 0, pow-zero) (omega arith)

cell_of-one : (d x : ℕ) → cell_of d (x ∷ []) ≡ x
cell_of-one d x = rw pow-zero (omega arith)

-- what an operation of one argument makes of it
value_at-one : (d : ℕ) (cells : List ℕ) (x : ℕ) → value_at (unary d cells) (x ∷ []) ≡ get_or cells x 0
value_at-one d cells x = ap (λ i. get_or cells i 0) (cell_of-one d x)

pub value_at-constant : (d a x : ℕ) → x < d → value_at (unary d (constant_cells d a)) (x ∷ []) ≡ a
value_at-constant d a x within = value_at-one d (constant_cells d a) x ∙ get_or-replicate d x a 0 within

pub IsOperation-constant : (d a : ℕ) → a < d → IsOperation (unary d (constant_cells d a))
IsOperation-constant d a below = record {
  some_arguments = omega arith;
  all_cells = length-replicate d a ∙ sym (power_one d);
  below = All-replicate (λ v. v < d) d a below;
}

pub IsConstant-constant : (d a : ℕ) → IsConstant (unary d (constant_cells d a))
IsConstant-constant d a = record { same = λ x y x_below y_below. value_at-constant d a x x_below ∙ sym (value_at-constant d a y y_below) }

-- the cells are those of a constant operation on the domain
pub record IsConstantCells (d : ℕ) (cells : List ℕ) : Type 0 where
  pub value : ℕ
  pub below : value < d
  pub cells_are : cells ≡ constant_cells d value

pub constant_cells_of : (d : ℕ) (cells : List ℕ) → 1 ≤ d → IsOperation (unary d cells) → IsConstant (unary d cells) → IsConstantCells d cells
constant_cells_of d cells some operation constant =
    let long : length cells ≡ d = operation.all_cells ∙ power_one d in
    record {
      value = get_or cells 0 0;
      below = operation.below 0 0 (omega arith);
      cells_are = ext_get_or 0 cells (constant_cells d (get_or cells 0 0)) (long ∙ sym (length-replicate d (get_or cells 0 0))) (λ i inside.
          let within : i < d = omega arith in
          sym (value_at-one d cells i) ∙ (constant.same i 0 within (omega arith) ∙ (value_at-one d cells 0 ∙ sym (get_or-replicate d i (get_or cells 0 0) 0 within))));
    }

-- every place of the image of one row is the constant value
pub image-constant : (d n a : ℕ) (row : List ℕ) → IsTuple d n row → image (unary d (constant_cells d a)) n (row ∷ []) ≡ replicate n a
image-constant d n a row tuple =
    let f : ℕ → ℕ = λ place. value_at (unary d (constant_cells d a)) (get_or row place 0 ∷ []) in
    ext_get_or 0 (map f (range_with_len 0 n)) (replicate n a) (length-map-range_with_len f 0 n ∙ sym (length-replicate n a)) (λ i inside.
    let within : i < n = omega (arith, length-map-range_with_len f 0 n) in
    let value : get_or row i 0 < d = tuple.below i 0 (omega (arith, tuple.long)) in
    get_or-map-range_with_len f 0 n i i 0 within (omega arith) ∙ (value_at-constant d a (get_or row i 0) value ∙ sym (get_or-replicate n i a 0 within)))

preserves_rows : (d n a : ℕ) (relation_rows : List (List ℕ)) → All (IsTuple d n) relation_rows → (relation_rows ≡ []) ⊎ Contains relation_rows (replicate n a) → (rows : List (List ℕ)) → length rows ≡ 1 → All (Contains relation_rows) rows → Contains relation_rows (image (unary d (constant_cells d a)) n rows)
preserves_rows d n a relation_rows tuples holds [] one members = absurd (cc)
preserves_rows d n a relation_rows tuples holds (row ∷ []) one members =
    let member : Contains relation_rows row = All-head (Contains relation_rows) row [] members in
    elim holds [
      | inl empty ↦ absurd (Contains-nil row (subst (λ some. Contains some row) empty member))
      | inr there ↦ subst (λ t. Contains relation_rows t) (sym (image-constant d n a row (All-contains (IsTuple d n) relation_rows row tuples member))) there
    ]
preserves_rows d n a relation_rows tuples holds (row ∷ next ∷ rows) one members = absurd (omega arith)

-- a constant operation preserves a relation that is empty or has its tuple
pub constant_preserves : (d a : ℕ) (r : RelationView) → IsRelation r → r.domain ≡ d → HoldsConstant r a → Preserves (unary d (constant_cells d a)) r
constant_preserves d a r is same holds =
    preserves_rows d r.arity a r.rows (subst (λ size. All (IsTuple size r.arity) r.rows) same is.tuples) holds

holds_rows : (d n a : ℕ) (rows : List (List ℕ)) → All (IsTuple d n) rows → Preserves (unary d (constant_cells d a)) (record { domain = d; arity = n; rows = rows }) → (rows ≡ []) ⊎ Contains rows (replicate n a)
holds_rows d n a [] tuples preserves = inl refl
holds_rows d n a (row ∷ rows) tuples preserves =
    let member : Contains (row ∷ rows) row = Contains-get_or (row ∷ rows) 0 row (omega arith) in
    let closed = preserves (row ∷ []) refl (All-cons (Contains (row ∷ rows)) row [] member (All-nil (Contains (row ∷ rows)))) in
    inr (subst (λ t. Contains (row ∷ rows) t) (image-constant d n a row (All-head (IsTuple d n) row rows tuples)) closed)

-- and no other relation
pub holds_from_preserves : (d a : ℕ) (r : RelationView) → IsRelation r → r.domain ≡ d → Preserves (unary d (constant_cells d a)) r → HoldsConstant r a
holds_from_preserves d a r is same preserves =
    holds_rows d r.arity a r.rows (subst (λ size. All (IsTuple size r.arity) r.rows) same is.tuples) preserves

-- what is known of a table of the class `constant`
pub record IsClosedConstant (lang : LanguageView) (cells : List ℕ) : Type 0 where
  pub value : ℕ
  pub below : value < lang.domain
  pub cells_are : cells ≡ constant_cells lang.domain value
  pub closed : ClosedUnder lang value

pub constant_table : (lang : LanguageView) (a : ℕ) → IsLanguage lang → a < lang.domain → ClosedUnder lang a → IsTable IsConstant 1 lang (constant_cells lang.domain a)
constant_table lang a is below closed = record {
  is_operation = IsOperation-constant lang.domain a below;
  satisfies = IsConstant-constant lang.domain a;
  preserves = λ k d inside. constant_preserves lang.domain a (get_or lang.relations k d).relation (is.relations_are k d inside).is_relation (is.relations_are k d inside).same_domain (closed k d inside);
}

pub closed_from_table : (lang : LanguageView) (cells : List ℕ) → IsLanguage lang → IsTable IsConstant 1 lang cells → IsClosedConstant lang cells
closed_from_table lang cells is table =
    let constant = constant_cells_of lang.domain cells is.domain_is.some table.is_operation table.satisfies in
    record {
      value = constant.value;
      below = constant.below;
      cells_are = constant.cells_are;
      closed = λ k d inside. holds_from_preserves lang.domain constant.value (get_or lang.relations k d).relation (is.relations_are k d inside).is_relation (is.relations_are k d inside).same_domain
          (subst (λ some. Preserves (unary lang.domain some) (get_or lang.relations k d).relation) constant.cells_are (table.preserves k d inside));
    }

-- the table of the smaller value comes before
smaller_value : (n a b : ℕ) → IsBefore (replicate n b) (replicate n a) → b < a
smaller_value zero a b before = absurd before
smaller_value (suc n) a b before = elim before [ inl less ↦ less | inr equal ↦ smaller_value n a b equal.1 ]

-- the least value under which the language is closed gives the line
pub constant_line_found : (lang : LanguageView) (a : ℕ) → IsLanguage lang → a < lang.domain → ClosedUnder lang a → ((b : ℕ) → b < a → ¬ ClosedUnder lang b) → ClassLine Constant lang (Sought (Some (constant_cells lang.domain a)))
constant_line_found lang a is below closed least = (
  λ beyond. beyond,
  record {
    holds = constant_table lang a is below closed;
    first = λ cells long table before.
        let other = closed_from_table lang cells is table in
        least other.value (smaller_value lang.domain a other.value (subst (λ some. IsBefore some (constant_cells lang.domain a)) other.cells_are before)) other.closed;
  },
)

-- where the language is closed under no value there is no table
pub constant_line_none : (lang : LanguageView) → IsLanguage lang → ((b : ℕ) → b < lang.domain → ¬ ClosedUnder lang b) → ClassLine Constant lang (Sought None)
constant_line_none lang is none = (
  λ beyond. beyond,
  λ cells table.
      let other = closed_from_table lang cells is table in
      none other.value other.below other.closed,
)

-- the value of the operation with the table
pub record IsTableValue (lang : LanguageView) (cells : List ℕ) : Type 0 where
  pub some_cells : 0 < length cells
  pub below : get_or cells 0 0 < lang.domain
  pub closed : ClosedUnder lang (get_or cells 0 0)

pub table_value : (lang : LanguageView) (cells : List ℕ) → IsLanguage lang → IsTable IsConstant 1 lang cells → IsTableValue lang cells
table_value lang cells is table =
    let closed = closed_from_table lang cells is table in
    let same : get_or cells 0 0 ≡ closed.value = ap (λ some. get_or some 0 0) closed.cells_are ∙ get_or-replicate lang.domain 0 closed.value 0 is.domain_is.some in
    record {
      some_cells = omega (arith, ap length closed.cells_are, length-replicate lang.domain closed.value, is.domain_is.some);
      below = subst (λ v. v < lang.domain) (sym same) closed.below;
      closed = subst (ClosedUnder lang) (sym same) closed.closed;
    }

-- a language that is closed under a value has `constant` as its chosen class
pub constant_is_chosen : (lang : LanguageView) (a : ℕ) → IsLanguage lang → a < lang.domain → ClosedUnder lang a → ((b : ℕ) → b < a → ¬ ClosedUnder lang b) → Chooses lang (Some Constant)
constant_is_chosen lang a is below closed least =
    let line = constant_line_found lang a is below closed least in
    first_of_all (Serves lang) Constant (Semilattice ∷ SetFunction ∷ Majority ∷ Nu4 ∷ Affine ∷ Maltsev ∷ []) (record { cells = constant_cells lang.domain a; line = line })
