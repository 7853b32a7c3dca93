-- Tables of the assignments that meet the first constraints of an instance, and the sizes of their signatures.
use Rattle.std.proofs.Common.{◌≡◌, ℕ, ◌<◌, ◌≤◌, ◌+◌, List, [], ◌∷◌, ◌++◌, length, get_or, take, All, Decides, cond, true, arith, refl, sym, subst, ap, ◌∙◌, ◌↔◌, ◌⊎◌, inl, inr, length-append}
use Rattle.std.specs.Prelude.{slice_index, Option, Some, None, IfNone}
use Rattle.std.proofs.lemmas.Bool.{cases_order}
use Rattle.std.proofs.lemmas.List.{get_or_at, get_or_append_left, take_all}
use Rattle.std.proofs.lemmas.List.Elements.{All-same}
use Rattle.pol_base.specs.Tuples.{IsTuple}
use Rattle.pol_relation.specs.Relations.{LanguageView, rows_of}
use Rattle.pol_relation.specs.Instances.{InstanceView, Meets, IsSolution, HasNoSolution, no_constraint, constraint_of}
use Rattle.pol_optable.specs.Operations.{Operation}
use Rattle.pol_rows.specs.Signatures.{InSignature, IsSignatureSize, sum_below, count_pairs, count_triples}
use Rattle.pol_maltsev.specs.Compacts.{AreSizes}
use Rattle.pol_maltsev.specs.Representations.{MeetsFirst, ReadsRow}
use Rattle.pol_maltsev.specs.Orders.{IsNatural}
use Rattle.pol_maltsev.specs.Solutions.{IsPresent, IsRowAt, IsTableOfFirst, IsSizeOfFirst}
use Rattle.pol_maltsev.specs.Views.{TableView, InTable, IsSoundTable, HaveOneShape, same_in, root_in, row_in}
use Rattle.pol_maltsev.specs.Views.InTable.{listed}
use Rattle.pol_maltsev.proofs.TupleLemmas.{value_below}
use Rattle.pol_maltsev.proofs.MeetingLemmas.{meets_more}
use Rattle.pol_maltsev.proofs.CompactLemmas.{size_of_same}
use Rattle.pol_maltsev.proofs.SizeLemmas.{term-le-sum}
use Rattle.pol_maltsev.proofs.SetLemmas.{set_preserved, natural_size}

-- a set with a member has a triple in its signature
pub size_some : (n d : ℕ) (T : List ℕ → Type 0) (size : ℕ) (t : List ℕ) → 1 ≤ n → IsSignatureSize n d T size → IsTuple d n t → T t → 1 ≤ size
size_some n d T size t some is tuple in_t =
    let a : ℕ = slice_index t 0 in
    let low : a < d = value_below d n t 0 tuple some in
    let passes : is.test 0 a a ≡ true = (is.decides 0 a a some low low).1 (record { one = t; other = t; one_in = in_t; other_in = in_t; same_before = refl; one_at = refl; other_at = refl }) in
    let one : 1 ≤ cond (is.test 0 a a) 1 0 = rw passes (omega arith) in
    let at_value : cond (is.test 0 a a) 1 0 ≤ sum_below d (λ b. cond (is.test 0 a b) 1 0) = term-le-sum d a (λ b. cond (is.test 0 a b) 1 0) low in
    let at_place : sum_below d (λ b. cond (is.test 0 a b) 1 0) ≤ count_pairs d (is.test 0) = term-le-sum d a (λ e. sum_below d (λ b. cond (is.test 0 e b) 1 0)) low in
    let all : count_pairs d (is.test 0) ≤ count_triples n d is.test = term-le-sum n 0 (λ i. count_pairs d (is.test i)) some in
    omega (arith, one, at_value, at_place, all, is.counted)

-- all tuples meet no constraint
pub first_none : (lang : LanguageView) (inst : InstanceView) (t : List ℕ) → IsTuple lang.domain (length inst.variables) t ↔ MeetsFirst lang inst 0 t
first_none lang inst t = (λ h. record { tuple = h; meets = λ k d low. absurd (omega (arith, low)) }, λ h. h.tuple)

-- the size of a table's set
pub table_size_is : (f : Operation) (lang : LanguageView) (inst : InstanceView) (j size : ℕ) (v : TableView) → f.domain ≡ lang.domain → IsTableOfFirst f lang inst j v → size ≡ count_triples v.width v.domain (same_in v) → IsSizeOfFirst lang inst j size
table_size_is f lang inst j size v same is counted =
    size_of_same (length inst.variables) lang.domain (InTable f v) (MeetsFirst lang inst j) size is.set
    (rw (← is.width, ← same, counted) (natural_size f v is.sound is.natural))

-- the table of all tuples
pub table_of_none : (f : Operation) (lang : LanguageView) (inst : InstanceView) (v : TableView) → f.domain ≡ lang.domain → IsSoundTable f v → IsNatural v.width v.order → v.width ≡ length inst.variables →
    ((t : List ℕ) → InTable f v t ↔ IsTuple f.domain (length inst.variables) t) → IsTableOfFirst f lang inst 0 v
table_of_none f lang inst v same sound natural width set = record {
  sound = sound;
  natural = natural;
  width = width;
  set = λ t. (λ h. (first_none lang inst t).0 (rw same at ((set t).0 h)), λ h. (set t).1 (rw (← same) at ((first_none lang inst t).1 h)));
}

-- one constraint more
pub table_of_more : (f : Operation) (lang : LanguageView) (inst : InstanceView) (c : ℕ) (old new : TableView) → c < length inst.constraints → IsTableOfFirst f lang inst c old → HaveOneShape old new → IsSoundTable f new → IsNatural new.width new.order →
    ((t : List ℕ) → InTable f new t ↔ ReadsRow (InTable f old) (constraint_of inst c).scope (rows_of lang (constraint_of inst c).relation) t) → IsTableOfFirst f lang inst (c + 1) new
table_of_more f lang inst c old new known is shape sound natural set = record {
  sound = sound;
  natural = natural;
  width = shape.width ∙ is.width;
  set = λ t. (
    λ h. (meets_more lang inst c no_constraint known t).1 (to t ((set t).0 h)),
    λ h. (set t).1 (back t ((meets_more lang inst c no_constraint known t).0 h)),
  );
}
  where
    to : (t : List ℕ) → ReadsRow (InTable f old) (constraint_of inst c).scope (rows_of lang (constraint_of inst c).relation) t → ReadsRow (MeetsFirst lang inst c) (constraint_of inst c).scope (rows_of lang (constraint_of inst c).relation) t
    to t h = record { inside = (is.set t).0 h.inside; row = h.row }

    back : (t : List ℕ) → ReadsRow (MeetsFirst lang inst c) (constraint_of inst c).scope (rows_of lang (constraint_of inst c).relation) t → ReadsRow (InTable f old) (constraint_of inst c).scope (rows_of lang (constraint_of inst c).relation) t
    back t h = record { inside = (is.set t).1 h.inside; row = h.row }

-- where no assignment is left
pub none_left : (lang : LanguageView) (inst : InstanceView) (c : ℕ) → 1 ≤ length inst.variables → IsSizeOfFirst lang inst c 0 → (t : List ℕ) → ¬ MeetsFirst lang inst c t
none_left lang inst c some size t h = let one : 1 ≤ 0 = size_some (length inst.variables) lang.domain (MeetsFirst lang inst c) 0 t some size h.tuple h in omega (arith, one)

-- none meets one constraint more
pub none_more_left : (lang : LanguageView) (inst : InstanceView) (c : ℕ) → 1 ≤ length inst.variables → c < length inst.constraints → IsSizeOfFirst lang inst c 0 → (t : List ℕ) → MeetsFirst lang inst c t ↔ MeetsFirst lang inst (c + 1) t
none_more_left lang inst c some known size t = (
  λ h. absurd (none_left lang inst c some size t h),
  λ h. ((meets_more lang inst c no_constraint known t).0 h).inside,
)

-- so the table stays
pub table_of_none_left : (f : Operation) (lang : LanguageView) (inst : InstanceView) (c : ℕ) (v : TableView) → 1 ≤ length inst.variables → c < length inst.constraints → IsSizeOfFirst lang inst c 0 → IsTableOfFirst f lang inst c v → IsTableOfFirst f lang inst (c + 1) v
table_of_none_left f lang inst c v some known size is = record {
  sound = is.sound;
  natural = is.natural;
  width = is.width;
  set = λ t. (λ h. (none_more_left lang inst c some known size t).0 ((is.set t).0 h), λ h. (is.set t).1 ((none_more_left lang inst c some known size t).1 h));
}

-- and so does the size
pub size_none_left : (lang : LanguageView) (inst : InstanceView) (c : ℕ) → 1 ≤ length inst.variables → c < length inst.constraints → IsSizeOfFirst lang inst c 0 → IsSizeOfFirst lang inst (c + 1) 0
size_none_left lang inst c some known size =
    size_of_same (length inst.variables) lang.domain (MeetsFirst lang inst c) (MeetsFirst lang inst (c + 1)) 0 (none_more_left lang inst c some known size) size

-- the sizes of the first j constraints
pub record AreSizesSoFar (lang : LanguageView) (inst : InstanceView) (j : ℕ) (sizes : List ℕ) : Type 0 where
  pub counted : length sizes ≡ j + 1
  pub each : (k : ℕ) → k ≤ j → IsSizeOfFirst lang inst k (slice_index sizes k)

pub sizes_begin : (lang : LanguageView) (inst : InstanceView) (size : ℕ) → IsSizeOfFirst lang inst 0 size → AreSizesSoFar lang inst 0 (size ∷ [])
sizes_begin lang inst size is = record { counted = refl; each = λ k low. at k (omega (arith, low)) }
  where
    at : (k : ℕ) → k ≡ 0 → IsSizeOfFirst lang inst k (slice_index (size ∷ []) k)
    at k same = rw same is

-- of one constraint more
pub sizes_more : (lang : LanguageView) (inst : InstanceView) (j size : ℕ) (sizes : List ℕ) → AreSizesSoFar lang inst j sizes → IsSizeOfFirst lang inst (j + 1) size → AreSizesSoFar lang inst (j + 1) (sizes ++ size ∷ [])
sizes_more lang inst j size sizes so_far is = record {
  counted = length-append sizes (size ∷ []) ∙ rw so_far.counted refl;
  each = λ k low. at k low (cases_order k (j + 1));
}
  where
    at : (k : ℕ) → k ≤ j + 1 → (k ≡ j + 1) ⊎ ((k < j + 1) ⊎ (j + 1 < k)) → IsSizeOfFirst lang inst k (slice_index (sizes ++ size ∷ []) k)
    at k low (inl same) = rw (get_or_at sizes size [] 0 k (so_far.counted ∙ sym same), same) is
    at k low (inr (inl before)) = rw (get_or_append_left sizes (size ∷ []) 0 k (rw so_far.counted before)) (so_far.each k (omega (arith, before)))
    at k low (inr (inr after)) = absurd (omega (arith, low, after))

-- of all constraints
pub sizes_all : (lang : LanguageView) (inst : InstanceView) (j : ℕ) (sizes : List ℕ) → j ≡ length inst.constraints → AreSizesSoFar lang inst j sizes → AreSizes lang inst sizes
sizes_all lang inst j sizes end so_far = record { counted = rw (← end) so_far.counted; each = λ k low. so_far.each k (rw end low) }

-- assignments that meet all constraints are solutions
meets_all : (lang : LanguageView) (inst : InstanceView) (j : ℕ) (t : List ℕ) → j ≡ length inst.constraints → MeetsFirst lang inst j t ↔ IsSolution lang inst t
meets_all lang inst j t end = (
  λ h. record { assigns = h.tuple; meets = All-same (λ c. Meets lang c t) inst.constraints (take j inst.constraints) (sym whole) h.meets },
  λ h. record { tuple = h.assigns; meets = All-same (λ c. Meets lang c t) (take j inst.constraints) inst.constraints whole h.meets },
)
  where
    whole : take j inst.constraints ≡ inst.constraints
    whole = take_all j inst.constraints (omega (arith, end))

-- so each row of the table is one
pub row_solves : (f : Operation) (lang : LanguageView) (inst : InstanceView) (j : ℕ) (v : TableView) (row : List ℕ) → j ≡ length inst.constraints → IsTableOfFirst f lang inst j v → IsRowAt v 0 row → IsSolution lang inst row
row_solves f lang inst j v row end is at =
    rw at.row_is ((meets_all lang inst j (row_in v 0 at.value) end).0 ((is.set (row_in v 0 at.value)).0
    (listed 0 at.value is.sound.view.some_places (rw (← is.sound.same_domain) at.there.below) (rw (← is.sound.same_domain) at.there.present))))

-- and where there is no row there is none
pub no_row_no_solution : (f : Operation) (lang : LanguageView) (inst : InstanceView) (j : ℕ) (v : TableView) → j ≡ length inst.constraints → IsTableOfFirst f lang inst j v → ((a : ℕ) → ¬ IsPresent v 0 a) → HasNoSolution lang inst
no_row_no_solution f lang inst j v end is none t solves = none (slice_index t 0) (record {
  below = value_below v.domain v.width t 0 tuple is.sound.view.some_places;
  present = rw (← is.sound.same_domain, is.natural.itself 0 is.sound.view.some_places) at ((is.sound.table.known 0 is.sound.view.some_places).present t in_t);
})
  where
    in_t : InTable f v t
    in_t = (is.set t).1 ((meets_all lang inst j t end).1 solves)

    tuple : IsTuple v.domain v.width t
    tuple = rw is.sound.same_domain ((set_preserved f v is.sound.operation is.sound.same_domain is.sound.view).tuples t in_t)

-- what follows where there is no value
pub none_then : {X : Type 0} (found : Option X) (P Q : Type 0) → IfNone found P → (P → Q) → IfNone found Q
none_then None P Q h f = f h
none_then (Some x) P Q h f = h
