-- A walk along the order: members that have more and more of the values of a word.
use Rattle.std.proofs.Common.{◌≡◌, ℕ, ◌<◌, ◌≤◌, ◌+◌, List, arith}
use Rattle.std.specs.Prelude.{slice_index}
use Rattle.pol_base.specs.Tuples.{IsTuple}
use Rattle.pol_optable.specs.Operations.{Operation}
use Rattle.pol_maltsev.specs.Tables.{SameRoot, step}
use Rattle.pol_maltsev.specs.Restrictions.{IsReading}
use Rattle.pol_maltsev.specs.Views.{TableView, InTable, IsSoundTable, row_in, root_in}
use Rattle.pol_maltsev.proofs.OrderLemmas.{front_frame, walk_first, walk_none, walk_step, walk_fails}
use Rattle.pol_maltsev.proofs.SetLemmas.{set_preserved}

-- a member has the first k values of the word
pub record IsWalking (f : Operation) (v : TableView) (word : List ℕ) (k : ℕ) (t : List ℕ) : Type 0 where
  pub tuple : IsTuple v.domain v.width t
  pub reads : IsReading (InTable f v) v.order word k t

-- fewer values are read too
reads_less : (f : Operation) (v : TableView) (word : List ℕ) (j k : ℕ) (t : List ℕ) → j ≤ k → IsReading (InTable f v) v.order word k t → IsReading (InTable f v) v.order word j t
reads_less f v word j k t low h = record { inside = h.inside; reads = λ i i_low. h.reads i (omega (arith, i_low, low)) }

pub member_tuple : (f : Operation) (v : TableView) (t : List ℕ) → IsSoundTable f v → InTable f v t → IsTuple v.domain v.width t
member_tuple f v t is in_t = rw is.same_domain ((set_preserved f v is.operation is.same_domain is.view).tuples t in_t)

-- the row of the first value
pub walk_begins : (f : Operation) (v : TableView) (word : List ℕ) → IsSoundTable f v → slice_index word 0 < v.domain → root_in v (slice_index v.order 0) (slice_index word 0) < v.domain →
    IsWalking f v word 1 (row_in v (slice_index v.order 0) (slice_index word 0))
walk_begins f v word is small there = from (walk_first f.domain (InTable f v) v.order word (row_in v (slice_index v.order 0)) (root_in v (slice_index v.order 0)) (is.table.known 0 is.view.some_places) (rw is.same_domain at small) (rw is.same_domain at there))
  where
    from : IsReading (InTable f v) v.order word 1 (row_in v (slice_index v.order 0) (slice_index word 0)) → IsWalking f v word 1 (row_in v (slice_index v.order 0) (slice_index word 0))
    from h = record { tuple = member_tuple f v (row_in v (slice_index v.order 0) (slice_index word 0)) is h.inside; reads = h }

-- which some member has, where one reads the word
pub walk_none_begins : (f : Operation) (v : TableView) (word : List ℕ) (q : ℕ) (t : List ℕ) → IsSoundTable f v → 1 ≤ q → root_in v (slice_index v.order 0) (slice_index word 0) ≡ v.domain → IsReading (InTable f v) v.order word q t → ⊥
walk_none_begins f v word q t is some none h =
    let there : root_in v (slice_index v.order 0) (slice_index word 0) < f.domain =
    walk_none f.domain (InTable f v) v.order word (row_in v (slice_index v.order 0)) (root_in v (slice_index v.order 0)) t (is.table.known 0 is.view.some_places) (reads_less f v word 1 q t some h) in
    omega (arith, there, none, is.same_domain)

-- one value more
pub walk_goes_on : (f : Operation) (v : TableView) (word : List ℕ) (k : ℕ) (t : List ℕ) → IsSoundTable f v → k < v.width → IsWalking f v word k t → slice_index word k < v.domain →
    SameRoot v.domain (root_in v (slice_index v.order k)) (slice_index t (slice_index v.order k)) (slice_index word k) →
    IsWalking f v word (k + 1) (step f v.width (slice_index v.order k) (row_in v (slice_index v.order k)) t (slice_index word k))
walk_goes_on f v word k t is low h small same =
    from (walk_step f v.width k (InTable f v) v.order word (row_in v (slice_index v.order k)) (root_in v (slice_index v.order k)) t
    (front_frame f v.width (InTable f v) v.order k is.maltsev (set_preserved f v is.operation is.same_domain is.view) is.table.order (omega (arith, low)))
    (is.table.order.below k low) (is.table.known k low) h.reads (rw is.same_domain at small) (rw is.same_domain at same))
  where
    from : IsReading (InTable f v) v.order word (k + 1) (step f v.width (slice_index v.order k) (row_in v (slice_index v.order k)) t (slice_index word k)) →
        IsWalking f v word (k + 1) (step f v.width (slice_index v.order k) (row_in v (slice_index v.order k)) t (slice_index word k))
    from g = record { tuple = member_tuple f v (step f v.width (slice_index v.order k) (row_in v (slice_index v.order k)) t (slice_index word k)) is g.inside; reads = g }

-- which stands with the old one, where a member reads the word
pub walk_stops : (f : Operation) (v : TableView) (word : List ℕ) (k q : ℕ) (t u : List ℕ) → IsSoundTable f v → k < v.width → k < q → IsWalking f v word k t →
    ¬ SameRoot v.domain (root_in v (slice_index v.order k)) (slice_index t (slice_index v.order k)) (slice_index word k) → IsReading (InTable f v) v.order word q u → ⊥
walk_stops f v word k q t u is low within h none g =
    none (rw is.same_domain (walk_fails f.domain k (InTable f v) v.order word (row_in v (slice_index v.order k)) (root_in v (slice_index v.order k)) t u (is.table.known k low) h.reads
    (reads_less f v word (k + 1) q u (omega (arith, within)) g)))
