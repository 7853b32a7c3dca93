use Rattle.std.proofs.Common.{rules, ◌≡◌, ℕ, ◌≤◌, List, length, Contains, Result, Ok, Err, MatchResult, OnOk, OnErr, IfErr}
use Rattle.std.specs.Cmp.Lexicographic.{slice_cmp}
use Rattle.std.specs.Ordering.{nat_cmp}
use Rattle.std.proofs.lemmas.Fn.{always_returns_same}
use Rattle.std.specs.List.{insert}
use Rattle.pol_relation.specs.Relations.{with_row}
use Rattle.pol_relation.proofs.RelationLemmas.{AreLong-tuples, searched_rows, IsGapFor}
use Rattle.pol_base.proofs.LookupLemmas.{IsPlaceOf}
use Rattle.pol_relation.proofs.relation.Relation.search.Goals as goal

-- the closure compares a row with the tuple
answer : (c : goal.After-binary_search_by) → MatchResult c.binary_search_by.result (IsPlaceOf c.args.tuple.now c.args.self.now.rows) (IsGapFor c.args.tuple.now c.args.self.now.rows)
answer c =
    let tuple = rw (← c.self.view_is) at c.requires.tuple in
    let bound = rw c.deref.ensures.value at c.binary_search_by.ensures.bound in
    let position = c.binary_search_by.ensures.position (λ row. slice_cmp nat_cmp row c.args.tuple.now) (always_returns_same _ _ _ (λ a r f called. search rules)) in
    let answered = rw c.deref.ensures.value at position in
    rw (← c.self.view_is) (searched_rows c.self.inside.arity c.args.tuple.now c.self.inside.rows.items c.binary_search_by.result tuple.long (AreLong-tuples _ _ _ c.self.invariant.tuples) c.self.invariant.ascending bound answered)

-- the facts that the clauses state
record Told (t : List ℕ) (rows : List (List ℕ)) (found : Result ℕ ℕ) : Type 0 where
  member : OnOk found (Contains rows t)
  absent : OnErr found (Contains rows t → ⊥)
  within : IfErr found (λ place. place ≤ length rows)
  goes : IfErr found (λ place. with_row t rows ≡ insert rows place t)

told : (t : List ℕ) (rows : List (List ℕ)) (found : Result ℕ ℕ) → MatchResult found (IsPlaceOf t rows) (IsGapFor t rows) → Told t rows found
told t rows (Ok place) here = record { member = (place, here.inside, here.found); absent = tt; within = tt; goes = tt }
told t rows (Err place) gap = record { member = tt; absent = gap.new; within = gap.within; goes = gap.inserted }

pub returns : goal.returns
returns c =
    let told = told c.args.tuple.now c.args.self.now.rows c.binary_search_by.result (answer c) in
    record { found = told.member; absent = told.absent; within = told.within; goes = told.goes }
