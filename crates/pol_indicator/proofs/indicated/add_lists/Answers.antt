use Rattle.std.proofs.Common.{◌≡◌, ℕ, ◌+◌, ◌<◌, List, [], ◌∷◌, ◌++◌, length, take, arith, sym, ap, refl, ◌∙◌, subst}
use Rattle.std.proofs.lemmas.List.{length-replicate, length_push}
use Rattle.std.proofs.lemmas.List.Elements.{All-replicate}
use Rattle.pol_base.specs.Tuples.{IsTuple, cell_of}
use Rattle.pol_base.proofs.CellLemmas.{cell_of-IsTuple}
use Rattle.pol_base.proofs.Enumeration.{first_list}
use Rattle.pol_relation.specs.Relations.{LanguageView, RelationView, relation_of, rows_of}
use Rattle.pol_relation.specs.Instances.{ConstraintView}
use Rattle.pol_optable.specs.Breaks.{rows_at}
use Rattle.pol_indicator.specs.Indicators.{constraint_of_rows, scope_of}
use Rattle.pol_indicator.proofs.ListedLemmas.{IsAdded, added_none, added_more, added_all, zero_power}
use Rattle.pol_indicator.proofs.indicated.add_lists.Goals as goal

pub returns-then-count-eq0-clause-counted : goal.returns-then-count-eq0-clause-counted
returns-then-count-eq0-clause-counted g c =
    let none : length (rows_of c.args.lang.now c.args.number) ≡ 0 =
    ap (λ r. length r.rows) (sym c.relation-r.ensures.relation) ∙ sym c.len-count.ensures.rows ∙ c.if-count-eq0.true in
    omega (arith, zero_power (length (rows_of c.args.lang.now c.args.number)) g.row.K none c.requires.some_arguments)

pub lists-init : goal.lists-init
lists-init g c =
    let count = length (rows_of c.args.lang.now c.args.number) in
    let some : 0 < count = (let e : c.len-count.result ≡ count = c.len-count.ensures.rows ∙ ap (λ r. length r.rows) c.relation-r.ensures.relation in omega (arith, e, c.if-count-eq0.false)) in
    record {
      tuple = record { long = length-replicate g.row.K 0; below = All-replicate (λ v. v < count) g.row.K 0 some };
      same = record { domain = refl; masks = refl; ties = refl };
      added = added_none c.args.lang.now g.row.K c.args.number _ c.args.problem.now.constraints (first_list count g.row.K) c.requires.indicated;
      counted = omega (arith, first_list count g.row.K);
    }

pub add-requires-clause-room : goal.add-requires-clause-room
add-requires-clause-room g c =
    let low = cell_of-IsTuple (length (rows_of c.args.lang.now c.args.number)) g.row.K c.lists.numbers c.lists.invariant.tuple in
    omega (arith, low, c.requires.room, c.lists.invariant.counted)

-- the constraint that was added is that of the rows
listed : (lang : LanguageView) (r : RelationView) (K number arity : ℕ) (numbers found : List ℕ) (old constraints new : List ConstraintView)
    → r ≡ relation_of lang number → r.domain ≡ lang.domain → arity ≡ r.arity
    → take r.arity found ≡ scope_of r.domain r.arity (rows_at r numbers)
    → new ≡ constraints ++ record { relation = number; scope = take arity found } ∷ []
    → IsTuple (length (rows_of lang number)) K numbers
    → IsAdded lang K number (cell_of (length (rows_of lang number)) numbers) old constraints
    → IsAdded lang K number (cell_of (length (rows_of lang number)) numbers + 1) old new
listed lang r K number arity numbers found old constraints new same domain is_arity scope is tuple added =
    let here : ◌≡◌ {A = ConstraintView} (record { relation = number; scope = take arity found }) (constraint_of_rows lang number (rows_at (relation_of lang number) numbers)) =
    let cells : take arity found ≡ scope_of lang.domain (relation_of lang number).arity (rows_at (relation_of lang number) numbers) =
    rw (is_arity, ← same, ← domain) scope in
    ap (λ s. record { relation = number; scope = s }) cells in
    subst (λ cs. IsAdded lang K number (cell_of (length (rows_of lang number)) numbers + 1) old cs) (sym (is ∙ ap (λ c. constraints ++ c ∷ []) here))
    (added_more lang K number numbers old constraints tuple added)

pub returns-then-not-advance-clause-indicated : goal.returns-then-not-advance-clause-indicated
returns-then-not-advance-clause-indicated g c =
    let count = length (rows_of c.args.lang.now c.args.number) in
    let same : c.len-count.result ≡ count = c.len-count.ensures.rows ∙ ap (λ r. length r.rows) c.relation-r.ensures.relation in
    let added = listed c.args.lang.now c.relation-r.result.now g.row.K c.args.number c.arity-arity.result c.lists.numbers c.scope_at-scope.result c.args.problem.now.constraints c.lists.problem.constraints c.add.new.self.constraints
    c.relation-r.ensures.relation c.relation-r.ensures.over.same_domain c.arity-arity.ensures.arity c.scope_at-scope.ensures.scope (ap (λ p. p.constraints) c.in_ok-add.ensures.ok) c.lists.invariant.tuple c.lists.invariant.added in
    let last = rw (same, c.lists.invariant.tuple.long) at c.if-not-advance.ensures.last in
    added_all c.args.lang.now g.row.K c.args.number (cell_of count c.lists.numbers + 1) c.args.problem.now.constraints c.add.new.self.constraints (omega (arith, last)) c.requires.indicated added

pub lists-smaller : goal.lists-smaller
lists-smaller g c =
    let count = length (rows_of c.args.lang.now c.args.number) in
    let same : c.len-count.result ≡ count = c.len-count.ensures.rows ∙ ap (λ r. length r.rows) c.relation-r.ensures.relation in
    let low = cell_of-IsTuple count g.row.K c.lists.numbers c.lists.invariant.tuple in
    let next = rw same at c.if-not-advance.ensures.next in
    omega (arith, low, next)

pub lists-preserved : goal.lists-preserved
lists-preserved g c =
    let count = length (rows_of c.args.lang.now c.args.number) in
    let same : c.len-count.result ≡ count = c.len-count.ensures.rows ∙ ap (λ r. length r.rows) c.relation-r.ensures.relation in
    let next = rw same at c.if-not-advance.ensures.next in
    let long = ap (λ p. length p.constraints) c.in_ok-add.ensures.ok ∙ length_push c.lists.problem.constraints _ in
    record {
      tuple = record { long = c.advance.auto.digits ∙ c.lists.invariant.tuple.long; below = rw same at c.advance.ensures.below };
      same = rw c.in_ok-add.ensures.ok (record { domain = c.lists.invariant.same.domain; masks = c.lists.invariant.same.masks; ties = c.lists.invariant.same.ties });
      added = rw next (listed c.args.lang.now c.relation-r.result.now g.row.K c.args.number c.arity-arity.result c.lists.numbers c.scope_at-scope.result c.args.problem.now.constraints c.lists.problem.constraints c.add.new.self.constraints
          c.relation-r.ensures.relation c.relation-r.ensures.over.same_domain c.arity-arity.ensures.arity c.scope_at-scope.ensures.scope (ap (λ p. p.constraints) c.in_ok-add.ensures.ok) c.lists.invariant.tuple c.lists.invariant.added);
      counted = omega (arith, next, long, c.lists.invariant.counted);
    }
