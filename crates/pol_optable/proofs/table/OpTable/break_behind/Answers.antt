use Rattle.std.proofs.Common.{◌≡◌, ℕ, [], ◌<◌, ◌≤◌, ◌+◌, ◌-◌, ◌⊎◌, inl, inr, length, take, get_or, sym, ◌∙◌, arith}
use Rattle.std.proofs.lemmas.Bool.{cases_eq, true≢false}
use Rattle.pol_base.proofs.CellLemmas.{cell_of-IsTuple}
use Rattle.pol_relation.specs.Relations.{IsRelation}
use Rattle.pol_relation.proofs.RelationLemmas.{few_cells}
use Rattle.pol_optable.specs.Tables.{IsOpTable}
use Rattle.pol_optable.specs.Breaks.{IsBroken, TellImages, AreImagesTuples, image_behind, with_last}
use Rattle.pol_optable.proofs.HalfLemmas.{halves_below, entries_sum}
use Rattle.pol_optable.proofs.BreakLemmas.{tested, with_last-IsTuple, last_below}
use Rattle.pol_optable.proofs.table.OpTable.break_behind.Goals as goal

pub bounds-front_cells-front : goal.bounds-front_cells-front
bounds-front_cells-front g c =
    let r = c.args.rows.now in
    let is : IsRelation r = c.relation-relation.ensures.relation in
    let inside : c.loop-last.last < length r.rows =
    rw (← c.relation-relation.ensures.same) (omega (arith, c.loop-last-test.true, c.len-last-end.ensures.rows)) in
    rw c.front.ensures.front
    (halves_below r.domain r.arity (get_or r.rows c.loop-last.last []) is.domain_is.few is.few_places
    (is.tuples c.loop-last.last [] inside)).0

pub bounds-back_cells-back : goal.bounds-back_cells-back
bounds-back_cells-back g c =
    let r = c.args.rows.now in
    let is : IsRelation r = c.relation-relation.ensures.relation in
    let inside : c.loop-last.last < length r.rows =
    rw (← c.relation-relation.ensures.same) (omega (arith, c.loop-last-test.true, c.len-last-end.ensures.rows)) in
    rw c.back.ensures.back
    (halves_below r.domain r.arity (get_or r.rows c.loop-last.last []) is.domain_is.few is.few_places
    (is.tuples c.loop-last.last [] inside)).1

pub overflow_add-front_cell : goal.overflow_add-front_cell
overflow_add-front_cell g c =
    let f = c.args.self.now in
    let r = c.args.rows.now in
    let same = c.relation-relation.ensures.same in
    let is : IsRelation r = c.relation-relation.ensures.relation in
    let last = c.loop-last.last in
    let inside : last < length r.rows = rw (← same) (omega (arith, c.loop-last-test.true, c.len-last-end.ensures.rows)) in
    let front = take (g.row.K - 1) c.args.numbers.now in
    let images : TellImages f r front c.image_cells.new.front_cells c.image_cells.new.back_cells = rw same at c.image_cells.ensures.images in
    let tuples : AreImagesTuples f r front = rw same at c.image_cells.ensures.tuples in
    let is_cell = entries_sum f r front c.image_cells.new.front_cells c.image_cells.new.back_cells last c.front.result c.back.result inside
    c.front.ensures.front c.back.ensures.back images in
    let within = cell_of-IsTuple r.domain r.arity (image_behind f r front last) (tuples last inside) in
    let few = few_cells r.domain r.arity is.domain_is.few is.few_places in
    omega (arith, within, few, is_cell)

pub has_cell-requires : goal.has_cell-requires
has_cell-requires g c =
    let f = c.args.self.now in
    let r = c.args.rows.now in
    let same = c.relation-relation.ensures.same in
    let last = c.loop-last.last in
    let inside : last < length r.rows = rw (← same) (omega (arith, c.loop-last-test.true, c.len-last-end.ensures.rows)) in
    let front = take (g.row.K - 1) c.args.numbers.now in
    let images : TellImages f r front c.image_cells.new.front_cells c.image_cells.new.back_cells = rw same at c.image_cells.ensures.images in
    let tuples : AreImagesTuples f r front = rw same at c.image_cells.ensures.tuples in
    let is_cell = entries_sum f r front c.image_cells.new.front_cells c.image_cells.new.back_cells last c.front.result c.back.result inside
    c.front.ensures.front c.back.ensures.back images in
    record { known = rw is_cell (cell_of-IsTuple r.domain r.arity (image_behind f r front last) (tuples last inside)) }

pub returns-then-not-has_cell-clause-broken : goal.returns-then-not-has_cell-clause-broken
returns-then-not-has_cell-clause-broken g c =
    let f = c.args.self.now in
    let r = c.args.rows.now in
    let table : IsOpTable g.row.K f = c.domain-table.ensures.table in
    let same = c.relation-relation.ensures.same in
    let last = c.loop-last.last in
    let inside : last < length r.rows = rw (← same) (omega (arith, c.loop-last-test.true, c.len-last-end.ensures.rows)) in
    let front = take (g.row.K - 1) c.args.numbers.now in
    let images : TellImages f r front c.image_cells.new.front_cells c.image_cells.new.back_cells = rw same at c.image_cells.ensures.images in
    let tuples : AreImagesTuples f r front = rw same at c.image_cells.ensures.tuples in
    let cell = get_or c.image_cells.new.front_cells c.front.result 0 + get_or c.image_cells.new.back_cells c.back.result 0 in
    let is_cell = entries_sum f r front c.image_cells.new.front_cells c.image_cells.new.back_cells last c.front.result c.back.result inside
    c.front.ensures.front c.back.ensures.back images in
    let told = tested g.row.K f r c.args.numbers.now last cell c.has_cell.result c.requires.numbers.long (tuples last inside) is_cell
    c.has_cell.ensures.row in
    record {
      are_rows = rw table.arity_is (with_last-IsTuple (length r.rows) g.row.K c.args.numbers.now last
          (rw table.arity_is at table.is_operation.some_arguments) c.requires.numbers inside);
      no_row = λ member. true≢false (sym (told.1 member) ∙ c.if-not-has_cell.true);
    }

pub loop-last-preserved : goal.loop-last-preserved
loop-last-preserved g c = λ k from below broken. by k from below broken (cases_eq k c.loop-last.last)
  where
    by : (k : ℕ)
        → get_or c.args.numbers.now (g.row.K - 1) 0 ≤ k
        → k < c.loop-last.last + 1
        → IsBroken c.args.self.now c.args.rows.now (with_last c.args.numbers.now k)
        → (k ≡ c.loop-last.last) ⊎ (k ≡ c.loop-last.last → ⊥)
        → ⊥
    by k from below broken (inl here) =
        let f = c.args.self.now in
        let r = c.args.rows.now in
        let same = c.relation-relation.ensures.same in
        let last = c.loop-last.last in
        let inside : last < length r.rows = rw (← same) (omega (arith, c.loop-last-test.true, c.len-last-end.ensures.rows)) in
        let front = take (g.row.K - 1) c.args.numbers.now in
        let images : TellImages f r front c.image_cells.new.front_cells c.image_cells.new.back_cells = rw same at c.image_cells.ensures.images in
        let tuples : AreImagesTuples f r front = rw same at c.image_cells.ensures.tuples in
        let cell = get_or c.image_cells.new.front_cells c.front.result 0 + get_or c.image_cells.new.back_cells c.back.result 0 in
        let is_cell = entries_sum f r front c.image_cells.new.front_cells c.image_cells.new.back_cells last c.front.result c.back.result inside
        c.front.ensures.front c.back.ensures.back images in
        let told = tested g.row.K f r c.args.numbers.now last cell c.has_cell.result c.requires.numbers.long (tuples last inside) is_cell
        c.has_cell.ensures.row in
        let now : IsBroken f r (with_last c.args.numbers.now last) = rw here at broken in
        now.no_row (told.0 c.if-not-has_cell.false)
    by k from below broken (inr apart) = c.loop-last.invariant k from (omega (arith, below, apart)) broken

pub returns-clause-none : goal.returns-clause-none
returns-clause-none g c = λ last from broken.
    let below = last_below (length c.args.rows.now.rows) c.args.self.now.arity c.args.numbers.now last broken.are_rows in
    let end : last < c.len-last-end.result = rw (c.len-last-end.ensures.rows, c.relation-relation.ensures.same) below in
    c.loop-last.invariant last from (omega (arith, end)) broken
