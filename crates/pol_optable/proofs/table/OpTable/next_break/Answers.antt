use Rattle.std.proofs.Common.{◌≡◌, ◌-◌, ◌^◌, ◌<◌, ◌∙◌, length, arith}
use Rattle.std.proofs.lemmas.List.{length-set}
use Rattle.pol_base.specs.Tuples.{IsTuple, cell_of}
use Rattle.pol_base.proofs.CellLemmas.{cell_of-IsTuple}
use Rattle.pol_optable.proofs.BreakLemmas.{unbroken_before, found_least, unbroken_front, unbroken_all, broken_behind, front_rises}
use Rattle.pol_optable.proofs.table.OpTable.next_break.Goals as goal
use Rattle.pol_optable.proofs.table.OpTable.next_break.Goals.{then-not-advance-via-then-not-advance, then-not-advance-via-else-not-advance+then-end-numbers}

pub fronts-init : goal.fronts-init
fronts-init g c =
    let n = c.len-count.result in
    let count : n ≡ length c.args.rows.now.rows = rw (← c.relation.ensures.same) c.len-count.ensures.rows in
    let from : IsTuple n g.row.K c.args.from.now = rw count c.requires.from in
    record {
      tuple = from;
      behind = omega arith;
      before = λ qs q less. unbroken_before n g.row.K c.args.self.now c.args.rows.now c.args.from.now qs from q less;
    }

pub returns-in-Some-clause-least : goal.returns-in-Some-clause-least
returns-in-Some-clause-least g c =
    let n = c.len-count.result in
    let count : n ≡ length c.args.rows.now.rows = rw (← c.relation.ensures.same) c.len-count.ensures.rows in
    let from : IsTuple n g.row.K c.args.from.now = rw count c.requires.from in
    found_least n g.row.K c.args.self.now c.args.rows.now c.args.from.now c.fronts.numbers
    c.domain-table.ensures.table count c.fronts.invariant.tuple c.fronts.invariant.before
    c.in-Some.last from c.fronts.invariant.behind c.in-Some.ensures.from c.in-Some.ensures.broken c.in-Some.ensures.first

pub returns-then-not-advance-clause-none : goal.returns-then-not-advance-clause-none
returns-then-not-advance-clause-none g c = λ qs broken.
    let n = c.len-count.result in
    let count : n ≡ length c.args.rows.now.rows = rw (← c.relation.ensures.same) c.len-count.ensures.rows in
    elim c.then-not-advance.branch [
      | then-not-advance-via-then-not-advance w ↦
          absurd (unbroken_all n g.row.K c.args.self.now c.args.rows.now c.args.from.now c.fronts.numbers
          c.domain-table.ensures.table count c.fronts.invariant.tuple c.fronts.invariant.before c.in_default.ensures.none
          w.if-not-advance.ensures.last qs broken)
      | then-not-advance-via-else-not-advance+then-end-numbers w ↦
          let long : length c.advance.new.digits ≡ g.row.K = c.advance.auto.digits ∙ length-set c.fronts.numbers (g.row.K - 1) (n - 1) ∙ c.fronts.invariant.tuple.long in
          let next : IsTuple n g.row.K c.advance.new.digits = record { long = long; below = c.advance.ensures.below } in
          let behind = broken_behind n g.row.K c.args.self.now c.args.rows.now c.args.from.now c.fronts.numbers
          c.domain-table.ensures.table count c.fronts.invariant.tuple c.fronts.invariant.before c.in_default.ensures.none
          c.advance.new.digits qs next w.if-not-advance.ensures.next broken in
          omega (arith, behind, w.if-end-numbers.true)
    ]

pub fronts-smaller : goal.fronts-smaller
fronts-smaller g c =
    let n = c.len-count.result in
    let count : n ≡ length c.args.rows.now.rows = rw (← c.relation.ensures.same) c.len-count.ensures.rows in
    let rises = front_rises n g.row.K c.args.self.now c.args.rows.now c.args.from.now c.fronts.numbers
    c.domain-table.ensures.table count c.fronts.invariant.tuple c.fronts.invariant.before in
    let within = cell_of-IsTuple n g.row.K c.fronts.numbers c.fronts.invariant.tuple in
    let next = c.if-not-advance.ensures.next in
    let smaller : n ^ g.row.K - cell_of n c.advance.new.digits < n ^ g.row.K - cell_of n c.fronts.numbers =
    omega (arith, rises, within, next) in
    smaller

pub fronts-preserved : goal.fronts-preserved
fronts-preserved g c =
    let n = c.len-count.result in
    let count : n ≡ length c.args.rows.now.rows = rw (← c.relation.ensures.same) c.len-count.ensures.rows in
    let long : length c.advance.new.digits ≡ g.row.K = c.advance.auto.digits ∙ length-set c.fronts.numbers (g.row.K - 1) (n - 1) ∙ c.fronts.invariant.tuple.long in
    let rises = front_rises n g.row.K c.args.self.now c.args.rows.now c.args.from.now c.fronts.numbers
    c.domain-table.ensures.table count c.fronts.invariant.tuple c.fronts.invariant.before in
    let next = c.if-not-advance.ensures.next in
    record {
      tuple = record { long = long; below = c.advance.ensures.below };
      behind = omega (arith, c.fronts.invariant.behind, rises, next);
      before = λ qs q less. unbroken_front n g.row.K c.args.self.now c.args.rows.now c.args.from.now c.fronts.numbers
          c.domain-table.ensures.table count c.fronts.invariant.tuple c.fronts.invariant.before c.in_default.ensures.none
          qs q (rw (← next) less);
    }
