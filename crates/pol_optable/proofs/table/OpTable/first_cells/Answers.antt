use Rattle.std.proofs.Common.{◌≡◌, ℕ, ◌+◌, ◌*◌, ◌<◌, get_or, replicate, length, ap, ◌∙◌, arith}
use Rattle.std.proofs.lemmas.List.{get_or-replicate}
use Rattle.pol_base.proofs.CellLemmas.{power_monotone, power_some}
use Rattle.pol_relation.specs.Relations.{IsRelation}
use Rattle.pol_optable.specs.Tables.{IsOpTable}
use Rattle.pol_optable.proofs.ImageLemmas.{digit_most, first_more, first_room}
use Rattle.pol_optable.proofs.table.OpTable.first_cells.Goals as goal

pub loop-number-init : goal.loop-number-init
loop-number-init g c =
    let is : IsRelation c.args.relation.now = c.arity-arity.ensures.relation in
    let none : ℕ = 0 in
    let zero : (k : ℕ) → k < c.args.relation.now.arity → get_or (replicate 6 none) k none ≡ none =
    λ k inside. get_or-replicate 6 k none none (omega (arith, inside, is.few_places)) in
    let table : IsOpTable g.row.K c.args.self.now = c.domain.ensures.table in
    let nothing : 0 ≡ 0 * c.args.self.now.domain = omega arith in
    let room = digit_most c.args.self.now.domain 0 0 (power_some c.args.self.now.domain 0 table.domain_is.some) in
    record {
      long = omega arith;
      cells = λ k inside. zero k inside ∙ nothing;
      room = λ k inside. omega (arith, zero k inside, room);
    }

pub read_row-requires-clause-fits : goal.read_row-requires-clause-fits
read_row-requires-clause-fits g c = λ place inside.
    let table : IsOpTable g.row.K c.args.self.now = c.domain.ensures.table in
    let d = c.args.self.now.domain in
    let size : c.from-size.result ≡ d = cc in
    let i = c.loop-number.number-index in
    let known : place < c.args.relation.now.arity = omega (arith, inside, c.row.ensures.tuple.long) in
    let value : get_or c.row.result.now place 0 < d = rw c.requires.domain (c.row.ensures.tuple.below place 0 inside) in
    let room = first_room d i (get_or c.loop-number.firsts place 0) (get_or c.row.result.now place 0) (c.loop-number.invariant.room place known) value in
    let most = power_monotone d (i + 1 + 1) g.row.K table.domain_is.some (omega (arith, c.loop-number-test.true, c.requires.long)) in
    rw size (omega (arith, room, most, table.few_cells))

pub loop-number-preserved : goal.loop-number-preserved
loop-number-preserved g c =
    let d = c.args.self.now.domain in
    let size : c.from-size.result ≡ d = cc in
    let i = c.loop-number.number-index in
    let row = c.row.result.now in
    let inside : (k : ℕ) → k < c.args.relation.now.arity → k < length row = λ k known. omega (arith, known, c.row.ensures.tuple.long) in
    let read : (k : ℕ) → k < c.args.relation.now.arity
    → get_or c.read_row.new.firsts k 0 ≡ (get_or c.loop-number.firsts k 0 + get_or row k 0) * d =
    λ k known. rw (← size) (c.read_row.ensures.read k (inside k known)) in
    record {
      long = c.read_row.ensures.long;
      cells = λ k known. read k known
          ∙ ap (λ t. (get_or c.loop-number.firsts k 0 + get_or t k 0) * d) c.row.ensures.row
          ∙ first_more d c.args.relation.now c.args.front.now k i (get_or c.loop-number.firsts k 0) c.loop-number-test.true
          (c.loop-number.invariant.cells k known);
      room = λ k known. rw (read k known) (first_room d i (get_or c.loop-number.firsts k 0) (get_or row k 0)
          (c.loop-number.invariant.room k known) (rw c.requires.domain (c.row.ensures.tuple.below k 0 (inside k known))));
    }
