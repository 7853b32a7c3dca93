use Rattle.std.proofs.Common.{List, ℕ, get_or}
use Rattle.std.specs.Prelude.{Contains}
use Rattle.pol_relation.specs.Instances.{read_at}
use Rattle.pol_csp.specs.Words.{IsReadBy}
use Rattle.pol_csp.proofs.Narrowing.{narrows_step, rejects_step, none_set}
use Rattle.pol_csp.proofs.Wording.{alive_same, alive_row, read_alive}
use Rattle.pol_csp.proofs.row_words.RowWords.revise.Goals as goal

pub returns-then-word-eq0-clause-wiped : goal.returns-then-word-eq0-clause-wiped
returns-then-word-eq0-clause-wiped c xs w held =
    let alive = alive_same c.self.inside.relation.now c.args.self.now c.args.masks.now c.args.scope.now
    c.alive-word.result c.self.view_is c.alive-word.ensures.alive in
    none_set c.alive-word.result _ c.if-word-eq0.true
    (alive_row c.args.self.now.rows c.args.masks.now c.args.scope.now xs c.alive-word.result c.requires.cells alive w
    held)

pub returns-then-not-keep-clause-wiped : goal.returns-then-not-keep-clause-wiped
returns-then-not-keep-clause-wiped c =
    let scope = c.args.scope.now in
    let rows = c.args.self.now.rows in
    let word = c.alive-word.result in
    let place = c.loop-place.place in
    let alive = alive_same c.self.inside.relation.now c.args.self.now c.args.masks.now c.args.scope.now
    c.alive-word.result c.self.view_is c.alive-word.ensures.alive in
    let Reads : List ℕ → Type 0 = λ xs. Contains rows (read_at xs scope) in
    rejects_step Reads (IsReadBy rows word place (get_or scope place 0)) c.args.masks.now c.loop-place.masks
    c.loop-place.invariant
    (λ xs w held. read_alive rows c.args.masks.now scope xs word c.requires.cells alive
    (c.loop-place.invariant.inside xs w) held place c.loop-place-test.true)
    c.if-not-keep.ensures.wiped

pub loop-place-preserved : goal.loop-place-preserved
loop-place-preserved c =
    let scope = c.args.scope.now in
    let rows = c.args.self.now.rows in
    let word = c.alive-word.result in
    let place = c.loop-place.place in
    let alive = alive_same c.self.inside.relation.now c.args.self.now c.args.masks.now c.args.scope.now
    c.alive-word.result c.self.view_is c.alive-word.ensures.alive in
    let Reads : List ℕ → Type 0 = λ xs. Contains rows (read_at xs scope) in
    narrows_step Reads (IsReadBy rows word place (get_or scope place 0)) c.args.masks.now c.loop-place.masks
    c.keep.new.masks c.loop-place.invariant
    (λ xs w held. read_alive rows c.args.masks.now scope xs word c.requires.cells alive
    (c.loop-place.invariant.inside xs w) held place c.loop-place-test.true)
    c.if-not-keep.ensures.narrows

pub keep-requires-clause-masks : goal.keep-requires-clause-masks
keep-requires-clause-masks c = c.loop-place.invariant.masks 5 c.requires.masks
