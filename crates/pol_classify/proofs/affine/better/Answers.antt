use Rattle.std.proofs.Common.{◌+◌, refl, sym}
use Rattle.std.proofs.lemmas.Bool.{true≢false}
use Rattle.pol_classify.specs.AffineTables.{IsTableBelow}
use Rattle.pol_classify.proofs.LeastLemmas.{least_kept, least_stays, least_new}
use Rattle.pol_classify.proofs.AffineLemmas.{table_more, one_length, none_new, only_new, not_preserved, is_new}
use Rattle.pol_classify.proofs.affine.better.Goals as goal

-- the numbers are no labelling
pub returns-in-None-clause-least : goal.returns-in-None-clause-least
returns-in-None-clause-least c =
    let lang = c.args.lang.now in
    let is = c.domain.ensures.language in
    let number = c.args.number in
    let nothing = rw (c.in-None.is, c.domain.ensures.domain) at c.in_ok-table.ensures.none in
    least_kept (IsTableBelow lang number) (IsTableBelow lang (number + 1)) (table_more lang is number) _
    (none_new lang is number nothing) c.requires.least

-- their table does not come before the best one
pub returns-then-not-is_ahead-clause-least : goal.returns-then-not-is_ahead-clause-least
returns-then-not-is_ahead-clause-least c =
    let lang = c.args.lang.now in
    let is = c.domain.ensures.language in
    let number = c.args.number in
    let made = rw (c.in-Some.is, c.domain.ensures.domain) at c.in_ok-table.ensures.made in
    least_stays (IsTableBelow lang number) (IsTableBelow lang (number + 1)) (table_more lang is number)
    c.in-Some.table.cells (only_new lang is number c.in-Some.table made) _
    (λ ahead. true≢false (sym (c.if-not-is_ahead.ensures.ahead.1 ahead))) c.requires.least

-- their table breaks a relation
pub returns-then-not-preserves_all-clause-least : goal.returns-then-not-preserves_all-clause-least
returns-then-not-preserves_all-clause-least c =
    let lang = c.args.lang.now in
    let is = c.domain.ensures.language in
    let number = c.args.number in
    let made = rw (c.in-Some.is, c.domain.ensures.domain) at c.in_ok-table.ensures.made in
    least_kept (IsTableBelow lang number) (IsTableBelow lang (number + 1)) (table_more lang is number) _
    (not_preserved lang is number c.in-Some.table made
    (λ preserves. true≢false (sym (c.if-not-preserves_all.ensures.preserves.1 preserves)))) c.requires.least

-- their table is the best one
pub returns-clause-least : goal.returns-clause-least
returns-clause-least c =
    let lang = c.args.lang.now in
    let is = c.domain.ensures.language in
    let number = c.args.number in
    let made = rw (c.in-Some.is, c.domain.ensures.domain) at c.in_ok-table.ensures.made in
    let here = is_new lang is number c.in-Some.table made is.domain_is.some c.requires.known
    (c.if-not-preserves_all.ensures.preserves.0 refl) in
    least_new (IsTableBelow lang number) (IsTableBelow lang (number + 1)) (table_more lang is number)
    c.in-Some.table.cells (only_new lang is number c.in-Some.table made) _ (one_length lang is number) here
    (c.if-not-is_ahead.ensures.ahead.0 refl) c.requires.least
