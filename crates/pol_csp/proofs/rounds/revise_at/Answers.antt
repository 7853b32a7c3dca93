use Rattle.std.proofs.Common.{List, ℕ}
use Rattle.std.proofs.lemmas.Bool.{OnTrue_at, OnTrue_from, OnFalse_at, OnFalse_from}
use Rattle.std.specs.Prelude.{Contains}
use Rattle.pol_relation.specs.Relations.{rows_of}
use Rattle.pol_relation.specs.Instances.{read_at, no_constraint}
use Rattle.pol_csp.specs.Narrowing.{MeetsAll, Narrows, Rejects}
use Rattle.pol_csp.proofs.Narrowing.{narrows_for}
use Rattle.pol_csp.proofs.rounds.revise_at.Goals as goal

pub returns-clause-wiped : goal.returns-clause-wiped
returns-clause-wiped c =
    OnFalse_from c.revise.result (Rejects (MeetsAll c.args.index.now c.args.pool.now) c.args.masks.now)
    (λ no xs w met. OnFalse_at no c.revise.ensures.wiped xs w
    (rw (c.relation_of.ensures.relation, c.scope.ensures.scope) (met c.args.c no_constraint c.requires.known)))

pub returns-clause-narrows : goal.returns-clause-narrows
returns-clause-narrows c =
    let Reads : List ℕ → Type 0 = λ xs. Contains (rows_of c.args.index.now c.relation_of.result)
    (read_at xs c.scope.result.now) in
    OnTrue_from c.revise.result
    (Narrows (MeetsAll c.args.index.now c.args.pool.now) c.args.masks.now c.revise.new.masks)
    (λ yes. narrows_for Reads (MeetsAll c.args.index.now c.args.pool.now) c.args.masks.now c.revise.new.masks
    (λ xs w met. rw (c.relation_of.ensures.relation, c.scope.ensures.scope)
    (met c.args.c no_constraint c.requires.known))
    (OnTrue_at yes c.revise.ensures.narrows))
