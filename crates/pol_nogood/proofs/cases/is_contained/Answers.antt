use Rattle.std.proofs.Common.{◌≡◌, true, false, ◌++◌, ◌∙◌, sym}
use Rattle.std.specs.List.{list_any}
use Rattle.std.proofs.lemmas.Bool.{or_from, or_left, or_right}
use Rattle.std.proofs.lemmas.List.Folds.{list_any-append}
use Rattle.pol_nogood.specs.Nogoods.{Pair}
use Rattle.pol_nogood.specs.LogFaults.{same_pair}
use Rattle.pol_nogood.specs.Logs.{reading}
use Rattle.pol_nogood.proofs.PairWalks.{all_more, all_fails}
use Rattle.pol_nogood.proofs.cases.is_contained.Goals as goal
use Rattle.pol_nogood.proofs.cases.is_contained.Goals.{else-not-has_pair-via-then-not-has_pair+else-not-reads, else-not-has_pair-via-else-not-has_pair}

pub returns-then-not-reads : goal.returns-then-not-reads
returns-then-not-reads c =
    let p : Pair = record { variable = c.pair-variable.result.0; value = c.pair-variable.result.1 } in
    let read = reading c.args.scope.now c.args.row.now in
    let fails : list_any (λ q. same_pair p q) (c.args.nogood.now ++ read) ≡ false = list_any-append (λ q. same_pair p q) c.args.nogood.now read ∙ or_from _ _ (sym c.has_pair.ensures.member ∙ c.if-not-has_pair.true) (sym c.reads.ensures.read ∙ c.if-not-reads.true) in
    record { contained = sym (all_fails (λ p. list_any (λ q. same_pair p q) (c.args.nogood.now ++ read)) c.args.some.now c.loop-i.i p c.pair-variable.ensures.pair fails) }

pub loop-i-preserved : goal.loop-i-preserved
loop-i-preserved c =
    let p : Pair = record { variable = c.pair-variable.result.0; value = c.pair-variable.result.1 } in
    let read = reading c.args.scope.now c.args.row.now in
    let found : list_any (λ q. same_pair p q) (c.args.nogood.now ++ read) ≡ true = list_any-append (λ q. same_pair p q) c.args.nogood.now read ∙ elim c.else-not-has_pair.branch [
      | else-not-has_pair-via-then-not-has_pair+else-not-reads w ↦ or_right _ _ (sym w.reads.ensures.read ∙ w.if-not-reads.false)
      | else-not-has_pair-via-else-not-has_pair w ↦ or_left _ _ (sym c.has_pair.ensures.member ∙ w.if-not-has_pair.false)
    ] in
    all_more (λ p. list_any (λ q. same_pair p q) (c.args.nogood.now ++ read)) c.args.some.now c.loop-i.i p c.pair-variable.ensures.pair c.loop-i.invariant found
