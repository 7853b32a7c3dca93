use Rattle.std.proofs.Common.{◌++◌, [], codes, map, slice_index_or, ◌∙◌}
use Rattle.pol_text.proofs.TextLemmas.{grown_twice, puts_stopped, puts_line, GrowsByFront-whole, GrowsByFront-line}
use Rattle.pol_lang.proofs.writing.put_constraint.Goals as goal

pub returns-in_err-append-2 : goal.returns-in_err-append-2
returns-in_err-append-2 c = record { puts = puts_stopped _ _ _ _ c.from_residual-in_err-append-2.ensures.0 (GrowsByFront-whole _ _ (codes "constraint ") _ (c.in_err-append-2.ensures.err ∙ c.in_ok-append.ensures.ok)) }

pub returns-in_err-put_scope : goal.returns-in_err-put_scope
returns-in_err-put_scope c =
    let relation = c.args.relation.now in
    let names = map (λ x. slice_index_or c.args.inst.now.variables x []) c.args.scope.now in
    let begun = grown_twice _ _ _ (codes "constraint ") relation c.in_ok-append.ensures.ok c.in_ok-append-2.ensures.ok in
    record { puts = puts_stopped _ _ _ _ c.from_residual-in_err-put_scope.ensures.0 (GrowsByFront-line _ _ _ (codes "constraint " ++ relation) names begun c.in_err-put_scope.ensures.puts) }

pub returns : goal.returns
returns c =
    let relation = c.args.relation.now in
    let names = map (λ x. slice_index_or c.args.inst.now.variables x []) c.args.scope.now in
    let begun = grown_twice _ _ _ (codes "constraint ") relation c.in_ok-append.ensures.ok c.in_ok-append-2.ensures.ok in
    record { puts = puts_line _ _ _ _ _ (codes "constraint " ++ relation) names begun c.in_ok-put_scope.ensures.puts c.append-3.ensures.ok c.append-3.ensures.err }
