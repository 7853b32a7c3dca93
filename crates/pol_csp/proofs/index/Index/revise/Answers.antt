use Rattle.std.proofs.Common.{◌≡◌, ◌<◌, ◌∙◌, sym, subst, get_or, length, None, Some, arith}
use Rattle.std.specs.Prelude.{Contains}
use Rattle.std.specs.Bool.{OnTrue, OnFalse}
use Rattle.std.proofs.lemmas.List.{get_or_read}
use Rattle.pol_relation.specs.Relations.{RelationView}
use Rattle.pol_relation.specs.Instances.{read_at}
use Rattle.pol_csp.specs.Narrowing.{Narrows, Rejects}
use Rattle.pol_csp.proofs.Revising.{indexed}
use Rattle.pol_csp.proofs.index.Index.revise.Goals as goal

pub revise-requires-clause-long : goal.revise-requires-clause-long
revise-requires-clause-long c =
    let items = c.self.inside.words.items in
    let number = c.args.number in
    let inside : number < length items = omega (arith, c.if-number-len.true, c.len.ensures, c.self.inside.words.ok) in
    let here : get_or items number None ≡ Some c.in-Some.words =
    sym (get_or_read items number c.index.result.now inside c.index.ensures None) ∙ c.in-Some.is in
    let same =
    indexed c.self.inside.lang.now c.args.self.now items number c.in-Some.words c.self.invariant c.self.view_is
    inside here in
    rw same c.requires.long

pub returns-in-Some-clause-narrows : goal.returns-in-Some-clause-narrows
returns-in-Some-clause-narrows c =
    let items = c.self.inside.words.items in
    let number = c.args.number in
    let inside : number < length items = omega (arith, c.if-number-len.true, c.len.ensures, c.self.inside.words.ok) in
    let here : get_or items number None ≡ Some c.in-Some.words =
    sym (get_or_read items number c.index.result.now inside c.index.ensures None) ∙ c.in-Some.is in
    let same =
    indexed c.self.inside.lang.now c.args.self.now items number c.in-Some.words c.self.invariant c.self.view_is
    inside here in
    let scope = c.args.scope.now in
    let old = c.args.masks.now in
    subst (λ (r : RelationView). OnTrue c.revise.result
    (Narrows (λ xs. Contains r.rows (read_at xs scope)) old c.revise.new.masks))
    same c.revise.ensures.narrows

pub returns-in-Some-clause-wiped : goal.returns-in-Some-clause-wiped
returns-in-Some-clause-wiped c =
    let items = c.self.inside.words.items in
    let number = c.args.number in
    let inside : number < length items = omega (arith, c.if-number-len.true, c.len.ensures, c.self.inside.words.ok) in
    let here : get_or items number None ≡ Some c.in-Some.words =
    sym (get_or_read items number c.index.result.now inside c.index.ensures None) ∙ c.in-Some.is in
    let same =
    indexed c.self.inside.lang.now c.args.self.now items number c.in-Some.words c.self.invariant c.self.view_is
    inside here in
    let scope = c.args.scope.now in
    let old = c.args.masks.now in
    subst (λ (r : RelationView). OnFalse c.revise.result (Rejects (λ xs. Contains r.rows (read_at xs scope)) old))
    same c.revise.ensures.wiped
