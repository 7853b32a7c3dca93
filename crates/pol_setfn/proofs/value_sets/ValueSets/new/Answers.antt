use Rattle.std.proofs.Common.{◌≡◌, ◌<◌, ◌≤◌, length, map, get_or, arith, sym, ◌∙◌}
use Rattle.std.proofs.lemmas.List.{take_more, take_all, length-map, get_or-map}
use Rattle.pol_relation.specs.Relations.{no_relation, no_named, relation_of}
use Rattle.pol_setfn.proofs.value_sets.ValueSets.new.Goals as goal

pub loop-i-preserved : goal.loop-i-preserved
loop-i-preserved c =
    let lang = c.args.lang.now in
    let inside : c.loop-i.i < length lang.relations = omega (arith, c.loop-i-test.true, c.len-i-end.ensures.relations) in
    let long = length-map lang.relations (λ named. named.relation) in
    let here : get_or (map (λ named. named.relation) lang.relations) c.loop-i.i no_relation ≡ relation_of lang c.loop-i.i = get_or-map (λ named. named.relation) lang.relations c.loop-i.i no_named no_relation inside in
    let more = take_more (map (λ named. named.relation) lang.relations) c.loop-i.i no_relation (rw long inside) in
    let set = c.in_ok-set.ensures.same ∙ c.relation.ensures.relation in
    c.in_ok-push.ensures.items ∙ rw (c.loop-i.invariant, set) (sym (rw here at more))

pub invariant_of-result : goal.invariant_of-result
invariant_of-result c =
    let lang = c.args.lang.now in
    let all : length (map (λ named. named.relation) lang.relations) ≤ c.loop-i.i =
    omega (arith, length-map lang.relations (λ named. named.relation), c.loop-i-test.false, c.len-i-end.ensures.relations) in
    c.loop-i.invariant ∙ take_all c.loop-i.i (map (λ named. named.relation) lang.relations) all
