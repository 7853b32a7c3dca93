use Rattle.std.proofs.Common.{◌≡◌, suc, ◌-◌, ◌<◌, ◌≤◌, length, true≢false, sym, ap, subst, ◌∙◌, arith}
use Rattle.std.proofs.lemmas.List.{length-map}
use Rattle.std.proofs.lemmas.Result.{on_ok_weaker, on_err_weaker}
use Rattle.indexmap.specs.IndexMap.{set_value_at}
use Rattle.indexmap.proofs.CallerLemmas.{index_map_len-with_value_at}
use Rattle.pol_relation.specs.Relations.{NamedRelation}
use Rattle.pol_relation.specs.Named.{named_entry, named_relations}
use Rattle.pol_relation.proofs.NameLemmas.{last_of-named, named_relations-last, named_relations-kept, IsLanguage-last}
use Rattle.pol_relation.proofs.language.Language.insert.Goals as goal
use Rattle.pol_relation.proofs.language.Language.insert.Goals.{in-Some, in-None}

pub insert-requires : goal.insert-requires
insert-requires c =
    let last = last_of-named c.self.inside.domain c.self.inside.relations.entries c.in-Some.relation.now (sym c.in-Some.ensures.value) in
    let tuple = rw (← c.self.view_is, last) at c.requires.tuple in
    record { tuple = tuple }

-- there is a last relation
some : (c : goal.Joined-last_mut) → 0 < length c.self.inside.relations.entries
some c =
    let named = rw (← c.self.view_is) at c.requires.some in
    omega (arith, named, length-map {B = NamedRelation} c.self.inside.relations.entries (λ e. named_entry e))

pub invariant_of-self : goal.invariant_of-self
invariant_of-self c = elim c.match-last_mut.branch [
  | in-Some w ↦
      let m = c.self.inside.relations in
      let last = last_of-named c.self.inside.domain m.entries w.in-Some.relation.now (sym w.in-Some.ensures.value) in
      let tuple = rw (← c.self.view_is, last) at c.requires.tuple in
      rw w.self-inside-is (
        IsLanguage-last c.self.inside.domain c.args.tuple.now m.entries (length m.entries - 1) w.in-Some.relation.now w.insert.new.self w.insert.result
            (let more = some c in omega arith) (sym w.in-Some.ensures.value) w.insert.ensures.ok w.insert.ensures.err tuple c.self.invariant.0,
        subst (λ size. size ≤ 4096) (sym (index_map_len-with_value_at m (length m.entries - 1) w.insert.new.self)) c.self.invariant.1,
      )
  | in-None w ↦ absurd (true≢false (sym (w.in-None.ensures.found.1 (some c))))
]

pub returns-clause-ok : goal.returns-clause-ok
returns-clause-ok c = elim c.match-last_mut.branch [
  | in-Some w ↦
      let m = c.self.inside.relations in
      let long : length m.entries ≡ suc (length m.entries - 1) = let more = some c in omega arith in
      rw (w.result-is, w.self-inside-is, ← c.self.view_is)
      (on_ok_weaker w.insert.result (λ took. λ i. record {
        domain = c.self.inside.domain;
        relations = (ap (λ r. named_relations (set_value_at m.entries (length m.entries - 1) r)) took ∙ named_relations-last c.args.tuple.now m.entries (length m.entries - 1) w.in-Some.relation.now long (sym w.in-Some.ensures.value)) i;
      }) w.insert.ensures.ok)
  | in-None w ↦ absurd (true≢false (sym (w.in-None.ensures.found.1 (some c))))
]

pub returns-clause-err : goal.returns-clause-err
returns-clause-err c = elim c.match-last_mut.branch [
  | in-Some w ↦
      let m = c.self.inside.relations in
      rw (w.result-is, w.self-inside-is, ← c.self.view_is)
      (on_err_weaker w.insert.result (λ kept. λ i. record {
        domain = c.self.inside.domain;
        relations = (ap (λ r. named_relations (set_value_at m.entries (length m.entries - 1) r)) kept ∙ named_relations-kept m.entries (length m.entries - 1) w.in-Some.relation.now (sym w.in-Some.ensures.value)) i;
      }) w.insert.ensures.err)
  | in-None w ↦ absurd (true≢false (sym (w.in-None.ensures.found.1 (some c))))
]
