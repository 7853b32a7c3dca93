use Rattle.std.proofs.Common.{rules, ◌≡◌, ◌↔◌, replicate, refl}
use Rattle.std.specs.Prelude.{IsNone}
use Rattle.std.proofs.lemmas.List.Elements.{All-replicate}
use Rattle.pol_optable.specs.SetFunctions.{PreservesSets}
use Rattle.pol_optable.proofs.SeekLemmas.{none_preserves_sets}
use Rattle.pol_optable.proofs.set_fn.SetFn.preserves_many.Goals as goal

pub in_room-rows-requires-clause-blank : goal.in_room-rows-requires-clause-blank
in_room-rows-requires-clause-blank c = All-replicate (λ word. word ≡ 0) 3690 0 refl

pub returns : goal.returns
returns c =
    let told : IsNone c.next_break.result ↔ PreservesSets c.args.self.now c.args.r.now =
    none_preserves_sets c.args.self.now c.args.r.now c.next_break.result (replicate 6 0)
    (All-replicate (λ z. z ≡ 0) 6 0 refl)
    (rw c.in_room-rows.ensures.same at c.next_break.ensures.broken)
    (rw c.in_room-rows.ensures.same at c.next_break.ensures.none) in
    search rules
