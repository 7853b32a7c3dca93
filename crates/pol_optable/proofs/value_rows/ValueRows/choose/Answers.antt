use Rattle.std.proofs.Common.{◌≡◌, ℕ, ◌-◌, ◌↔◌, List, ◌++◌, length, take, get_or, sym, subst, arith}
use Rattle.std.specs.Prelude.{IsBitSet}
use Rattle.std.proofs.lemmas.Bool.{OnTrue_from, OnFalse_from}
use Rattle.std.proofs.lemmas.List.{length-take-le}
use Rattle.pol_optable.specs.SetBreaks.{IsProjection}
use Rattle.pol_optable.specs.ValueWords.{AreChosen, HasNumber, HasValueOf, IsReadAt}
use Rattle.pol_optable.proofs.BreakLemmas.{with_last-itself}
use Rattle.pol_optable.proofs.ChosenLemmas.{chosen_more, unread_no_projection, closed_no_projection}
use Rattle.pol_optable.proofs.ValueWordLemmas.{refuted}
use Rattle.pol_optable.proofs.value_rows.ValueRows.choose.Goals as goal

front_long : (masks : List ℕ) → length (take (length masks - 1) masks) ≡ length masks - 1
front_long masks = length-take-le (length masks - 1) masks (omega arith)

pub returns-then-not-lies_in-clause-none : goal.returns-then-not-lies_in-clause-none
returns-then-not-lies_in-clause-none c = λ behind p.
    let masks = c.args.masks.now in
    let mask = get_or masks (length masks - 1) 0 in
    let front = take (length masks - 1) masks in
    let long : length front ≡ length masks - 1 = front_long masks in
    closed_no_projection c.args.self.now front mask c.args.from.now
    (omega (arith, long, c.requires.some, c.requires.places)) c.requires.chosen
    (λ all. refuted c.lies_in.result c.if-not-lies_in.true
    (c.lies_in.ensures.within.1 (λ value set. (c.requires.values value).1 (rw long at (all value set)))))
    behind (subst (λ ms. IsProjection c.args.self.now (ms ++ behind)) (sym (with_last-itself masks c.requires.some)) p)

pub returns-clause-none : goal.returns-clause-none
returns-clause-none c =
    let masks = c.args.masks.now in
    let r = c.args.self.now in
    let mask = get_or masks (length masks - 1) 0 in
    let front = take (length masks - 1) masks in
    let words = c.args.from.now in
    let below = c.narrow.new.to in
    let long : length front ≡ length masks - 1 = front_long masks in
    let narrowed : (i : ℕ) → HasNumber below i ↔ (HasNumber words i × HasValueOf r (length front) mask i) =
    rw long c.narrow.ensures.rows in
    OnFalse_from c.read_all.result ((behind : List ℕ) → IsProjection r (masks ++ behind) → ⊥) (λ no behind p.
    unread_no_projection r front mask words below
    (omega (arith, long, c.requires.some, c.requires.places)) c.requires.chosen narrowed
    (λ all. refuted c.read_all.result no (c.read_all.ensures.all.1 all))
    behind (subst (λ ms. IsProjection r (ms ++ behind)) (sym (with_last-itself masks c.requires.some)) p))

pub returns-clause-chosen : goal.returns-clause-chosen
returns-clause-chosen c =
    let masks = c.args.masks.now in
    let r = c.args.self.now in
    let mask = get_or masks (length masks - 1) 0 in
    let front = take (length masks - 1) masks in
    let words = c.args.from.now in
    let below = c.narrow.new.to in
    let long : length front ≡ length masks - 1 = front_long masks in
    let narrowed : (i : ℕ) → HasNumber below i ↔ (HasNumber words i × HasValueOf r (length front) mask i) =
    rw long c.narrow.ensures.rows in
    let all_read : (value : ℕ) → IsBitSet mask value → IsReadAt r words (length front) value = λ value set.
    rw long ((c.requires.values value).0 (c.lies_in.ensures.within.0 c.if-not-lies_in.false value set)) in
    OnTrue_from c.read_all.result (AreChosen r masks below) (λ is.
    subst (λ ms. AreChosen r ms below) (with_last-itself masks c.requires.some)
    (chosen_more r front mask words below
    (omega (arith, long, c.requires.some, c.requires.places)) c.requires.chosen narrowed
    c.requires.mask all_read (c.read_all.ensures.all.0 is) (omega (arith, c.narrow.auto.to, c.requires.to))))
