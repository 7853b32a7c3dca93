use Rattle.std.proofs.Common.{◌≡◌, ◌*◌, ◌%◌, ◌∙◌, length, drop, sym, ap}
use Rattle.std.proofs.lemmas.List.{take_at, length-map, get_or_read}
use Rattle.pol_modp.specs.Rows.{PivotView, multiple}
use Rattle.pol_modp.proofs.BasisLemmas.{normal, at_least_two}
use Rattle.pol_modp.proofs.elimination.normalized.Goals as goal

pub returns : goal.returns
returns c =
    let p = c.args.p in
    let row = c.args.row.items in
    let factor = c.inverse-factor.result in
    let new = c.scale.new.row in
    let scaled : new ≡ multiple p factor row = c.scale.ensures.scaled ∙ ap (multiple p factor) c.deref_mut.ensures.value in
    let same : length row ≡ c.args.row.len = ap length (sym c.deref_mut.ensures.value) ∙ c.deref_mut.ensures.len in
    let long : length new ≡ c.args.row.len = ap length scaled ∙ (length-map row _ ∙ same) in
    let cells = take_at new (drop (length new) row) c.args.row.len long in
    let read = get_or_read row c.args.pivot c.index.result.now c.requires.known c.index.ensures 0 in
    record { normal = normal p row c.args.pivot c.args.source factor c.new.result (at_least_two p c.requires.prime) (ap (λ (b : PivotView). b.cells) c.new.ensures.row ∙ (cells ∙ scaled)) (ap (λ (b : PivotView). b.pivot) c.new.ensures.row) (ap (λ (b : PivotView). b.source) c.new.ensures.row) (ap (λ a. (factor * a) % p) (sym read) ∙ c.inverse-factor.ensures.inverse) }
