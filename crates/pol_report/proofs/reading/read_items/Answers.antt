use Rattle.std.proofs.Common.{◌≡◌, List, ◌∷◌, Err, rules}
use Rattle.pol_text.specs.Lines.{significant_lines}
use Rattle.pol_text.specs.Reading.{Reads}
use Rattle.pol_report.specs.declared.item.Item.{Item}
use Rattle.pol_report.specs.Grammar.{items_of}
use Rattle.pol_report.specs.Reading.{itself}
use Rattle.pol_report.proofs.ItemLoops.{items_of-behind, items_of-headless}
use Rattle.pol_report.proofs.ItemsReadAgain.{reads-printed}
use Rattle.pol_report.proofs.reading.read_items.Goals as goal

pub returns-in-Ok-clause-reads : goal.returns-in-Ok-clause-reads
returns-in-Ok-clause-reads c =
    let head = c.in-Some.header in
    let ls = c.next.new.self in
    let lines : significant_lines c.args.line c.args.bytes.now ≡ head ∷ ls = search rules in
    let behind = items_of-behind c.args.bytes.now c.args.line c.in-Ok.field-0 head ls lines c.in-Ok.ensures.judged in
    rw (behind, ← c.new-text.ensures.last) c.items_to_end.ensures.reads

pub returns-in-Ok-clause-again : goal.returns-in-Ok-clause-again
returns-in-Ok-clause-again c = reads-printed c.items_to_end.result c.args.bytes.now c.args.line (returns-in-Ok-clause-reads c)

pub returns-in-Err-clause-again : goal.returns-in-Err-clause-again
returns-in-Err-clause-again c =
    let head = c.in-Some.header in
    let ls = c.next.new.self in
    let lines : significant_lines c.args.line c.args.bytes.now ≡ head ∷ ls = search rules in
    let headless = items_of-headless c.args.bytes.now c.args.line c.in-Err.word head ls lines c.in-Err.ensures.judged in
    let reads : Reads (itself {X = List Item}) (Err c.refused.result) (items_of c.args.bytes.now c.args.line) = rw (c.refused.ensures.refused, c.number.ensures.number) headless in
    reads-printed (Err c.refused.result) c.args.bytes.now c.args.line reads
