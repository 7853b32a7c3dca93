use Rattle.std.proofs.Common.{◌∷◌, [], length-append, sym, ◌∙◌, arith}
use Rattle.pol_modp.specs.Parts.{part_named}
use Rattle.pol_report.specs.Certificates.{part_from}
use Rattle.pol_report.specs.Grammar.{line_from}
use Rattle.pol_report.proofs.CountLemmas.{counted-next}
use Rattle.pol_report.proofs.further_lines.take_parts.Goals as goal

pub loop-preserved : goal.loop-preserved
loop-preserved c =
    let part = part_named c.in_ok-part.part in
    let before = c.loop.invariant.read in
    rw c.in_ok-push.ensures.ok
    (record {
      labels = c.loop.invariant.labels;
      read = omega (arith, length-append c.loop.combination.parts (part ∷ []));
      same = sym (counted-next (line_from c.args.text.now part_from) c.args.count c.loop.counter c.loop.combination.parts c.loop.lines c.take_part.new.lines part (omega arith) c.in_ok-part.ensures.part) ∙ c.loop.invariant.same;
    })
