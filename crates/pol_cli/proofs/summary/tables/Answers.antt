use Rattle.std.proofs.Common.{◌≡◌, Bool, true, false, arith}
use Rattle.std.specs.Prelude.{IsTrue}
use Rattle.pol_base.specs.declared.class_name.ClassName.TheVariants.{Constant}
use Rattle.pol_optable.specs.ClassLines.{all_classes}
use Rattle.pol_optable.specs.Choices.{HasTable}
use Rattle.pol_cli.proofs.CountLemmas.{counts_next, counts_past}
use Rattle.pol_cli.proofs.summary.tables.Goals as goal
use Rattle.pol_cli.proofs.summary.tables.Goals.{then-has_table, else-has_table}

untrue : (b : Bool) → b ≡ false → ¬ IsTrue b
untrue true e h = cc
untrue false e h = cc

pub loop-class-preserved : goal.loop-class-preserved
loop-class-preserved c =
    let P = HasTable c.args.classes.now in
    let i = c.loop-class.class-index in
    let n = c.loop-class.count in
    let inside = c.loop-class-test.true in
    let counted = c.loop-class.invariant in
    elim c.if-has_table.branch [
      | then-has_table w ↦ rw w.count-is (counts_next P all_classes i n Constant inside counted.0 (c.has_table.ensures.table.0 w.if-has_table.true), omega (arith, counted.1))
      | else-has_table w ↦ rw w.count-is (counts_past P all_classes i n Constant inside counted.0 (λ has. untrue c.has_table.result w.if-has_table.false (c.has_table.ensures.table.1 has)), omega (arith, counted.1))
    ]
