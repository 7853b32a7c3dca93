use Rattle.pol_maltsev.proofs.SetLemmas.{swap_sound}
use Rattle.pol_maltsev.proofs.SwapTables.{swapped_view}
use Rattle.pol_maltsev.proofs.table.Table.swap.Goals as goal

-- the table stands for its set
pub returns-clause-sound : goal.returns-clause-sound
returns-clause-sound c =
    (swap_sound c.args.op.now c.args.k c.args.self.now c.replace.new.self c.requires.sound c.requires.position c.replace.ensures.replaced.shape c.replace.ensures.view
    (swapped_view c.args.op.now c.args.k c.in_ok-late.late c.in_ok-early.early c.args.self.now c.replace.new.self c.requires.sound c.in_ok-late.ensures.made c.in_ok-early.ensures.made c.replace.ensures.replaced)).0

-- which is the old one
pub returns-clause-set : goal.returns-clause-set
returns-clause-set c =
    (swap_sound c.args.op.now c.args.k c.args.self.now c.replace.new.self c.requires.sound c.requires.position c.replace.ensures.replaced.shape c.replace.ensures.view
    (swapped_view c.args.op.now c.args.k c.in_ok-late.late c.in_ok-early.early c.args.self.now c.replace.new.self c.requires.sound c.in_ok-late.ensures.made c.in_ok-early.ensures.made c.replace.ensures.replaced)).1
