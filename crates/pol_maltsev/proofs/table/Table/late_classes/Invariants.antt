use Rattle.pol_maltsev.proofs.table.Table.late_classes.Given as goal

abbrev pub ghost-sample_before : goal.ghost-sample_before
ghost-sample_before g a = g.kept

abbrev pub ghost-close : goal.ghost-close
ghost-close g a = g.kept
