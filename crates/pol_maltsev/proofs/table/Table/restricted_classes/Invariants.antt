use Rattle.pol_maltsev.proofs.table.Table.restricted_classes.Given as goal

abbrev pub ghost-late_classes : goal.ghost-late_classes
ghost-late_classes g a = g.kept
