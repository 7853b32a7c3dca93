use Rattle.pol_cli.proofs.PrintableItems.{class_printable, instance_printable}
use Rattle.pol_cli.proofs.ReportLaws.{reports_whole, begun_whole, class_lines_told, items_true, solvable_solved, logs_refute, combinations_refute, sizes_told, undecided_unchosen}
use Rattle.pol_cli.proofs.laws.report_laws.Goals as goal

pub returns-clause-whole : goal.returns-clause-whole
returns-clause-whole c = reports_whole

pub returns-clause-begun : goal.returns-clause-begun
returns-clause-begun c = begun_whole

pub returns-clause-classes : goal.returns-clause-classes
returns-clause-classes c = class_lines_told

pub returns-clause-true_items : goal.returns-clause-true_items
returns-clause-true_items c = items_true

pub returns-clause-solved : goal.returns-clause-solved
returns-clause-solved c = solvable_solved

pub returns-clause-refuted_by_log : goal.returns-clause-refuted_by_log
returns-clause-refuted_by_log c = logs_refute

pub returns-clause-refuted_by_sum : goal.returns-clause-refuted_by_sum
returns-clause-refuted_by_sum c = combinations_refute

pub returns-clause-refuted_with_sizes : goal.returns-clause-refuted_with_sizes
returns-clause-refuted_with_sizes c = sizes_told

pub returns-clause-undecided : goal.returns-clause-undecided
returns-clause-undecided c = undecided_unchosen

pub returns-clause-printable_classes : goal.returns-clause-printable_classes
returns-clause-printable_classes c = class_printable

pub returns-clause-printable_instances : goal.returns-clause-printable_instances
returns-clause-printable_instances c = instance_printable
