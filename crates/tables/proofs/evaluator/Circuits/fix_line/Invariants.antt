-- `tables::evaluator::Circuits::fix_line` meets its contract: each turn puts the table of one column.
use Rattle.tables.proofs.FixedColumns.{Mending}
use Rattle.tables.proofs.evaluator.Circuits.fix_line.Given as goal

abbrev pub invariant-loop-column : goal.invariant-loop-column
invariant-loop-column l = Mending l.self.job.now l.batch l.line l.initial.rows l.column-iterator l.rows
