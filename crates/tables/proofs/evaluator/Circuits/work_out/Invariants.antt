-- `tables::evaluator::Circuits::work_out` meets its contract: each turn works out the tables of one line.
use Rattle.tables.specs.Work.{Side}
use Rattle.tables.proofs.evaluator.Circuits.work_out.Given as goal

abbrev pub invariant-loop-line : goal.invariant-loop-line
invariant-loop-line l = Side l.self.job.now l.batch l.line l.rows
