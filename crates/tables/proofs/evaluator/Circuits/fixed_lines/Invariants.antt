-- `tables::evaluator::Circuits::fixed_lines` meets its contract: each turn notes the lines that one circuit fixes.
use Rattle.tables.proofs.Columns.{FixedTo}
use Rattle.tables.proofs.evaluator.Circuits.fixed_lines.Given as goal

abbrev pub invariant-loop-i : goal.invariant-loop-i
invariant-loop-i l = FixedTo l.self.job.now l.first l.i-end l.i l.fixed
