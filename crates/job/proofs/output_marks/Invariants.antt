-- `job::output_marks` meets its contract: the outputs are marked one by one.
use lib.ListN.{take}
use Rattle.job.specs.Marks.{OutputsMarked}
use Rattle.job.proofs.output_marks.Given as goal

abbrev pub invariant-loop-line : goal.invariant-loop-line
invariant-loop-line l = OutputsMarked (take l.line-index l.outputs) l.marks
