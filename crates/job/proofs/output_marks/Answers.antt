-- `job::output_marks` meets its contract: the outputs are marked one by one.
use native.Mathlib.Omega.{arith}
use Rattle.job.specs.Layout.{max_gates}
use Rattle.job.proofs.Marking.{outputs_start, outputs_next}
use Rattle.job.proofs.output_marks.Goals as goal

pub loop-line-init : goal.loop-line-init
unfolding max_gates
loop-line-init c = outputs_start c.args.outputs.now

pub loop-line-preserved : goal.loop-line-preserved
loop-line-preserved c =
    outputs_next c.args.outputs.now c.loop-line.invariant c.loop-line-test.true (omega (arith, c.type_inv.outputs c.loop-line.line-index))
