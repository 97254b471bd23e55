-- `job::no_loose` meets its contract.
use Rattle.std.proofs.Common.{List, ℕ, arith, subst}
use Rattle.job.specs.Layout.{max_gates, max_outputs}
use Rattle.job.specs.Marks.{OutputsMarked}
use Rattle.job.proofs.Marking.{outputs_used, marking_start, marking_next}
use Rattle.job.proofs.no_loose.Goals as goal

pub loop-q-init : goal.loop-q-init
unfolding max_gates max_outputs
loop-q-init c =
    let j = c.args.job in
    marking_start j (omega arith) c.min-gate_count.ensures
    (subst (λ (s : List ℕ). OutputsMarked s c.output_marks-used.result) (outputs_used j (omega arith) c.min-output_count.ensures) c.output_marks-used.ensures)

pub loop-q-preserved : goal.loop-q-preserved
loop-q-preserved c = marking_next c.loop-q.invariant c.loop-q-test.true c.if-not-used-n.false c.lines-a.ensures (omega arith) (omega arith)
