-- `writing::check_faults` meets its contract.
use Rattle.std.proofs.Common.{sym, ◌∙◌}
use Rattle.job.specs.Record.{unused_fault}
use Rattle.writing.specs.Checks.{entry_judged}
use Rattle.writing.proofs.Checks.{each_end, each_stop, each_next}
use Rattle.writing.proofs.check_faults.Goals as goal

pub returns-then-not-fault_line_ok : goal.returns-then-not-fault_line_ok
returns-then-not-fault_line_ok c =
    each_stop (λ _. entry_judged c.args.inputs c.args.lines) unused_fault c.args.faults.now c.loop-entry.invariant c.loop-entry-test.true
    (simp (sym c.fault_line_ok.ensures ∙ c.if-not-fault_line_ok.true))

pub returns-then-not-order_ok : goal.returns-then-not-order_ok
returns-then-not-order_ok c =
    each_stop (λ _. entry_judged c.args.inputs c.args.lines) unused_fault c.args.faults.now c.loop-entry.invariant c.loop-entry-test.true
    (simp (sym c.fault_line_ok.ensures ∙ c.if-not-fault_line_ok.false, sym c.order_ok.ensures ∙ c.if-not-order_ok.true))

pub returns-then-not-part_ok : goal.returns-then-not-part_ok
returns-then-not-part_ok c =
    each_stop (λ _. entry_judged c.args.inputs c.args.lines) unused_fault c.args.faults.now c.loop-entry.invariant c.loop-entry-test.true
    (simp (sym c.fault_line_ok.ensures ∙ c.if-not-fault_line_ok.false, sym c.order_ok.ensures ∙ c.if-not-order_ok.false, sym c.part_ok.ensures ∙ c.if-not-part_ok.true))

pub loop-entry-preserved : goal.loop-entry-preserved
loop-entry-preserved c =
    each_next (λ _. entry_judged c.args.inputs c.args.lines) unused_fault c.args.faults.now c.loop-entry.invariant c.loop-entry-test.true
    (simp (sym c.fault_line_ok.ensures ∙ c.if-not-fault_line_ok.false, sym c.order_ok.ensures ∙ c.if-not-order_ok.false, sym c.part_ok.ensures ∙ c.if-not-part_ok.false))

pub returns : goal.returns
returns c = each_end (λ _. entry_judged c.args.inputs c.args.lines) unused_fault c.args.faults.now c.loop-entry.invariant c.loop-entry-test.false
