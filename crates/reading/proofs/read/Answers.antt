-- `reading::read` meets its contract.
use mathlib.Core.Path.{◌≡◌, sym, ◌∙◌}
use borrow.Author.Tests.{le-leb}
use Rattle.job.specs.Layout.{input_count_bits, gate_count_bits, output_count_bits, fault_count_bits, max_inputs, max_gates}
use Rattle.reading.specs.Reading.{reading, value_read, whole_job, with_counts, with_gates, from_gates, from_output_count, from_outputs, from_fault_count, from_faults, from_end, spare}
use Rattle.reading.proofs.Steps.{passed_whole}
use Rattle.reading.proofs.read.Goals as goal
use Rattle.reading.proofs.read.Goals.{In_ok-gates}

-- once its gates are read, bytes give what the rest of a job gives
rest_of : (c : In_ok-gates) → reading c.args.s.now
    ≡ value_read (from_output_count (with_gates (with_counts c.empty_job-job.result c.in_ok-inputs.inputs c.in_ok-gate_count.gate_count) c.gates.new.gates) c.gates.new.self)
unfolding reading whole_job from_gates input_count_bits gate_count_bits max_inputs max_gates
rest_of c =
    simp (
      sym c.new-reader.ensures,
      sym c.in_ok-inputs.ensures.told,
      le-leb _ _ c.if-inputs-lt1.false,
      le-leb _ _ c.if-inputs-gt-MAX_INPUTS.false,
      sym c.in_ok-gate_count.ensures.told,
      le-leb _ _ c.if-gate_count-gt-MAX_GATES.false,
      sym c.empty_job-job.ensures,
      sym c.in_ok-gates.ensures,
    )

pub returns-in_err-output_count : goal.returns-in_err-output_count
unfolding from_output_count output_count_bits
returns-in_err-output_count c =
    passed_whole _ _ c.from_residual-in_err-output_count.ensures.1 (simp (
      rest_of (goal.at.returns-in_err-output_count c).In_ok-gates,
      sym c.in_err-output_count.ensures.told,
    ))

pub returns-in_err-outputs : goal.returns-in_err-outputs
unfolding from_output_count output_count_bits from_outputs
returns-in_err-outputs c =
    passed_whole _ _ c.from_residual-in_err-outputs.ensures.1 (simp (
      rest_of (goal.at.returns-in_err-outputs c).In_ok-gates,
      sym c.in_ok-output_count.ensures.told,
      sym c.in_err-outputs.ensures,
    ))

pub returns-then-not-no_loose : goal.returns-then-not-no_loose
unfolding from_output_count output_count_bits from_outputs
returns-then-not-no_loose c =
    simp (
      rest_of (goal.at.returns-then-not-no_loose c).In_ok-gates,
      sym c.in_ok-output_count.ensures.told,
      sym c.in_ok-outputs.ensures,
      sym c.no_loose.ensures ∙ c.if-not-no_loose.true,
    )

pub returns-in_err-fault_count : goal.returns-in_err-fault_count
unfolding from_output_count output_count_bits from_outputs from_fault_count fault_count_bits
returns-in_err-fault_count c =
    passed_whole _ _ c.from_residual-in_err-fault_count.ensures.1 (simp (
      rest_of (goal.at.returns-in_err-fault_count c).In_ok-gates,
      sym c.in_ok-output_count.ensures.told,
      sym c.in_ok-outputs.ensures,
      sym c.no_loose.ensures ∙ c.if-not-no_loose.false,
      sym c.in_err-fault_count.ensures.told,
    ))

pub returns-in_err-faults : goal.returns-in_err-faults
unfolding from_output_count output_count_bits from_outputs from_fault_count fault_count_bits from_faults
returns-in_err-faults c =
    passed_whole _ _ c.from_residual-in_err-faults.ensures.1 (simp (
      rest_of (goal.at.returns-in_err-faults c).In_ok-gates,
      sym c.in_ok-output_count.ensures.told,
      sym c.in_ok-outputs.ensures,
      sym c.no_loose.ensures ∙ c.if-not-no_loose.false,
      sym c.in_ok-fault_count.ensures.told,
      sym c.in_err-faults.ensures,
    ))

pub returns-then-not-ends : goal.returns-then-not-ends
unfolding from_output_count output_count_bits from_outputs from_fault_count fault_count_bits from_faults from_end spare
returns-then-not-ends c =
    simp (
      rest_of (goal.at.returns-then-not-ends c).In_ok-gates,
      sym c.in_ok-output_count.ensures.told,
      sym c.in_ok-outputs.ensures,
      sym c.no_loose.ensures ∙ c.if-not-no_loose.false,
      sym c.in_ok-fault_count.ensures.told,
      sym c.in_ok-faults.ensures,
      sym c.ends.ensures ∙ c.if-not-ends.true,
    )

pub returns : goal.returns
unfolding from_output_count output_count_bits from_outputs from_fault_count fault_count_bits from_faults from_end spare
returns c =
    simp (
      rest_of (goal.at.returns c).In_ok-gates,
      sym c.in_ok-output_count.ensures.told,
      sym c.in_ok-outputs.ensures,
      sym c.no_loose.ensures ∙ c.if-not-no_loose.false,
      sym c.in_ok-fault_count.ensures.told,
      sym c.in_ok-faults.ensures,
      sym c.ends.ensures ∙ c.if-not-ends.false,
    )
