-- `writing::check` meets its contract.
use Rattle.std.proofs.Common.{◌≡◌, sym, ◌∙◌, arith, le-leb}
use Rattle.std.proofs.lemmas.Bool.{lt-leb}
use Rattle.bits.specs.Answer.Answer.{refused}
use Rattle.job.specs.Check.{outputs_checked, checked}
use Rattle.job.specs.Layout.{max_inputs, max_gates, max_outputs, max_faults}
use Rattle.reading.proofs.Steps.{passed_whole}
use Rattle.writing.proofs.Checks.{gates_lent, outputs_lent, faults_lent, behind_gates, behind_outputs, past_gates, past_outputs}
use Rattle.writing.proofs.check.Goals as goal
use Rattle.writing.proofs.check.Goals.{In_ok-check_gates, Else-not-outputs_ok, then-n-lt1-via-then-n-lt1, then-n-lt1-via-else-n-lt1+then-n-gt-MAX_INPUTS, then-count-lt1-via-then-count-lt1, then-count-lt1-via-else-count-lt1+then-count-gt-MAX_OUTPUTS}

pub returns-then-n-lt1 : goal.returns-then-n-lt1
unfolding checked max_inputs
returns-then-n-lt1 c =
    elim c.then-n-lt1.branch [
      | then-n-lt1-via-then-n-lt1 w ↦ simp (lt-leb _ _ w.if-n-lt1.true)
      | then-n-lt1-via-else-n-lt1+then-n-gt-MAX_INPUTS w ↦ simp (le-leb _ _ w.if-n-lt1.false, lt-leb _ _ w.if-n-gt-MAX_INPUTS.true)
    ]

pub returns-then-g-gt-MAX_GATES : goal.returns-then-g-gt-MAX_GATES
unfolding checked max_inputs max_gates
returns-then-g-gt-MAX_GATES c = simp (le-leb _ _ c.if-n-lt1.false, le-leb _ _ c.if-n-gt-MAX_INPUTS.false, lt-leb _ _ c.if-g-gt-MAX_GATES.true)

pub returns-in_err-check_gates : goal.returns-in_err-check_gates
unfolding checked max_inputs max_gates
returns-in_err-check_gates c =
    let found = c.in_err-check_gates.ensures ∙ gates_lent c.args.job (omega arith) in
    passed_whole _ _ c.from_residual.ensures.1 (simp (le-leb _ _ c.if-n-lt1.false, le-leb _ _ c.if-n-gt-MAX_INPUTS.false, le-leb _ _ c.if-g-gt-MAX_GATES.false, sym found))

-- what is left to check where the gates have passed, and where the outputs have
gates-passed : (c : In_ok-check_gates) → checked c.args.job ≡ behind_gates c.args.job
unfolding max_inputs max_gates
gates-passed c =
    past_gates c.args.job c.if-n-lt1.false c.if-n-gt-MAX_INPUTS.false c.if-g-gt-MAX_GATES.false (c.in_ok-check_gates.ensures ∙ gates_lent c.args.job (omega arith))

outputs-passed : (c : Else-not-outputs_ok) → checked c.args.job ≡ behind_outputs c.args.job
unfolding max_inputs max_gates max_outputs
outputs-passed c =
    let gates = past_gates c.args.job c.if-n-lt1.false c.if-n-gt-MAX_INPUTS.false c.if-g-gt-MAX_GATES.false (c.in_ok-check_gates.ensures ∙ gates_lent c.args.job (omega arith)) in
    past_outputs c.args.job gates c.if-count-lt1.false c.if-count-gt-MAX_OUTPUTS.false ((simp (sym c.if-not-outputs_ok.ensures)) ∙ outputs_lent c.args.job (omega arith))

pub returns-then-count-lt1 : goal.returns-then-count-lt1
unfolding max_outputs
returns-then-count-lt1 c =
    let passed = gates-passed (goal.at.returns-then-count-lt1 c).In_ok-check_gates in
    elim c.then-count-lt1.branch [
      | then-count-lt1-via-then-count-lt1 w ↦ sym (passed ∙ simp (lt-leb _ _ w.if-count-lt1.true))
      | then-count-lt1-via-else-count-lt1+then-count-gt-MAX_OUTPUTS w ↦ sym (passed ∙ simp (le-leb _ _ w.if-count-lt1.false, lt-leb _ _ w.if-count-gt-MAX_OUTPUTS.true))
    ]

pub returns-then-not-outputs_ok : goal.returns-then-not-outputs_ok
unfolding max_outputs
returns-then-not-outputs_ok c =
    let found : outputs_checked c.args.job c.args.job.output_count 0 ≡ refused 6 = sym (outputs_lent c.args.job (omega arith)) ∙ simp (sym c.if-not-outputs_ok.ensures) in
    sym (gates-passed (goal.at.returns-then-not-outputs_ok c).In_ok-check_gates ∙ simp (le-leb _ _ c.if-count-lt1.false, le-leb _ _ c.if-count-gt-MAX_OUTPUTS.false, found))

pub returns-then-not-no_loose : goal.returns-then-not-no_loose
returns-then-not-no_loose c = sym (outputs-passed (goal.at.returns-then-not-no_loose c).Else-not-outputs_ok ∙ simp (sym c.if-not-no_loose.ensures))

pub returns-then-job-gt-MAX_FAULTS : goal.returns-then-job-gt-MAX_FAULTS
unfolding max_faults
returns-then-job-gt-MAX_FAULTS c =
    sym (outputs-passed (goal.at.returns-then-job-gt-MAX_FAULTS c).Else-not-outputs_ok ∙ simp (sym c.if-not-no_loose.ensures, lt-leb _ _ c.if-job-gt-MAX_FAULTS.true))

pub returns : goal.returns
unfolding max_faults
returns c =
    c.check_faults.ensures ∙ faults_lent c.args.job (omega arith)
    ∙ sym (outputs-passed (goal.at.returns c).Else-not-outputs_ok ∙ simp (sym c.if-not-no_loose.ensures, le-leb _ _ c.if-job-gt-MAX_FAULTS.false))
