-- A record that the checks do not refuse is valid (specs/Check.antt).
--
--   valid    what a record that is not refused is like
use Prim.Native.Nat.{ℕ, zero, suc, ◌+◌, ◌≤◌, ◌<◌}
use native.Mathlib.Nat.{eq-or-lt_of_le}
use native.Mathlib.Omega.{arith}
use mathlib.Core.Path.{◌≡◌}
use mathlib.Core.Bool.{true}
use mathlib.Core.Logic.{⊎_elim}
use borrow.Author.Tests.{leb-true, ltb-true}
use lib.Dec.{leb}
use Rattle.bits.specs.Answer.{Answer, unless}
use Rattle.bits.specs.Answer.Answer.{gives}
use Rattle.bits.proofs.Answers.{unless_gives, onward_gives}
use Rattle.bits.proofs.Tests.{and_l, and_r}
use Rattle.job.specs.Check.{Valid, checked, inputs_ok, gate_count_ok, in_turn, gate_ok, gates_checked, output_count_ok, output_ok, outputs_checked, fault_count_ok, fault_line_ok, fault_order_ok, part_ok, fault_judged, faults_checked}
use Rattle.job.specs.Dependence.{no_loose}
use Rattle.job.specs.Layout.{max_inputs, max_gates, max_outputs, max_faults}
use Rattle.job.specs.Record.{gate_at, output_at, fault_at, part_at, lines}
use Rattle.job.specs.declared.Job.{Job}

turn_passed : (judged : ℕ → Answer (Unit {0})) (left i : ℕ) → in_turn judged left i ≡ gives tt → (k : ℕ) → i ≤ k → k < i + left → judged k ≡ gives tt
unfolding in_turn
turn_passed judged zero i e k l h = absurd (omega arith)
turn_passed judged (suc left) i e k l h =
    let u = onward_gives (judged i) (λ _. in_turn judged left (suc i)) e in
    ⊎_elim (λ s. rw (← s) u.1) (λ m. turn_passed judged left (suc i) u.2 k m (omega arith)) (eq-or-lt_of_le l)

fault_passed : (j : Job) (i : ℕ) → fault_judged j i ≡ gives tt
    → (fault_line_ok j.inputs (lines j) (fault_at j i) ≡ true) × (fault_order_ok (fault_at j i) ≡ true) × (part_ok (part_at j i) ≡ true)
fault_passed j i e =
    let u = unless_gives (fault_line_ok j.inputs (lines j) (fault_at j i)) 7 _ e in
    let o = unless_gives (fault_order_ok (fault_at j i)) 8 _ u.1 in
    (u.0, o.0, (unless_gives (part_ok (part_at j i)) 21 (gives tt) o.1).0)

pub valid : (j : Job) → checked j ≡ gives tt → Valid j
unfolding checked
valid j e =
    let n = unless_gives (inputs_ok j.inputs) 2 _ e in
    let g = unless_gives (gate_count_ok j.gate_count) 3 _ n.1 in
    let gs = onward_gives (gates_checked j j.gate_count 0) _ g.1 in
    let o = unless_gives (output_count_ok j.output_count) 20 _ gs.2 in
    let os = onward_gives (outputs_checked j j.output_count 0) _ o.1 in
    let t = unless_gives (no_loose j) 19 _ os.2 in
    let f = unless_gives (fault_count_ok j.fault_count) 18 (faults_checked j j.fault_count 0) t.1 in
    let each : (i : ℕ) → i < j.fault_count
    → (fault_line_ok j.inputs (lines j) (fault_at j i) ≡ true) × (fault_order_ok (fault_at j i) ≡ true) × (part_ok (part_at j i) ≡ true) =
    λ i h. fault_passed j i (turn_passed (fault_judged j) j.fault_count 0 f.1 i (omega arith) (omega arith))
    in
    record {
      some = leb-true 1 j.inputs (and_l (leb 1 j.inputs) (leb j.inputs max_inputs) n.0);
      few = leb-true j.inputs max_inputs (and_r (leb 1 j.inputs) (leb j.inputs max_inputs) n.0);
      gates_few = leb-true j.gate_count max_gates g.0;
      gate = λ q h.
          (unless_gives (gate_ok (j.inputs + q) (gate_at j q)) 4 (gives tt)
          (turn_passed (λ q. unless (gate_ok (j.inputs + q) (gate_at j q)) 4 (gives tt)) j.gate_count 0 gs.1 q (omega arith) (omega arith))).0;
      outputs_some = leb-true 1 j.output_count (and_l (leb 1 j.output_count) (leb j.output_count max_outputs) o.0);
      outputs_few = leb-true j.output_count max_outputs (and_r (leb 1 j.output_count) (leb j.output_count max_outputs) o.0);
      output = λ p h.
          ltb-true (output_at j p) (lines j)
          (unless_gives (output_ok (lines j) (output_at j p)) 6 (gives tt)
          (turn_passed (λ o. unless (output_ok (lines j) (output_at j o)) 6 (gives tt)) j.output_count 0 os.1 p (omega arith) (omega arith))).0;
      tight = t.0;
      faults_few = leb-true j.fault_count max_faults f.0;
      fault_line = λ i h. (each i h).0;
      fault_order = λ i h. (each i h).1;
      fault_part = λ i h. (each i h).2;
    }
