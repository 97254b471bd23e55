-- The checks of a record pass where its demands hold (specs/Check.antt).
--
--   checked_valid    the checks refuse no record that is valid
use Prim.Native.Nat.{ℕ, zero, suc, ◌+◌, ◌<◌}
use native.Mathlib.Omega.{arith}
use mathlib.Core.Path.{◌≡◌, refl, ap, ◌∙◌}
use mathlib.Core.Bool.{true}
use borrow.Author.Tests.{le-leb, lt-ltb}
use lib.Dec.{leb}
use Rattle.bits.specs.Answer.{Answer, unless, onward}
use Rattle.bits.specs.Answer.Answer.{gives}
use Rattle.bits.proofs.Answers.{unless_true}
use Rattle.job.specs.Check.{Valid, checked, in_turn, gate_ok, gates_checked, output_ok, outputs_checked, fault_judged, faults_checked}
use Rattle.job.specs.Layout.{max_inputs, max_gates, max_outputs, max_faults}
use Rattle.job.specs.Record.{gate_at, output_at, lines}
use Rattle.job.specs.declared.Job.{Job}

turn_pass : (judged : ℕ → Answer (Unit {0})) (left i : ℕ) → ((k : ℕ) → k < i + left → judged k ≡ gives tt) → in_turn judged left i ≡ gives tt
unfolding in_turn
turn_pass judged zero i h = refl
turn_pass judged (suc left) i h =
    ap (λ (x : Answer (Unit {0})). onward x (λ _. in_turn judged left (suc i))) (h i (omega arith)) ∙ turn_pass judged left (suc i) (λ k l. h k (omega arith))

pub checked_valid : (j : Job) → Valid j → checked j ≡ gives tt
unfolding checked
checked_valid j v =
    let some : leb 1 j.inputs ≡ true = le-leb 1 j.inputs v.some in
    let few : leb j.inputs max_inputs ≡ true = le-leb j.inputs max_inputs v.few in
    let gates_few : leb j.gate_count max_gates ≡ true = le-leb j.gate_count max_gates v.gates_few in
    let gates : gates_checked j j.gate_count 0 ≡ gives tt =
    turn_pass (λ q. unless (gate_ok (j.inputs + q) (gate_at j q)) 4 (gives tt)) j.gate_count 0 (λ k l. unless_true 4 (gives tt) (v.gate k (omega arith)))
    in
    let outputs_some : leb 1 j.output_count ≡ true = le-leb 1 j.output_count v.outputs_some in
    let outputs_few : leb j.output_count max_outputs ≡ true = le-leb j.output_count max_outputs v.outputs_few in
    let outputs : outputs_checked j j.output_count 0 ≡ gives tt =
    turn_pass (λ o. unless (output_ok (lines j) (output_at j o)) 6 (gives tt)) j.output_count 0
    (λ k l. unless_true 6 (gives tt) (lt-ltb (output_at j k) (lines j) (v.output k (omega arith))))
    in
    let faults_few : leb j.fault_count max_faults ≡ true = le-leb j.fault_count max_faults v.faults_few in
    let faults : faults_checked j j.fault_count 0 ≡ gives tt =
    turn_pass (fault_judged j) j.fault_count 0
    (λ k l. unless_true 7 _ (v.fault_line k (omega arith)) ∙ unless_true 8 _ (v.fault_order k (omega arith))
    ∙ unless_true 21 (gives tt) (v.fault_part k (omega arith)))
    in
    simp (some, few, gates_few, gates, outputs_some, outputs_few, outputs, v.tight, faults_few, faults)
