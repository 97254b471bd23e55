-- Kept by the code: the checks of a record's lists (job's specs/Check.antt), each of the list alone.
--
--   each_judged                  the entries of a list judged in turn, each with its place
--   gate_judged, entry_judged    a gate of a circuit with so many inputs, and a fault of one with so many inputs and lines
--   gates_judged, faults_judged  a circuit's gates, and its faults
use Rattle.std.specs.Prelude.{ℕ, ◌+◌, List, length, get_or}
use Rattle.bits.specs.Answer.{Answer, unless}
use Rattle.bits.specs.Answer.Answer.{gives}
use Rattle.job.specs.Check.{in_turn, gate_ok, fault_line_ok, fault_order_ok, part_ok}
use Rattle.job.specs.Record.{unused_gate, unused_fault}
use Rattle.job.specs.declared.FaultEntry.{FaultEntry}
use Rattle.job.specs.declared.GateEntry.{GateEntry}

abbrev pub each_judged : {A : Type 0} → (ℕ → A → Answer (Unit {0})) → A → List A → Answer (Unit {0})
each_judged judged d entries = in_turn (λ i. judged i (get_or entries i d)) (length entries) 0

abbrev pub gate_judged : ℕ → ℕ → GateEntry → Answer (Unit {0})
gate_judged inputs q e = unless (gate_ok (inputs + q) e.gate) 4 (gives tt)

abbrev pub entry_judged : ℕ → ℕ → FaultEntry → Answer (Unit {0})
entry_judged inputs lines e =
    unless (fault_line_ok inputs lines e.fault) 7
    (unless (fault_order_ok e.fault) 8
    (unless (part_ok e.part) 21 (gives tt)))

abbrev pub gates_judged : ℕ → List GateEntry → Answer (Unit {0})
gates_judged inputs = each_judged (gate_judged inputs) unused_gate

abbrev pub faults_judged : ℕ → ℕ → List FaultEntry → Answer (Unit {0})
faults_judged inputs lines = each_judged (λ _. entry_judged inputs lines) unused_fault
