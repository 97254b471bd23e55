-- Believed: the tests that document 01, "Refusal by operation", and document 02 make of a circuit and its faults, each with its number. Reading and
-- writing share them. Test 19 is in Dependence.antt.
--
--   inputs_ok, .., part_ok              the tests 2, 3, 4, 20, 6, 18, 7, 8, 21
--   in_turn                             each of so many entries judged, one after the other
--   fault_judged                        the tests of one fault
--   checked                             the first refusal of a record, in the order of writing
--   Valid                               what holds of a record that is not refused
use Rattle.std.specs.Prelude.{ℕ, zero, suc, ◌+◌, ◌≤◌, ◌<◌, ◌≡◌, Bool, true, ◌&&◌, leb, ltb}
use Rattle.bits.specs.Answer.{Answer, unless, onward}
use Rattle.bits.specs.Answer.Answer.{gives}
use Rattle.job.specs.Dependence.{no_loose}
use Rattle.job.specs.Layout.{max_inputs, max_gates, max_outputs, max_faults, max_part}
use Rattle.job.specs.Record.{gate_a, gate_b, gate_at, output_at, fault_at, part_at, lines}
use Rattle.job.specs.declared.Gate.{Gate}
use Rattle.job.specs.declared.Fault.{Fault}
use Rattle.job.specs.declared.Fault.TheVariants.{Stuck, Bridge}
use Rattle.job.specs.declared.Job.{Job}

-- "2, n isn't 1 to 8"
abbrev pub inputs_ok : ℕ → Bool
inputs_ok n = leb 1 n && leb n max_inputs

-- "3, g over 64"
abbrev pub gate_count_ok : ℕ → Bool
gate_count_ok g = leb g max_gates

-- "4, line a or b isn't below the gate's own"
abbrev pub gate_ok : ℕ → Gate → Bool
gate_ok own g = ltb (gate_a g) own && ltb (gate_b g) own

-- "20: .. in writing, outputs not 1 to 4"
abbrev pub output_count_ok : ℕ → Bool
output_count_ok count = leb 1 count && leb count max_outputs

-- "6, output line not below n+g"
abbrev pub output_ok : ℕ → ℕ → Bool
output_ok count line = ltb line count

-- "18, a fault count over 63"
abbrev pub fault_count_ok : ℕ → Bool
fault_count_ok f = leb f max_faults

-- "7, a stuck line not below n+g or a bridge line not below n"
abbrev pub fault_line_ok : ℕ → ℕ → Fault → Bool
fault_line_ok n count (Stuck l level) = ltb l count
fault_line_ok n count (Bridge a b is_and) = ltb a n && ltb b n

-- "8, .. a bridge with a not below b"; "8 there means a bridge only"
abbrev pub fault_order_ok : Fault → Bool
fault_order_ok (Stuck l level) = true
fault_order_ok (Bridge a b is_and) = ltb a b

-- "21: a part not 1 to 63"
abbrev pub part_ok : ℕ → Bool
part_ok part = leb 1 part && leb part max_part

-- so many entries from entry i on, each judged in turn
unfoldable pub in_turn : (ℕ → Answer (Unit {0})) → ℕ → ℕ → Answer (Unit {0})
in_turn judged zero i = gives tt
in_turn judged (suc left) i = onward (judged i) (λ _. in_turn judged left (suc i))

-- "4 per gate in turn"
abbrev pub gates_checked : Job → ℕ → ℕ → Answer (Unit {0})
gates_checked j = in_turn (λ q. unless (gate_ok (j.inputs + q) (gate_at j q)) 4 (gives tt))

-- "each output line in 7 bits, each checked by 6"
abbrev pub outputs_checked : Job → ℕ → ℕ → Answer (Unit {0})
outputs_checked j = in_turn (λ o. unless (output_ok (lines j) (output_at j o)) 6 (gives tt))

-- 7; 8; 21 "checked after 8"
abbrev pub fault_judged : Job → ℕ → Answer (Unit {0})
fault_judged j i =
    unless (fault_line_ok j.inputs (lines j) (fault_at j i)) 7
    (unless (fault_order_ok (fault_at j i)) 8
    (unless (part_ok (part_at j i)) 21 (gives tt)))

-- "7 and 8 per fault in turn"
abbrev pub faults_checked : Job → ℕ → ℕ → Answer (Unit {0})
faults_checked j = in_turn (fault_judged j)

-- "Writing a record checks 2, 3, 4 per gate in turn, 6, then 18 .., then 7 and 8 per fault in turn"; 20 "in writing .. before 6"; 19 "checked after 6,
-- before the fault count; writing has it at the same place"
unfoldable pub checked : Job → Answer (Unit {0})
checked j =
    unless (inputs_ok j.inputs) 2
    (unless (gate_count_ok j.gate_count) 3
    (onward (gates_checked j j.gate_count 0) (λ _.
    unless (output_count_ok j.output_count) 20
    (onward (outputs_checked j j.output_count 0) (λ _.
    unless (no_loose j) 19
    (unless (fault_count_ok j.fault_count) 18
    (faults_checked j j.fault_count 0)))))))

pub record Valid (j : Job) : Type 0 where
  pub some : 1 ≤ j.inputs
  pub few : j.inputs ≤ max_inputs
  pub gates_few : j.gate_count ≤ max_gates
  pub gate : (q : ℕ) → q < j.gate_count → gate_ok (j.inputs + q) (gate_at j q) ≡ true
  pub outputs_some : 1 ≤ j.output_count
  pub outputs_few : j.output_count ≤ max_outputs
  pub output : (o : ℕ) → o < j.output_count → output_at j o < lines j
  pub tight : no_loose j ≡ true
  pub faults_few : j.fault_count ≤ max_faults
  pub fault_line : (i : ℕ) → i < j.fault_count → fault_line_ok j.inputs (lines j) (fault_at j i) ≡ true
  pub fault_order : (i : ℕ) → i < j.fault_count → fault_order_ok (fault_at j i) ≡ true
  pub fault_part : (i : ℕ) → i < j.fault_count → part_ok (part_at j i) ≡ true
