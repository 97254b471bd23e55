-- Believed: reading a job (document 01, "Job layout" and "Refusal by operation"; document 02, CR 1 to 3). Each line of a `do` block takes a field, or checks what was taken.
--
--   entry_fields             the three fields that a gate and a fault begin with
--   gate, output_line, fault   one gate, one output, one fault
--   entries_from             so many gates, outputs or faults, each into its entry of the record
--   from_gates, from_output_count, from_outputs, from_fault_count, from_faults, from_end   the rest of a job from there on, given the record so far
--   reading                 the record that bytes give, or the first refusal
use Rattle.std.specs.Prelude.{ℕ, zero, suc, ◌+◌, Bool, ◌&&◌, ◌||◌, cond, List, [], ltb, eqb, set}
use Rattle.bits.specs.Answer.{Answer, unless}
use Rattle.bits.specs.Answer.Answer.{gives, refused}
use Rattle.bits.specs.Bits.{string_of}
use Rattle.bits.specs.Field.{spare_only}
use Rattle.bits.specs.Parser.{Parser, Parsed, parsed, field, check, give, ◌>>=◌, ◌>>◌}
use Rattle.job.specs.Check.{inputs_ok, gate_count_ok, output_ok, fault_line_ok, part_ok}
use Rattle.job.specs.Dependence.{no_loose}
use Rattle.job.specs.Layout.{input_count_bits, gate_count_bits, gate_kind_bits, line_bits, output_count_bits, fault_count_bits, fault_kind_bits, part_bits}
use Rattle.job.specs.Record.{gate_of, fault_of, lines, empty_job}
use Rattle.job.specs.declared.FaultEntry.{FaultEntry}
use Rattle.job.specs.declared.GateEntry.{GateEntry}
use Rattle.job.specs.declared.Job.{Job}

-- "a kind .., line a (7), line b (7)": the fields of a gate, and the first three of a fault
pub record Entry : Type 0 where
  pub kind : ℕ
  pub a : ℕ
  pub b : ℕ

unfoldable pub entry_fields : ℕ → Parser Entry
entry_fields kind_bits = do
  kind ← field kind_bits
  a ← field line_bits
  b ← field line_bits
  give (record { kind = kind; a = a; b = b })

-- "5, NOT or BUF with b other than a": kinds 6 and 7
abbrev pub unary_lines_ok : ℕ → ℕ → ℕ → Bool
unary_lines_ok kind a b = ltb kind 6 || eqb b a

-- "per gate, after its three fields, 4, line a or b isn't below the gate's own; 5, .."
unfoldable pub gate : ℕ → Parser GateEntry
gate own = do
  e ← entry_fields gate_kind_bits
  check (ltb e.a own && ltb e.b own) 4
  check (unary_lines_ok e.kind e.a e.b) 5
  give (record { gate = gate_of e.kind e.a e.b })

-- "each output line in 7 bits, each checked by 6": "6, output line not below n+g"
unfoldable pub output_line : ℕ → Parser ℕ
output_line count = do
  line ← field line_bits
  check (output_ok count line) 6
  give line

-- "8, a stuck fault with b other than a, or a bridge with a not below b": kinds 0 and 1 are stuck
abbrev pub fault_lines_ok : ℕ → ℕ → ℕ → Bool
fault_lines_ok kind a b = cond (ltb kind 2) (eqb b a) (ltb a b)

-- "per fault .. 7, a stuck line not below n+g or a bridge line not below n; 8, .."; document 02: "a part number .. in 6 bits after line b"; "21: a part not
-- 1 to 63; checked after 8, with all four fields read before 7"
unfoldable pub fault : ℕ → ℕ → Parser FaultEntry
fault n count = do
  e ← entry_fields fault_kind_bits
  part ← field part_bits
  check (fault_line_ok n count (fault_of e.kind e.a e.b)) 7
  check (fault_lines_ok e.kind e.a e.b) 8
  check (part_ok part) 21
  give (record { fault = fault_of e.kind e.a e.b; part = part })

-- so many entries from entry i on, each into its place
unfoldable pub entries_from : {A : Type 0} → (ℕ → Parser A) → ℕ → ℕ → List A → Parser (List A)
entries_from p zero i entries = give entries
entries_from p (suc left) i entries = do
  e ← p i
  entries_from p left (suc i) (set entries i e)

-- "9, a spare bit 1 or a byte after the end"
unfoldable pub spare : Parser (Unit {0})
spare bits = unless (spare_only bits) 9 (parsed tt [])

abbrev pub with_counts : Job → ℕ → ℕ → Job
with_counts j n g =
    record {
      inputs = n;
      gate_count = g;
      gates = j.gates;
      output_count = j.output_count;
      outputs = j.outputs;
      fault_count = j.fault_count;
      faults = j.faults;
    }

abbrev pub with_gates : Job → List GateEntry → Job
with_gates j gates =
    record {
      inputs = j.inputs;
      gate_count = j.gate_count;
      gates = gates;
      output_count = j.output_count;
      outputs = j.outputs;
      fault_count = j.fault_count;
      faults = j.faults;
    }

abbrev pub with_output_count : Job → ℕ → Job
with_output_count j count =
    record {
      inputs = j.inputs;
      gate_count = j.gate_count;
      gates = j.gates;
      output_count = count;
      outputs = j.outputs;
      fault_count = j.fault_count;
      faults = j.faults;
    }

abbrev pub with_outputs : Job → List ℕ → Job
with_outputs j outputs =
    record {
      inputs = j.inputs;
      gate_count = j.gate_count;
      gates = j.gates;
      output_count = j.output_count;
      outputs = outputs;
      fault_count = j.fault_count;
      faults = j.faults;
    }

abbrev pub with_fault_count : Job → ℕ → Job
with_fault_count j count =
    record {
      inputs = j.inputs;
      gate_count = j.gate_count;
      gates = j.gates;
      output_count = j.output_count;
      outputs = j.outputs;
      fault_count = count;
      faults = j.faults;
    }

abbrev pub with_faults : Job → List FaultEntry → Job
with_faults j faults =
    record {
      inputs = j.inputs;
      gate_count = j.gate_count;
      gates = j.gates;
      output_count = j.output_count;
      outputs = j.outputs;
      fault_count = j.fault_count;
      faults = faults;
    }

-- "then zero bits up to a whole byte, and nothing after"
unfoldable pub from_end : Job → Parser Job
from_end j = do
  spare
  give j

-- "per fault a kind (2), line a (7), line b (7)", and its part (6)
unfoldable pub from_faults : Job → Parser Job
from_faults j = do
  faults ← entries_from (λ i. fault j.inputs (lines j)) j.fault_count 0 j.faults
  from_end (with_faults j faults)

-- "fault count f (6)"
unfoldable pub from_fault_count : Job → Parser Job
from_fault_count j = do
  f ← field fault_count_bits
  from_faults (with_fault_count j f)

-- "then each output line in 7 bits"; "19: a loose gate; checked after 6, before the fault count"
unfoldable pub from_outputs : Job → Parser Job
from_outputs j = do
  outputs ← entries_from (λ o. output_line (lines j)) j.output_count 0 j.outputs
  check (no_loose (with_outputs j outputs)) 19
  from_fault_count (with_outputs j outputs)

-- "After the gates comes a field of 2 bits, the number of outputs less 1"
unfoldable pub from_output_count : Job → Parser Job
from_output_count j = do
  less ← field output_count_bits
  from_outputs (with_output_count j (less + 1))

-- "per gate a kind (3), line a (7), line b (7)"; "Gate number q, from 0, drives line n+q"
unfoldable pub from_gates : Job → Parser Job
from_gates j = do
  gates ← entries_from (λ q. gate (j.inputs + q)) j.gate_count 0 j.gates
  from_output_count (with_gates j gates)

-- "input count n (4 bits); gate count g (7)"; "2, n isn't 1 to 8; 3, g over 64"
unfoldable pub whole_job : Parser Job
whole_job = do
  n ← field input_count_bits
  check (inputs_ok n) 2
  g ← field gate_count_bits
  check (gate_count_ok g) 3
  from_gates (with_counts empty_job n g)

abbrev pub value_read : {A : Type 0} → Answer (Parsed A) → Answer A
value_read (gives p) = gives p.value
value_read (refused k) = refused k

unfoldable pub reading : List ℕ → Answer Job
reading s = value_read (whole_job (string_of s))
