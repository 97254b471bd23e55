-- Believed: the record of a job, and the numbers that stand for its gates and faults (document 01, "Job layout"; document 02, CR 2 and 3).
--
--   gate_kind, gate_a, gate_b      a gate's kind and lines as numbers; gate_of is the way back
--   fault_kind, fault_a, fault_b   a fault's kind and lines as numbers; fault_of is the way back
--   gate_at, output_at, fault_at   gate q, output o's line and fault i of a record, each counted from 0
--   part_at                        the part of fault i, counted from 0
--   lines                          the number of lines
--   empty_job                      the record with every entry unused
--   reset                          the record with its unused entries as reading leaves them
use Rattle.std.specs.Prelude.{ℕ, ◌+◌, Bool, true, false, List, [], ◌∷◌, get_or, take, replicate}
use Rattle.std.proofs.lemmas.List.Edits.{sets}
use Rattle.job.specs.Layout.{max_gates, max_outputs, max_faults}
use Rattle.job.specs.declared.BinaryKind.{BinaryKind}
use Rattle.job.specs.declared.BinaryKind.TheVariants.{And, Or, Nand, Nor, Xor, Xnor}
use Rattle.job.specs.declared.UnaryKind.{UnaryKind}
use Rattle.job.specs.declared.UnaryKind.TheVariants.{Buf, Not}
use Rattle.job.specs.declared.Gate.{Gate}
use Rattle.job.specs.declared.Gate.TheVariants.{Unary, Binary}
use Rattle.job.specs.declared.Fault.{Fault}
use Rattle.job.specs.declared.Fault.TheVariants.{Stuck, Bridge}
use Rattle.job.specs.declared.GateEntry.{GateEntry}
use Rattle.job.specs.declared.FaultEntry.{FaultEntry}
use Rattle.job.specs.declared.Job.{Job}

-- "Gate kinds 0 to 7 are AND, OR, NAND, NOR, XOR, XNOR, NOT and BUF (a copy)"
abbrev pub binary_number : BinaryKind → ℕ
binary_number And = 0
binary_number Or = 1
binary_number Nand = 2
binary_number Nor = 3
binary_number Xor = 4
binary_number Xnor = 5

abbrev pub unary_number : UnaryKind → ℕ
unary_number Not = 6
unary_number Buf = 7

abbrev pub gate_kind : Gate → ℕ
gate_kind (Binary k a b) = binary_number k
gate_kind (Unary k a) = unary_number k

abbrev pub gate_a : Gate → ℕ
gate_a (Binary k a b) = a
gate_a (Unary k a) = a

-- "NOT and BUF read line a and repeat it as b"
abbrev pub gate_b : Gate → ℕ
gate_b (Binary k a b) = b
gate_b (Unary k a) = a

abbrev pub gates_by_kind : ℕ → ℕ → List Gate
gates_by_kind a b =
    Binary And a b ∷ Binary Or a b ∷ Binary Nand a b ∷ Binary Nor a b ∷ Binary Xor a b ∷ Binary Xnor a b ∷ Unary Not a ∷ []

abbrev pub gate_of : ℕ → ℕ → ℕ → Gate
gate_of k a b = get_or (gates_by_kind a b) k (Unary Buf a)

-- "Fault kinds: 0 is stuck-at-0, 1 is stuck-at-1, 2 is an AND bridge, 3 is an OR bridge"
abbrev pub level_number : Bool → ℕ
level_number false = 0
level_number true = 1

abbrev pub bridge_number : Bool → ℕ
bridge_number true = 2
bridge_number false = 3

abbrev pub fault_kind : Fault → ℕ
fault_kind (Stuck l level) = level_number level
fault_kind (Bridge a b is_and) = bridge_number is_and

abbrev pub fault_a : Fault → ℕ
fault_a (Stuck l level) = l
fault_a (Bridge a b is_and) = a

-- "A stuck fault may be on any line and repeats it as b"
abbrev pub fault_b : Fault → ℕ
fault_b (Stuck l level) = l
fault_b (Bridge a b is_and) = b

abbrev pub faults_by_kind : ℕ → ℕ → List Fault
faults_by_kind a b = Stuck a false ∷ Stuck a true ∷ Bridge a b true ∷ []

abbrev pub fault_of : ℕ → ℕ → ℕ → Fault
fault_of k a b = get_or (faults_by_kind a b) k (Bridge a b false)

-- "unused gate entries are BUF of line 0, unused fault entries stuck-at-0 on line 0"; document 02: "Unused entries have part 0."
abbrev pub unused_gate : GateEntry
unused_gate = record { gate = Unary Buf 0 }

abbrev pub unused_fault : FaultEntry
unused_fault = record { fault = Stuck 0 false; part = 0 }

abbrev pub gate_at : Job → ℕ → Gate
gate_at j q = (get_or j.gates q unused_gate).gate

-- "Outputs number from 0 in field order"
abbrev pub output_at : Job → ℕ → ℕ
output_at j o = get_or j.outputs o 0

abbrev pub fault_at : Job → ℕ → Fault
fault_at j i = (get_or j.faults i unused_fault).fault

abbrev pub part_at : Job → ℕ → ℕ
part_at j i = (get_or j.faults i unused_fault).part

abbrev pub lines : Job → ℕ
lines j = j.inputs + j.gate_count

unfoldable pub no_gates : List GateEntry
no_gates = replicate max_gates unused_gate

-- "Unused outputs in a record are line 0."
unfoldable pub no_outputs : List ℕ
no_outputs = replicate max_outputs 0

unfoldable pub no_faults : List FaultEntry
no_faults = replicate max_faults unused_fault

unfoldable pub empty_job : Job
empty_job =
    record {
      inputs = 0;
      gate_count = 0;
      gates = no_gates;
      output_count = 0;
      outputs = no_outputs;
      fault_count = 0;
      faults = no_faults;
    }

unfoldable pub reset : Job → Job
reset j =
    record {
      inputs = j.inputs;
      gate_count = j.gate_count;
      gates = sets no_gates 0 (take j.gate_count j.gates);
      output_count = j.output_count;
      outputs = sets no_outputs 0 (take j.output_count j.outputs);
      fault_count = j.fault_count;
      faults = sets no_faults 0 (take j.fault_count j.faults);
    }
