-- Believed: writing a job (document 01, "Job layout" and "Refusal by operation"; document 02, CR 2 and 3).
--
--   gate_bits, fault_bits   the bits of one gate, of one fault
--   job_bits                the string of bits of a job, without its spare bits
--   written                 what writing answers and fills, given the length of the lent memory
use Rattle.std.specs.Prelude.{ℕ, ◌-◌, List, ◌++◌, leb, length, take}
use Rattle.std.specs.List.{flat_map}
use Rattle.bits.specs.Answer.{Answer, Fills, unless, onward}
use Rattle.bits.specs.Answer.Answer.{gives}
use Rattle.bits.specs.Bits.{bits_of, bytes_of}
use Rattle.job.specs.Check.{checked}
use Rattle.job.specs.Layout.{input_count_bits, gate_count_bits, gate_kind_bits, line_bits, output_count_bits, fault_count_bits, fault_kind_bits, part_bits}
use Rattle.job.specs.Record.{gate_kind, gate_a, gate_b, fault_kind, fault_a, fault_b}
use Rattle.job.specs.declared.FaultEntry.{FaultEntry}
use Rattle.job.specs.declared.GateEntry.{GateEntry}
use Rattle.job.specs.declared.Job.{Job}

-- "a kind .., line a (7), line b (7)"
unfoldable pub entry_bits : ℕ → ℕ → ℕ → ℕ → List ℕ
entry_bits kind_bits kind a b = bits_of kind_bits kind ++ (bits_of line_bits a ++ bits_of line_bits b)

abbrev pub gate_bits : GateEntry → List ℕ
gate_bits e = entry_bits gate_kind_bits (gate_kind e.gate) (gate_a e.gate) (gate_b e.gate)

-- "a part number .. in 6 bits after line b"
abbrev pub fault_bits : FaultEntry → List ℕ
fault_bits e = entry_bits fault_kind_bits (fault_kind e.fault) (fault_a e.fault) (fault_b e.fault) ++ bits_of part_bits e.part

abbrev pub all_bits : {A : Type 0} → (A → List ℕ) → List A → List ℕ
all_bits bits entries = flat_map bits entries

-- "In order: input count n (4 bits); gate count g (7); per gate .."; "After the gates comes a field of 2 bits, the number of outputs less 1, then each
-- output line in 7 bits"; "fault count f (6); per fault ..". Unused entries are not written.
unfoldable pub job_bits : Job → List ℕ
job_bits j =
    bits_of input_count_bits j.inputs
    ++ (bits_of gate_count_bits j.gate_count
    ++ (all_bits gate_bits (take j.gate_count j.gates)
    ++ (bits_of output_count_bits (j.output_count - 1)
    ++ (all_bits (bits_of line_bits) (take j.output_count j.outputs)
    ++ (bits_of fault_count_bits j.fault_count
    ++ all_bits fault_bits (take j.fault_count j.faults))))))

-- the checks of a record, "then 10, the lent memory is too short"; "Writing gives the number of bytes"
unfoldable pub written : Job → ℕ → Answer (Fills ℕ)
written j room =
    onward (checked j) (λ _.
    unless (leb (length (bytes_of (job_bits j))) room) 10
    (gives (record { value = length (bytes_of (job_bits j)); filled = bytes_of (job_bits j) })))
