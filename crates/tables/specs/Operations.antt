-- Believed: the operations on tables (document 01, "Tables" and "Refusal by operation"; document 02, CR 2 and 3).
--
--   table_of      the table of one circuit at one output, given the bytes of a job, both numbers and the length of the lent memory
--   tables_to     the tables of the first circuits of a job, circuit after circuit, output after output
--   tables_bytes  as many bytes as those of all its circuits
--   counts_of     the job's counts, and the parts of its circuits
--   part_in       the part of a circuit, from a list of parts
--   tables_of     the tables of all its circuits, with these
--   delivered     what the second operation answers and leaves
use Rattle.std.specs.Prelude.{ℕ, ◌+◌, ◌*◌, List, ◌∷◌, map, leb, ltb, length, get_or, replicate}
use Rattle.bits.specs.Answer.{Answer, Fills, Leaves, leaves, unless, onward}
use Rattle.bits.specs.Answer.Answer.{gives, refused}
use Rattle.bits.specs.Blocks.{block}
use Rattle.job.specs.Layout.{max_faults}
use Rattle.job.specs.declared.FaultEntry.{FaultEntry}
use Rattle.job.specs.declared.Job.{Job}
use Rattle.reading.specs.Reading.{reading}
use Rattle.bits.specs.Sizes.{table_bytes}
use Rattle.tables.specs.Circuit.{circuit_table}
use Rattle.tables.specs.declared.Counts.{Counts}
use Rattle.tables.specs.declared.Delivery.{Delivery}

-- "Table of a circuit: reading's, then 11, circuit number over f, then 10"; "20: output number too high, in the table operation after 11"
unfoldable pub table_of : List ℕ → ℕ → ℕ → ℕ → Answer (Fills (Unit {0}))
table_of s c o room =
    onward (reading s) (λ j.
    unless (leb c j.fault_count) 11
    (unless (ltb o j.output_count) 20
    (unless (leb (table_bytes j.inputs) room) 10
    (gives (record { value = tt; filled = circuit_table j c o })))))

-- the tables of circuits 0 to c − 1
abbrev pub tables_to : Job → ℕ → List ℕ
tables_to j c = block c (λ i. block j.output_count (circuit_table j i))

abbrev pub tables_bytes : Job → ℕ
tables_bytes j = (j.fault_count + 1) * j.output_count * table_bytes j.inputs

-- "The good circuit has part 0", and each entry of the fault list its own
abbrev pub parts_of : Job → List ℕ
parts_of j = 0 ∷ map (λ (e : FaultEntry). e.part) j.faults

abbrev pub part_in : List ℕ → ℕ → ℕ
part_in parts c = get_or parts c 0

abbrev pub counts_of : Job → Counts
counts_of j =
    record {
      inputs = j.inputs;
      gates = j.gate_count;
      outputs = j.output_count;
      faults = j.fault_count;
      parts = parts_of j;
    }

-- reading's refusals, then 10: fewer than (f+1) × outputs × ((N+7) div 8) bytes are lent
unfoldable pub tables_of : List ℕ → ℕ → Answer (Fills Counts)
tables_of s room =
    onward (reading s) (λ j.
    unless (leb (tables_bytes j) room) 10
    (gives (record { value = counts_of j; filled = tables_to j (j.fault_count + 1) })))

abbrev pub no_counts : Counts
no_counts = record { inputs = 0; gates = 0; outputs = 0; faults = 0; parts = replicate (max_faults + 1) 0 }

-- the counts, and how many bytes are filled; a refusal leaves the memory as it was
abbrev pub delivered : Answer (Fills Counts) → List ℕ → Leaves Delivery
delivered (gives w) memory = record { answer = gives (record { counts = w.value; bytes = length w.filled }); memory = (leaves (gives w) memory).memory }
delivered (refused i) memory = record { answer = refused i; memory = memory }
