-- The parts of a job put one after the other (specs/Writing.antt): there is room for each, and the last leaves the memory filled.
--
--   room_inputs, .., room_faults   room for each part, with those before it put
--   room_last                      with all of them put, there is room for none
--   job_filled                     so that filling up the last byte fills the start of the memory with the job's bytes
use Rattle.std.proofs.Common.{◌≡◌, ℕ, ◌-◌, ◌≤◌, List, [], ◌++◌, length, take}
use Rattle.bits.specs.Bits.{bits_of, bytes_of}
use Rattle.bits.proofs.Packed.{Bytes}
use Rattle.job.specs.Layout.{input_count_bits, gate_count_bits, line_bits, output_count_bits, fault_count_bits}
use Rattle.job.specs.declared.Job.{Job}
use Rattle.writing.specs.Pen.{inked_bytes, filled, HasRoom, Puts}
use Rattle.writing.specs.Writing.{gate_bits, fault_bits, all_bits, job_bits}
use Rattle.writing.specs.declared.pen.Pen.{Pen}
use Rattle.writing.proofs.PutBits.{puts_then, room_front, room_after, room_end, start_room, start_filled}

-- the bits of a job from its gate count, its gates, its output count, its outputs, its fault count on
abbrev from_fault_count : Job → List ℕ
from_fault_count j = bits_of fault_count_bits j.fault_count ++ all_bits fault_bits (take j.fault_count j.faults)

abbrev from_outputs : Job → List ℕ
from_outputs j = all_bits (bits_of line_bits) (take j.output_count j.outputs) ++ from_fault_count j

abbrev from_output_count : Job → List ℕ
from_output_count j = bits_of output_count_bits (j.output_count - 1) ++ from_outputs j

abbrev from_gates : Job → List ℕ
from_gates j = all_bits gate_bits (take j.gate_count j.gates) ++ from_output_count j

abbrev from_gate_count : Job → List ℕ
from_gate_count j = bits_of gate_count_bits j.gate_count ++ from_gates j

module _ (j : Job) {p : Pen} {out : List ℕ} (whole : (p.out.now ≡ out) × (p.at ≡ 0) × (p.count ≡ 0)) (fits : length (bytes_of (job_bits j)) ≤ length out) where
  room : HasRoom p (job_bits j)
  room = start_room whole (job_bits j) fits

  pub room_inputs : HasRoom p (bits_of input_count_bits j.inputs)
  unfolding job_bits
  room_inputs = room_front (bits_of input_count_bits j.inputs) (from_gate_count j) room

  module _ {q1 : Pen} (inputs : Puts p (bits_of input_count_bits j.inputs) q1) where
    after_inputs : HasRoom q1 (from_gate_count j)
    unfolding job_bits
    after_inputs = room_after (from_gate_count j) room inputs

    pub room_gate_count : HasRoom q1 (bits_of gate_count_bits j.gate_count)
    room_gate_count = room_front (bits_of gate_count_bits j.gate_count) (from_gates j) after_inputs

    module _ {q2 : Pen} (gate_count : Puts q1 (bits_of gate_count_bits j.gate_count) q2) where
      after_gate_count : HasRoom q2 (from_gates j)
      after_gate_count = room_after (from_gates j) after_inputs gate_count

      pub room_gates : HasRoom q2 (all_bits gate_bits (take j.gate_count j.gates))
      room_gates = room_front (all_bits gate_bits (take j.gate_count j.gates)) (from_output_count j) after_gate_count

      module _ {q3 : Pen} (gates : Puts q2 (all_bits gate_bits (take j.gate_count j.gates)) q3) where
        after_gates : HasRoom q3 (from_output_count j)
        after_gates = room_after (from_output_count j) after_gate_count gates

        pub room_output_count : HasRoom q3 (bits_of output_count_bits (j.output_count - 1))
        room_output_count = room_front (bits_of output_count_bits (j.output_count - 1)) (from_outputs j) after_gates

        module _ {q4 : Pen} (output_count : Puts q3 (bits_of output_count_bits (j.output_count - 1)) q4) where
          after_output_count : HasRoom q4 (from_outputs j)
          after_output_count = room_after (from_outputs j) after_gates output_count

          pub room_outputs : HasRoom q4 (all_bits (bits_of line_bits) (take j.output_count j.outputs))
          room_outputs = room_front (all_bits (bits_of line_bits) (take j.output_count j.outputs)) (from_fault_count j) after_output_count

          module _ {q5 : Pen} (outputs : Puts q4 (all_bits (bits_of line_bits) (take j.output_count j.outputs)) q5) where
            after_outputs : HasRoom q5 (from_fault_count j)
            after_outputs = room_after (from_fault_count j) after_output_count outputs

            pub room_fault_count : HasRoom q5 (bits_of fault_count_bits j.fault_count)
            room_fault_count = room_front (bits_of fault_count_bits j.fault_count) (all_bits fault_bits (take j.fault_count j.faults)) after_outputs

            module _ {q6 : Pen} (fault_count : Puts q5 (bits_of fault_count_bits j.fault_count) q6) where
              pub room_faults : HasRoom q6 (all_bits fault_bits (take j.fault_count j.faults))
              room_faults = room_after (all_bits fault_bits (take j.fault_count j.faults)) after_outputs fault_count

              module _ {q7 : Pen} (faults : Puts q6 (all_bits fault_bits (take j.fault_count j.faults)) q7) where
                all_put : Puts p (job_bits j) q7
                unfolding job_bits
                all_put = puts_then inputs (puts_then gate_count (puts_then gates (puts_then output_count (puts_then outputs (puts_then fault_count faults)))))

                pub room_last : HasRoom q7 []
                room_last = room_end room all_put

                pub job_filled : {after : List ℕ} → after ≡ filled (inked_bytes q7) q7.out.now → Bytes after → after ≡ filled (bytes_of (job_bits j)) out
                job_filled = start_filled whole all_put room_last
