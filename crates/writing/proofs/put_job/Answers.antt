-- `writing::put_job` meets its contract.
use Rattle.std.proofs.Common.{rules}
use Rattle.job.specs.Layout.{input_count_bits, gate_count_bits, output_count_bits, fault_count_bits}
use Rattle.writing.proofs.Parts.{room_inputs, room_gate_count, room_gates, room_output_count, room_outputs, room_fault_count, room_faults, room_last, job_filled}
use Rattle.writing.proofs.Widths.{all_gates_fit, all_lines_fit, all_faults_fit}
use Rattle.writing.proofs.put_job.Goals as goal

pub field-requires-clause-room : goal.field-requires-clause-room
unfolding input_count_bits
field-requires-clause-room c = room_inputs c.args.job c.new-pen.ensures.start c.requires.room

pub field-requires-2-clause-room : goal.field-requires-2-clause-room
unfolding input_count_bits gate_count_bits
field-requires-2-clause-room c = room_gate_count c.args.job c.new-pen.ensures.start c.requires.room c.field.ensures

pub gates-requires-clause-room : goal.gates-requires-clause-room
unfolding input_count_bits gate_count_bits
gates-requires-clause-room c = room_gates c.args.job c.new-pen.ensures.start c.requires.room c.field.ensures c.field-2.ensures

pub gates-requires-clause-gates_fit : goal.gates-requires-clause-gates_fit
gates-requires-clause-gates_fit c = all_gates_fit c.requires.valid

pub field-requires-3-clause-room : goal.field-requires-3-clause-room
unfolding input_count_bits gate_count_bits output_count_bits
field-requires-3-clause-room c = room_output_count c.args.job c.new-pen.ensures.start c.requires.room c.field.ensures c.field-2.ensures c.gates.ensures

pub outputs-requires-clause-room : goal.outputs-requires-clause-room
unfolding input_count_bits gate_count_bits output_count_bits
outputs-requires-clause-room c = room_outputs c.args.job c.new-pen.ensures.start c.requires.room c.field.ensures c.field-2.ensures c.gates.ensures c.field-3.ensures

pub outputs-requires-clause-lines_fit : goal.outputs-requires-clause-lines_fit
outputs-requires-clause-lines_fit c = all_lines_fit c.requires.valid

pub field-requires-4-clause-room : goal.field-requires-4-clause-room
unfolding input_count_bits gate_count_bits output_count_bits fault_count_bits
field-requires-4-clause-room c =
    room_fault_count c.args.job c.new-pen.ensures.start c.requires.room c.field.ensures c.field-2.ensures c.gates.ensures c.field-3.ensures c.outputs.ensures

pub faults-requires-clause-room : goal.faults-requires-clause-room
unfolding input_count_bits gate_count_bits output_count_bits fault_count_bits
faults-requires-clause-room c =
    room_faults c.args.job c.new-pen.ensures.start c.requires.room c.field.ensures c.field-2.ensures c.gates.ensures c.field-3.ensures c.outputs.ensures c.field-4.ensures

pub faults-requires-clause-faults_fit : goal.faults-requires-clause-faults_fit
faults-requires-clause-faults_fit c = all_faults_fit c.requires.valid

pub finish-requires : goal.finish-requires
unfolding input_count_bits gate_count_bits output_count_bits fault_count_bits
finish-requires c =
    room_last c.args.job c.new-pen.ensures.start c.requires.room c.field.ensures c.field-2.ensures c.gates.ensures c.field-3.ensures c.outputs.ensures c.field-4.ensures c.faults.ensures

pub returns : goal.returns
unfolding input_count_bits gate_count_bits output_count_bits fault_count_bits
returns c =
    job_filled c.args.job c.new-pen.ensures.start c.requires.room c.field.ensures c.field-2.ensures c.gates.ensures c.field-3.ensures c.outputs.ensures c.field-4.ensures c.faults.ensures
    (search rules) (λ i. (c.type_inv.out i).fits)
