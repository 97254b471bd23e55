-- `writing::job_bytes` meets its contract.
use Rattle.std.proofs.Common.{◌∙◌, arith}
use Rattle.job.specs.Layout.{max_gates, max_outputs, max_faults, input_count_bits, gate_count_bits, gate_kind_bits, line_bits, output_count_bits, fault_count_bits, fault_kind_bits, part_bits}
use Rattle.writing.proofs.Entries.{bytes_job_bits}
use Rattle.writing.proofs.job_bytes.Goals as goal

pub returns : goal.returns
unfolding max_gates max_outputs max_faults input_count_bits gate_count_bits gate_kind_bits line_bits output_count_bits fault_count_bits fault_kind_bits part_bits
returns c = c.div_ceil.ensures ∙ bytes_job_bits c.args.job (omega arith) (omega arith) (omega arith)
