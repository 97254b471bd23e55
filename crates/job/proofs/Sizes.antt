-- That one size fits another. These facts are so because of the limits' values (specs/Layout.antt), and are computed here; laws elsewhere name the
-- limits, and take from here what they need to know of them. With other limits this file is computed anew.
--
--   all_lines, all_inputs, all_gates, all_faults, all_parts   the fields hold each line, each count and each part
--   counts_of_outputs   the counts of outputs are the numbers of their field, and one more
--   eight_kinds, four_kinds   the kinds are the numbers of their fields
--   counts_of_faults    a count of faults that its field holds is within the limit
--   most_inputs         the input numbers fit two bytes, with room for a carry
--   inputs_few          the inputs are fewer than the bits of a word
--   most_places         places of coefficients, for all circuits of a job, can be counted in a word
use Prim.Native.Nat.{ℕ, suc, ◌+◌, ◌*◌, ◌^◌, ◌≤◌, ◌<◌}
use native.Mathlib.Nat.{le_trans}
use mathlib.Core.Path.{◌≡◌, refl}
use lib.Dec.{lit<, lit≤}
use Rattle.bits.proofs.TableSizes.{fifteen_few}
use Rattle.job.specs.Layout.{max_inputs, max_gates, max_outputs, max_faults, max_part, input_count_bits, gate_count_bits, gate_kind_bits, line_bits, output_count_bits, fault_count_bits, fault_kind_bits, part_bits}

pub all_lines : max_inputs + max_gates ≤ 2 ^ line_bits
unfolding max_inputs max_gates line_bits
all_lines = lit≤ tt

pub all_inputs : max_inputs < 2 ^ input_count_bits
unfolding max_inputs input_count_bits
all_inputs = lit< tt

pub all_gates : max_gates < 2 ^ gate_count_bits
unfolding max_gates gate_count_bits
all_gates = lit< tt

pub all_faults : max_faults < 2 ^ fault_count_bits
unfolding max_faults fault_count_bits
all_faults = lit< tt

pub all_parts : max_part < 2 ^ part_bits
unfolding max_part part_bits
all_parts = lit< tt

pub counts_of_outputs : 2 ^ output_count_bits ≡ max_outputs
unfolding output_count_bits max_outputs
counts_of_outputs = refl

pub eight_kinds : 2 ^ gate_kind_bits ≡ 8
unfolding gate_kind_bits
eight_kinds = refl

pub four_kinds : 2 ^ fault_kind_bits ≡ 4
unfolding fault_kind_bits
four_kinds = refl

pub counts_of_faults : 2 ^ fault_count_bits ≤ suc max_faults
unfolding fault_count_bits max_faults
counts_of_faults = lit≤ tt

pub most_inputs : max_inputs ≤ 15
unfolding max_inputs
most_inputs = lit≤ tt

pub most_places : (max_faults + 1) * max_outputs * 2 ^ max_inputs < 2 ^ 64
unfolding max_faults max_outputs max_inputs
most_places = lit< tt

pub inputs_few : {n : ℕ} → n ≤ max_inputs → n < 64
inputs_few h = fifteen_few (le_trans h most_inputs)
