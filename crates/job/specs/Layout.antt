-- Believed: the sizes that the documents fix: the ranges of document 01's first paragraph and the widths of "Job layout", with the outputs and the parts of
-- document 02, CR 2 and 3.
use Rattle.std.specs.Prelude.{ℕ}

-- "1 to 8 inputs, 0 to 64 gates, .. and 0 to 63 single faults"
unfoldable pub max_inputs : ℕ
max_inputs = 8

unfoldable pub max_gates : ℕ
max_gates = 64

-- "outputs not 1 to 4"
unfoldable pub max_outputs : ℕ
max_outputs = 4

unfoldable pub max_faults : ℕ
max_faults = 63

-- "a part number, 1 to 63"
unfoldable pub max_part : ℕ
max_part = 63

-- "In order: input count n (4 bits); gate count g (7);
unfoldable pub input_count_bits : ℕ
input_count_bits = 4

unfoldable pub gate_count_bits : ℕ
gate_count_bits = 7

-- per gate a kind (3), line a (7), line b (7); ..
unfoldable pub gate_kind_bits : ℕ
gate_kind_bits = 3

unfoldable pub line_bits : ℕ
line_bits = 7

-- (document 02: "After the gates comes a field of 2 bits, the number of outputs less 1, then each output line in 7 bits")
unfoldable pub output_count_bits : ℕ
output_count_bits = 2

-- fault count f (6); per fault a kind (2), line a (7), line b (7)"
unfoldable pub fault_count_bits : ℕ
fault_count_bits = 6

unfoldable pub fault_kind_bits : ℕ
fault_kind_bits = 2

-- (document 02: "Each fault gains a part number, 1 to 63, in 6 bits after line b")
unfoldable pub part_bits : ℕ
part_bits = 6
