-- Short jobs of one input, by computation (specs/Reading.antt).
--
--   four_first    a NOT whose line a is its own, and whose line b is another: 4, not 5
--   six_first     two outputs, of which the first is no line and the second is cut off: 6, not 1
--   cut_loose     bytes that end before the fault count, where the output is the input and a NOT of it is loose: 19, not 1
--   cut_tight     the same where the output is the NOT: 1
--   seven_first   a bridge of lines 1 and 0: 7, not 8
--   cut_part      four outputs, and a fault of line 1 whose part is cut: 1, not 7
--   eight_first   a stuck line 0 whose line b is 1, with part 0: 8, not 21
--   no_part       the same whose line b is 0: 21
use mathlib.Core.Path.{◌≡◌, refl}
use mathlib.Core.List.{[], ◌∷◌}
use Rattle.bits.specs.Answer.Answer.{refused}
use Rattle.bits.specs.Bits.{bits_of, value_from, value_of, string_of}
use Rattle.bits.specs.Building.{built_to}
use Rattle.bits.specs.Parser.{field}
use Rattle.job.specs.Dependence.{depends, loose, none_loose}
use Rattle.job.specs.Layout.{max_inputs, max_gates, max_outputs, max_faults, max_part, input_count_bits, gate_count_bits, gate_kind_bits, line_bits, output_count_bits, fault_count_bits, fault_kind_bits, part_bits}
use Rattle.job.specs.Record.{no_gates, no_outputs, no_faults, empty_job}
use Rattle.reading.specs.Reading.{entry_fields, gate, output_line, fault, entries_from, from_faults, from_fault_count, from_outputs, from_output_count, from_gates, whole_job, reading}

pub record Answers : Type 0 where
  pub four_first : reading (16 ∷ 56 ∷ 8 ∷ 0 ∷ []) ≡ refused 4
  pub six_first : reading (16 ∷ 8 ∷ 16 ∷ []) ≡ refused 6
  pub cut_loose : reading (16 ∷ 56 ∷ 0 ∷ 0 ∷ 0 ∷ []) ≡ refused 19
  pub cut_tight : reading (16 ∷ 56 ∷ 0 ∷ 0 ∷ 8 ∷ []) ≡ refused 1
  pub seven_first : reading (16 ∷ 0 ∷ 0 ∷ 96 ∷ 32 ∷ 1 ∷ []) ≡ refused 7
  pub cut_part : reading (16 ∷ 24 ∷ 0 ∷ 0 ∷ 0 ∷ 2 ∷ 1 ∷ 2 ∷ []) ≡ refused 1
  pub eight_first : reading (16 ∷ 0 ∷ 0 ∷ 64 ∷ 0 ∷ 64 ∷ []) ≡ refused 8
  pub no_part : reading (16 ∷ 0 ∷ 0 ∷ 64 ∷ 0 ∷ 0 ∷ []) ≡ refused 21

pub answers : Answers
unfolding
    bits_of
    value_from
    value_of
    string_of
    field
    max_inputs
    max_gates
    max_outputs
    max_faults
    max_part
    input_count_bits
    gate_count_bits
    gate_kind_bits
    line_bits
    output_count_bits
    fault_count_bits
    fault_kind_bits
    part_bits
    built_to
    depends
    loose
    none_loose
    no_gates
    no_outputs
    no_faults
    empty_job
    entry_fields
    gate
    output_line
    fault
    entries_from
    from_faults
    from_fault_count
    from_outputs
    from_output_count
    from_gates
    whole_job
    reading
answers =
    record {
      four_first = refl;
      six_first = refl;
      cut_loose = refl;
      cut_tight = refl;
      seven_first = refl;
      cut_part = refl;
      eight_first = refl;
      no_part = refl;
    }
