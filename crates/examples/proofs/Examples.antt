-- The one fact over the list of examples, by computation.
use mathlib.Core.Path.{◌≡◌, refl}
use mathlib.Core.Bool.{true}
use Rattle.bits.specs.Bounds.{all_below}
use Rattle.bits.specs.Bits.{bits_of, value_from, value_of, string_of, bytes_to, bytes_of}
use Rattle.bits.specs.Blocks.{block}
use Rattle.bits.specs.Building.{built_to}
use Rattle.bits.specs.Field.{spare_only}
use Rattle.bits.specs.Parser.{field}
use Rattle.job.specs.Dependence.{depends, loose, none_loose}
use Rattle.job.specs.Layout.{max_inputs, max_gates, max_outputs, max_faults, max_part, input_count_bits, gate_count_bits, gate_kind_bits, line_bits, output_count_bits, fault_count_bits, fault_kind_bits, part_bits}
use Rattle.job.specs.Record.{no_gates, no_outputs, no_faults, empty_job}
use Rattle.reading.specs.Reading.{entry_fields, gate, output_line, fault, entries_from, spare, from_end, from_faults, from_fault_count, from_outputs, from_output_count, from_gates, whole_job, reading}
use Rattle.bits.specs.Packed.{tabulate, packed, entry}
use Rattle.spectra.specs.Operations.{zero_from, table_ok, spectrum_of, same_numbers, is_spectrum, undone_of}
use Rattle.spectra.specs.Spectrum.{inside, sum_to, subset_sum, coefficient, spectrum, recovered}
use Rattle.gates.specs.Answers.{answers, answer}
use Rattle.gates.specs.Values.{input_value, bridged}
use Rattle.tables.specs.Circuit.{gate_value, own_value, values_to, fixed_by, fixing_of, circuit_entry}
use Rattle.bits.specs.Passing.{passing}
use Rattle.method.specs.Method.{without, some_below, agree, some_pair, useful, full, takes, drops, signature, pair_with, pair_from}
use Rattle.choosing.specs.Choosing.{scan_to, outputs_at, entries_of, chosen_from}
use lib.Count.{ones_in, ones}
use Rattle.chooser.specs.Matrix.{max_signature, zeros}
use Rattle.report_text.specs.Text.{inputs_word, gates_word, faults_word, signature_word, digits, decimal, numbers_text, entries_text, circuit_lines}
use Rattle.examples.specs.Examples.{passes, all_pass, job_a, text_a, examples}

pub examples_pass : all_pass examples ≡ true
unfolding
    passes
    all_pass
    examples
    job_a
    text_a
    bits_of
    value_from
    value_of
    string_of
    spare_only
    field
    max_inputs
    max_gates
    max_outputs
    max_faults
    max_part
    input_count_bits
    gate_count_bits
    gate_kind_bits
    line_bits
    output_count_bits
    fault_count_bits
    fault_kind_bits
    part_bits
    built_to
    depends
    loose
    none_loose
    no_gates
    no_outputs
    no_faults
    empty_job
    entry_fields
    gate
    output_line
    fault
    entries_from
    spare
    from_end
    from_faults
    from_fault_count
    from_outputs
    from_output_count
    from_gates
    whole_job
    block outputs_at entries_of max_signature zeros inputs_word gates_word faults_word signature_word digits decimal numbers_text entries_text circuit_lines
    answers answer input_value gate_value own_value values_to bridged fixed_by fixing_of circuit_entry
    all_below passing without some_below agree some_pair useful full takes drops signature pair_with pair_from scan_to chosen_from ones_in ones
    reading bytes_to bytes_of tabulate packed entry zero_from table_ok spectrum_of same_numbers is_spectrum undone_of inside sum_to subset_sum coefficient spectrum recovered
examples_pass = refl
