-- Small circuits, by computation: an input and its NOT, both outputs; the NOT stuck at 0, the input stuck at 1 (specs/Circuit.antt, specs/Operations.antt, specs/Family.antt).
--
--   all_listed    the tables of a job's circuits, circuit after circuit, output after output
--   all_bytes     they have a byte for each circuit and output
--   unlike        circuits that differ at the second output alone, with as many ones, are not alike
use Prim.Native.Nat.{◌+◌, ◌*◌, ◌%◌}
use mathlib.Core.Path.{◌≡◌, refl}
use mathlib.Core.Bool.{true, false}
use mathlib.Core.List.{[], ◌∷◌}
use Rattle.bits.specs.Bits.{bytes_of}
use Rattle.bits.specs.Blocks.{block}
use Rattle.bits.specs.Building.{built_to}
use Rattle.bits.specs.Passing.{passing}
use Rattle.bits.specs.Packed.{tabulate, packed}
use Rattle.gates.specs.Answers.{answer}
use Rattle.gates.specs.Values.{input_value}
use Rattle.job.specs.declared.Fault.TheVariants.{Stuck}
use Rattle.job.specs.declared.Gate.TheVariants.{Unary}
use Rattle.job.specs.declared.Job.{Job}
use Rattle.job.specs.declared.UnaryKind.TheVariants.{Not}
use Rattle.tables.specs.Circuit.{gate_value, own_value, values_to, fixed_by, fixing_of, circuit_entry, circuit_table}
use Rattle.tables.specs.Family.{Family, same_tables}
use Rattle.tables.specs.Operations.{tables_to, tables_bytes}

abbrev sample : Job
sample =
    record {
      inputs = 1;
      gate_count = 1;
      gates = record { gate = Unary Not 0 } ∷ [];
      output_count = 2;
      outputs = 0 ∷ 1 ∷ [];
      fault_count = 2;
      faults = record { fault = Stuck 1 false; part = 1 } ∷ record { fault = Stuck 0 true; part = 2 } ∷ [];
    }

pub all_listed : tables_to sample 3 ≡ 64 ∷ 128 ∷ 64 ∷ 0 ∷ 192 ∷ 0 ∷ []
unfolding block circuit_table circuit_entry fixing_of fixed_by values_to own_value gate_value built_to packed tabulate bytes_of answer input_value
all_listed = refl

pub all_bytes : tables_bytes sample ≡ 6
all_bytes = refl

-- at output 0 two circuits have no 1, at output 1 each has one
abbrev crossed : Family
crossed = record { inputs = 1; circuits = 2; outputs = 2; part = λ c. c; entry = λ c o m. o * ((c + m) % 2) }

pub unlike : same_tables crossed 0 1 ≡ false
unfolding passing
unlike = refl
