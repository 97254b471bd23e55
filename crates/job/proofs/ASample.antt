-- Small circuits, by computation: has one a loose gate, and which test refuses it first (specs/Dependence.antt, specs/Check.antt).
--
--   chain           the output's own gate is not loose, nor is one that it reads through others
--   left_over       a gate that drives nothing is
--   output_input    where the output is an input, every gate is
--   input_alone     and without gates there is none
--   unused_input    an input that nobody reads is allowed
--   no_influence    reading counts, also where it has no influence
--   second_output   nor is one that only the second output needs
--   count_first     a number of outputs that isn't 1 to 4 is refused before an output that is no line
--   output_first    this one before a loose gate
--   loose_first     and a loose gate before a fault count over 63
--   eight_first     a bridge whose lines are exchanged is refused before a part that isn't 1 to 63
--   no_part         part 0 is refused
--   last_part       63 is not
--   past_parts      64 is
use Prim.Native.Nat.{ℕ}
use mathlib.Core.Path.{◌≡◌, refl}
use mathlib.Core.Bool.{true, false}
use mathlib.Core.List.{[], ◌∷◌}
use lib.ListN.{set}
use Rattle.bits.specs.Answer.Answer.{gives, refused}
use Rattle.bits.specs.Building.{built_to}
use Rattle.job.specs.Check.{checked, in_turn}
use Rattle.job.specs.Dependence.{depends, loose, none_loose}
use Rattle.job.specs.Layout.{max_inputs, max_gates, max_outputs, max_faults, max_part}
use Rattle.job.specs.Record.{no_gates, no_outputs, no_faults}
use Rattle.job.specs.declared.BinaryKind.TheVariants.{And, Or, Xor}
use Rattle.job.specs.declared.Fault.TheVariants.{Bridge}
use Rattle.job.specs.declared.Gate.{Gate}
use Rattle.job.specs.declared.Gate.TheVariants.{Unary, Binary}
use Rattle.job.specs.declared.GateEntry.{GateEntry}
use Rattle.job.specs.declared.Job.{Job}
use Rattle.job.specs.declared.UnaryKind.TheVariants.{Not}

abbrev entry : Gate → GateEntry
entry g = record { gate = g }

pub chain : none_loose 1 (entry (Unary Not 0) ∷ entry (Unary Not 1) ∷ entry (Unary Not 2) ∷ []) (3 ∷ []) ≡ true
unfolding none_loose loose depends built_to
chain = refl

pub left_over : none_loose 2 (entry (Binary Or 0 1) ∷ entry (Binary And 0 1) ∷ []) (3 ∷ []) ≡ false
unfolding none_loose loose depends built_to
left_over = refl

pub output_input : none_loose 2 (entry (Binary And 0 1) ∷ []) (0 ∷ []) ≡ false
unfolding none_loose loose depends built_to
output_input = refl

pub input_alone : none_loose 2 [] (0 ∷ []) ≡ true
unfolding none_loose loose depends built_to
input_alone = refl

pub unused_input : none_loose 2 (entry (Unary Not 1) ∷ []) (2 ∷ []) ≡ true
unfolding none_loose loose depends built_to
unused_input = refl

pub no_influence : none_loose 1 (entry (Unary Not 0) ∷ entry (Binary Xor 1 1) ∷ []) (2 ∷ []) ≡ true
unfolding none_loose loose depends built_to
no_influence = refl

pub second_output : none_loose 1 (entry (Unary Not 0) ∷ []) (0 ∷ 1 ∷ []) ≡ true
unfolding none_loose loose depends built_to
second_output = refl

-- one input, a NOT of it, and a fault too many
abbrev crowded : ℕ → ℕ → Job
crowded count output =
    record {
      inputs = 1;
      gate_count = 1;
      gates = set no_gates 0 (entry (Unary Not 0));
      output_count = count;
      outputs = set no_outputs 0 output;
      fault_count = 64;
      faults = no_faults;
    }

-- two inputs, no gate, and an AND bridge of lines a and b with a part
abbrev bridged : ℕ → ℕ → ℕ → Job
bridged a b part =
    record {
      inputs = 2;
      gate_count = 0;
      gates = no_gates;
      output_count = 1;
      outputs = no_outputs;
      fault_count = 1;
      faults = set no_faults 0 (record { fault = Bridge a b true; part = part });
    }

pub record FirstRefusals : Type 0 where
  pub count_first : checked (crowded 5 2) ≡ refused 20
  pub output_first : checked (crowded 1 2) ≡ refused 6
  pub loose_first : checked (crowded 1 0) ≡ refused 19
  pub eight_first : checked (bridged 1 0 0) ≡ refused 8
  pub no_part : checked (bridged 0 1 0) ≡ refused 21
  pub last_part : checked (bridged 0 1 63) ≡ gives tt
  pub past_parts : checked (bridged 0 1 64) ≡ refused 21

pub first_refusals : FirstRefusals
unfolding checked in_turn none_loose loose depends built_to max_inputs max_gates max_outputs max_faults max_part no_gates no_outputs no_faults
first_refusals =
    record {
      count_first = refl;
      output_first = refl;
      loose_first = refl;
      eight_first = refl;
      no_part = refl;
      last_part = refl;
      past_parts = refl;
    }
