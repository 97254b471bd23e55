-- How many digits a job's numbers have at most, computed from the limits' values (job's specs/Layout.antt).
--
--   inputs_digit, outputs_digit, gates_digits, faults_digits   one digit of inputs and of an output, two of gates and of circuits
--   places_digits   three of an index, and of a coefficient
use Prim.Native.Nat.{◌+◌, ◌^◌, ◌<◌}
use lib.Dec.{lit<}
use Rattle.job.specs.Layout.{max_inputs, max_gates, max_outputs, max_faults}

pub inputs_digit : max_inputs < 10
unfolding max_inputs
inputs_digit = lit< tt

pub outputs_digit : max_outputs < 10
unfolding max_outputs
outputs_digit = lit< tt

pub gates_digits : max_gates < 100
unfolding max_gates
gates_digits = lit< tt

pub faults_digits : max_faults + 1 < 100
unfolding max_faults
faults_digits = lit< tt

pub places_digits : 2 ^ max_inputs < 1000
unfolding max_inputs
places_digits = lit< tt
