-- That one size fits another, computed from the limits' values (job's specs/Layout.antt, chooser's specs/Matrix.antt).
--
--   faults_rows      the method has a row for each circuit of a job
--   faults_entries   a signature has room for as many entries as a job has faults
--   shift_fits       the inputs are fewer than the bits of two bytes
--   inputs_small     the number of indices fits in two bytes
--   places_fit       and so does an index
--   entries_fit      so does an entry's number
use Prim.Native.Nat.{ℕ, ◌+◌, ◌^◌, ◌≤◌, ◌<◌}
use native.Mathlib.Omega.{arith}
use lib.Dec.{lit<, lit≤}
use Rattle.job.specs.Layout.{max_inputs, max_outputs, max_faults}
use Rattle.chooser.specs.Matrix.{max_rows, max_signature}
use Rattle.choosing.specs.Looking.{max_places, max_entries}

pub faults_rows : max_faults + 1 ≤ max_rows
unfolding max_faults max_rows
faults_rows = lit≤ tt

pub faults_entries : max_faults ≤ max_signature
unfolding max_faults max_signature
faults_entries = lit≤ tt

pub shift_fits : {n : ℕ} → n ≤ max_inputs → n < 16
unfolding max_inputs
shift_fits h = omega arith

pub inputs_small : 2 ^ max_inputs < 2 ^ 16
unfolding max_inputs
inputs_small = lit< tt

pub places_fit : max_places ≤ 2 ^ 16
unfolding max_places max_inputs
places_fit = lit≤ tt

pub entries_fit : max_entries ≤ 2 ^ 16
unfolding max_entries max_outputs max_places max_inputs
entries_fit = lit≤ tt
