-- That one size fits another, computed from the limits' values (job's specs/Layout.antt).
--
--   all_rows_fit   the bytes of tables of fifteen inputs, for all circuits and outputs of a job, can be counted in a word
--   one_output     a job may have one output
use Prim.Native.Nat.{◌*◌, ◌^◌, ◌≤◌, ◌<◌}
use lib.Dec.{lit<, lit≤}
use Rattle.job.specs.Layout.{max_outputs, max_faults}
use Rattle.spectra.specs.Rows.{max_rows}

pub all_rows_fit : max_rows * 4096 < 2 ^ 64
unfolding max_faults max_outputs
all_rows_fit = lit< tt

pub one_output : 1 ≤ max_outputs
unfolding max_outputs
one_output = lit≤ tt
