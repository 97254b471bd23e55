-- That one size fits another, computed from the limits' values (job's specs/Layout.antt, specs/Work.antt).
--
--   table_fits        the largest table has as many bytes as are kept for one
--   byte_inputs       an input behind the third has a bit of a byte
--   all_tables_fit    places in the tables of the most circuits at the most outputs fit a word
--   block_fits        a block has room for the largest table
--   faults_fit        a set has room for the faults of a job
use Prim.Native.Nat.{◌+◌, ◌*◌, ◌^◌, ◌≤◌, ◌<◌}
use lib.Dec.{lit<, lit≤}
use Rattle.bits.specs.Sets.{max_members}
use Rattle.job.specs.Layout.{max_inputs, max_outputs, max_faults}
use Rattle.bits.specs.Sizes.{table_bytes}
use Rattle.tables.specs.Work.{max_table_bytes, block_bytes}

pub table_fits : table_bytes max_inputs ≤ max_table_bytes
unfolding max_inputs max_table_bytes
table_fits = lit≤ tt

pub byte_inputs : max_inputs ≤ 11
unfolding max_inputs
byte_inputs = lit≤ tt

pub all_tables_fit : (max_faults + 1) * max_outputs * max_table_bytes < 2 ^ 64
unfolding max_faults max_outputs max_table_bytes
all_tables_fit = lit< tt

pub block_fits : max_table_bytes ≤ block_bytes
unfolding max_table_bytes block_bytes
block_fits = lit≤ tt

pub faults_fit : max_faults < max_members
unfolding max_faults max_members
faults_fit = lit< tt
