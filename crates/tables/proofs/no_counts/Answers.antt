-- `tables::no_counts` meets its contract.
use mathlib.Core.Path.{refl}
use Rattle.job.specs.Layout.{max_faults}
use Rattle.tables.proofs.no_counts.Goals as goal

pub returns : goal.returns
unfolding max_faults
returns c = refl
