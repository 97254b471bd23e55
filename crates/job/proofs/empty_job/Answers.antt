-- `job::empty_job` meets its contract.
use mathlib.Core.Path.{refl}
use Rattle.job.proofs.empty_job.Goals as goal

pub returns : goal.returns
unfolding Rattle.job.specs.Record.empty_job Rattle.job.specs.Record.no_gates Rattle.job.specs.Record.no_outputs Rattle.job.specs.Record.no_faults Rattle.job.specs.Layout.max_gates Rattle.job.specs.Layout.max_outputs Rattle.job.specs.Layout.max_faults
returns c = refl
