-- `report::job_report` meets its contract: it is the report with the work that it holds.
use mathlib.Core.Path.{ap}
use Rattle.report.specs.Program.{printed, program_work, program_report}
use Rattle.report.proofs.job_report.Goals as goal

pub returns : goal.returns
unfolding program_report program_work
returns c = ap printed c.report.ensures
