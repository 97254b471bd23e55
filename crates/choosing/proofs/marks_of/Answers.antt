-- `choosing::marks_of` meets its contract.
use mathlib.Core.Path.{sym, ap}
use Rattle.job.specs.Layout.{max_faults}
use Rattle.choosing.specs.Looking.{marks_of}
use Rattle.choosing.specs.declared.Purpose.{Purpose}
use Rattle.choosing.proofs.marks_of.Goals as goal

pub returns-in-Detecting : goal.returns-in-Detecting
unfolding max_faults
returns-in-Detecting c = ap (λ (p : Purpose). marks_of p c.args.counts.parts) (sym c.in-Detecting.is)
