-- `scan` meets its contract: what is kept of the agreeing rows passed.
use Prim.Native.Nat.{◌*◌}
use Rattle.tables.specs.Operations.{part_in}
use Rattle.spectra.specs.Listed.{entries_at}
use Rattle.spectra.specs.Operations.{same_numbers}
use Rattle.locating.specs.Scanning.{numbers_at}
use Rattle.locating.proofs.Scans.{Scanned}
use Rattle.locating.proofs.scan.Given as goal

abbrev pub invariant-loop-c : goal.invariant-loop-c
invariant-loop-c l = Scanned (part_in l.counts.parts) (λ r. same_numbers (numbers_at l.work (r * l.width) l.size (entries_at l.observed.indices.now l.observed.outputs.now)) l.observed.readings.now) l.c l.seen
