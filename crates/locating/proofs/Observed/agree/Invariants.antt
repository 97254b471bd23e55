-- `locating::Observed::agree` meets its contract: the numbers passed are the readings.
use Rattle.spectra.specs.Listed.{entries_at}
use Rattle.spectra.proofs.Recovery.{Comparing}
use Rattle.locating.specs.Scanning.{numbers_at}
use Rattle.locating.proofs.Observed.agree.Given as goal

abbrev pub invariant-loop-i : goal.invariant-loop-i
invariant-loop-i l = Comparing (numbers_at l.work l.start l.size (entries_at l.self.indices.now l.self.outputs.now)) l.self.readings.now l.i
