-- `tables::Listing::put_faults` meets its contract: each turn puts the tables of one batch, and the good circuit's rows stand.
use Rattle.tables.proofs.Copies.{Putting, taken}
use Rattle.tables.proofs.Listing.put_faults.Given as goal

abbrev pub invariant-loop-i : goal.invariant-loop-i
invariant-loop-i l = Putting l.self.circuits.job.now l.self.asked.now l.initial.out l.initial.rows l.out l.rows (taken l.self.circuits.job.now l.self.circuits.shape l.i)
