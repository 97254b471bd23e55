-- `job::no_loose` meets its contract.
use Rattle.job.proofs.Marking.{Marking}
use Rattle.job.proofs.no_loose.Given as goal

abbrev pub invariant-loop-q : goal.invariant-loop-q
invariant-loop-q l = Marking l.job l.used l.q
