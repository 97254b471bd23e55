-- `spectra::transform::combine` meets its contract. The loop has written one sum for each turn.
use Rattle.spectra.proofs.Combination.{Combining}
use Rattle.spectra.proofs.transform.combine.Given as goal

abbrev pub invariant-loop-i : goal.invariant-loop-i
invariant-loop-i l = Combining l.half l.initial.out l.out l.i
