-- `spectra::transform::leaf` meets its contract: the rows of a byte's halves, added, are its spectrum.
use Rattle.bits.proofs.Splice.{Written}
use Rattle.spectra.specs.Recursion.{sum_at}
use Rattle.spectra.proofs.transform.leaf.Given as goal

abbrev pub invariant-loop-j : goal.invariant-loop-j
invariant-loop-j l = Written l.initial.out 0 8 (sum_at l.upper l.lower) l.out l.j
