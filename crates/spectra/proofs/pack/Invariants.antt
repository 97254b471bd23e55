-- `spectra::pack` meets its contract. The loop has written one byte for each turn.
use Rattle.spectra.proofs.Parities.{Packing}
use Rattle.spectra.proofs.pack.Given as goal

abbrev pub invariant-loop-i : goal.invariant-loop-i
invariant-loop-i l = Packing l.k l.numbers l.initial.table l.table l.i
