-- `spectra::packed_byte` meets its contract. The loop has put one parity for each turn into the byte.
use Prim.Native.Nat.{◌+◌}
use lib.ListN.{length}
use Rattle.bits.specs.Packed.{tabulate}
use Rattle.spectra.specs.Operations.{at}
use Rattle.spectra.specs.Parities.{parity_at}
use Rattle.spectra.proofs.Parities.{Digits}
use Rattle.spectra.proofs.packed_byte.Given as goal

abbrev pub invariant-loop-m : goal.invariant-loop-m
invariant-loop-m l = Digits (λ t. at (tabulate (length l.numbers) (parity_at l.numbers l.k)) (l.first + t)) l.byte l.m
