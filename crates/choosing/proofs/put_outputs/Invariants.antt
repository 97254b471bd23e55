-- `choosing::put_outputs` meets its contract: an entry a turn.
use Prim.Native.Nat.{◌+◌, ◌*◌}
use lib.ListN.{length}
use Rattle.bits.proofs.Splice.{Written}
use Rattle.choosing.proofs.put_outputs.Given as goal

abbrev pub invariant-loop-o : goal.invariant-loop-o
invariant-loop-o l = Written l.initial.codes 0 (length l.initial.codes) (λ p. p * l.size + l.index) l.codes l.o
