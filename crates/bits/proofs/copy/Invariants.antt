-- `bits::copy` meets its contract. The loop has copied one byte for each turn.
use Prim.Native.Nat.{◌+◌}
use lib.ListN.{get_or}
use Rattle.bits.proofs.Splice.{Written}
use Rattle.bits.proofs.copy.Given as goal

abbrev pub invariant-loop-i : goal.invariant-loop-i
invariant-loop-i l = Written l.fn.out l.to l.count (λ n. get_or l.rows (l.at + n) 0) l.out l.i
