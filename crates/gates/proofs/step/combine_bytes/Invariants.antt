-- `gates::step::combine_bytes` meets its contract. The loop has written one byte for each turn; what it reads stands before all that it writes.
use Rattle.gates.specs.Polynomial.{combined}
use Rattle.bits.proofs.Splice.{Written}
use Rattle.gates.proofs.step.combine_bytes.Given as goal

abbrev pub invariant-loop-i : goal.invariant-loop-i
invariant-loop-i l = Written l.fn.rows l.to l.count (combined l.polynomial l.x l.y l.fn.rows) l.rows l.i
