-- `choosing::put_indices` meets its contract.
use Rattle.choosing.proofs.Order.{Placing}
use Rattle.choosing.proofs.put_indices.Given as goal

abbrev pub invariant-loop-e : goal.invariant-loop-e
invariant-loop-e l = Placing l.size l.e l.next l.indices
