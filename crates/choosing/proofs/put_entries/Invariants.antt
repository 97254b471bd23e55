-- `choosing::put_entries` meets its contract: the entries of an index a turn.
use lib.ListN.{length}
use Rattle.tables.proofs.Blocks.{Placed}
use Rattle.choosing.proofs.EntryNumbers.{codes_at}
use Rattle.choosing.proofs.put_entries.Given as goal

abbrev pub invariant-loop-i : goal.invariant-loop-i
invariant-loop-i l = Placed l.initial.codes 0 (length l.indices) l.outputs (codes_at l.size l.outputs l.indices) l.codes l.i
