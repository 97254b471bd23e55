-- `tables::Listing::put_columns` meets its contract: each turn puts the tables of one circuit behind those before.
use Prim.Native.Nat.{◌*◌}
use lib.ListN.{length}
use Rattle.tables.specs.Work.{rows_at}
use Rattle.tables.proofs.Blocks.{Placed}
use Rattle.tables.proofs.Listing.put_columns.Given as goal

abbrev pub invariant-loop-i : goal.invariant-loop-i
invariant-loop-i l = Placed l.initial.out l.to l.batch.count (length l.self.asked.now * l.self.circuits.shape.bytes) (rows_at l.batch l.self.circuits.shape.bytes l.self.asked.now l.rows) l.out l.i
