-- `tables::Listing::put_column` meets its contract: each turn puts the row of one line behind those of the lines before.
use lib.ListN.{length}
use Rattle.tables.specs.Work.{asked_row}
use Rattle.tables.proofs.Blocks.{Placed}
use Rattle.tables.proofs.Listing.put_column.Given as goal

abbrev pub invariant-loop-p : goal.invariant-loop-p
invariant-loop-p l = Placed l.initial.out l.to (length l.self.asked.now) l.bytes (asked_row l.batch l.bytes l.self.asked.now l.rows l.column) l.out l.p
