-- `report_text::Writer::put_entries` meets its contract.
use lib.ListN.{length}
use Rattle.report_text.specs.Putting.{list_of}
use Rattle.report_text.proofs.Pieces.{Begun, entries_to}
use Rattle.report_text.proofs.Writer.put_entries.Given as goal

abbrev pub invariant-loop-index : goal.invariant-loop-index
invariant-loop-index l =
    Begun (entries_to (list_of l.rows)) (length l.rows.indices.now) l.initial.self l.self (length l.yielded)
