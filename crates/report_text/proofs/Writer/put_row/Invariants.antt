-- `report_text::Writer::put_row` meets its contract.
use lib.ListN.{length}
use Rattle.report_text.specs.Putting.{numbers_of}
use Rattle.report_text.proofs.Pieces.{Begun, numbers_to}
use Rattle.report_text.proofs.Writer.put_row.Given as goal

abbrev pub invariant-loop-index : goal.invariant-loop-index
invariant-loop-index l =
    Begun (numbers_to (numbers_of l.rows l.c)) (length l.rows.indices.now) l.initial.self l.self (length l.yielded)
