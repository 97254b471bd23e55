-- `report_text::Writer::put_circuits` meets its contract.
use Prim.Native.Nat.{◌+◌}
use Rattle.report_text.specs.Putting.{numbers_of}
use Rattle.report_text.specs.Text.{circuit_lines}
use Rattle.report_text.proofs.Pieces.{Begun}
use Rattle.report_text.proofs.Writer.put_circuits.Given as goal

abbrev pub invariant-loop-c : goal.invariant-loop-c
invariant-loop-c l = Begun (circuit_lines (numbers_of l.rows)) (l.rows.counts.faults + 1) l.initial.self l.self l.c
