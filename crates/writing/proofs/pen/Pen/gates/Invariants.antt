-- `writing::pen::Pen::gates` meets its contract.
use Rattle.std.proofs.Common.{take}
use Rattle.writing.specs.Writing.{gate_bits, all_bits}
use Rattle.writing.specs.Pen.{Puts}
use Rattle.writing.proofs.pen.Pen.gates.Given as goal

abbrev pub invariant-loop-entry : goal.invariant-loop-entry
invariant-loop-entry l = Puts l.initial.self (all_bits gate_bits (take l.entry-index l.gates)) l.self
