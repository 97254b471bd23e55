-- `writing::pen::Pen::faults` meets its contract.
use Rattle.std.proofs.Common.{take}
use Rattle.writing.specs.Writing.{fault_bits, all_bits}
use Rattle.writing.specs.Pen.{Puts}
use Rattle.writing.proofs.pen.Pen.faults.Given as goal

abbrev pub invariant-loop-entry : goal.invariant-loop-entry
invariant-loop-entry l = Puts l.initial.self (all_bits fault_bits (take l.entry-index l.faults)) l.self
