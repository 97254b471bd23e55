-- `writing::pen::Pen::outputs` meets its contract.
use Rattle.std.proofs.Common.{take}
use Rattle.bits.specs.Bits.{bits_of}
use Rattle.job.specs.Layout.{line_bits}
use Rattle.writing.specs.Writing.{all_bits}
use Rattle.writing.specs.Pen.{Puts}
use Rattle.writing.proofs.pen.Pen.outputs.Given as goal

abbrev pub invariant-loop-line : goal.invariant-loop-line
invariant-loop-line l = Puts l.initial.self (all_bits (bits_of line_bits) (take l.line-index l.outputs)) l.self
