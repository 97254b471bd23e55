-- `writing::pen::Pen::outputs` meets its contract.
use Rattle.std.proofs.Common.{refl}
use Rattle.bits.specs.Bits.{bits_of}
use Rattle.job.specs.Layout.{line_bits}
use Rattle.writing.proofs.Entries.{entries_none, entries_room, entries_next}
use Rattle.writing.proofs.pen.Pen.outputs.Goals as goal

pub loop-line-init : goal.loop-line-init
loop-line-init c = entries_none (bits_of line_bits) c.args.outputs.now

pub field-requires-clause-room : goal.field-requires-clause-room
unfolding line_bits
field-requires-clause-room c = entries_room (bits_of line_bits) c.args.outputs.now 0 c.loop-line.invariant refl c.loop-line-test.true c.requires.room

pub field-requires-clause-value_fits : goal.field-requires-clause-value_fits
unfolding line_bits
field-requires-clause-value_fits c = c.requires.lines_fit c.loop-line.line-index 0 c.loop-line-test.true

pub loop-line-preserved : goal.loop-line-preserved
unfolding line_bits
loop-line-preserved c = entries_next (bits_of line_bits) c.args.outputs.now 0 c.loop-line.invariant refl c.loop-line-test.true c.field.ensures
