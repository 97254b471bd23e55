-- `writing::pen::Pen::entry` meets its contract.
use Rattle.std.proofs.Common.{◌++◌}
use Rattle.bits.specs.Bits.{bits_of}
use Rattle.job.specs.Layout.{line_bits}
use Rattle.writing.specs.Writing.{entry_bits}
use Rattle.writing.proofs.PutBits.{puts_then, room_front, room_after}
use Rattle.writing.proofs.pen.Pen.entry.Goals as goal

pub field-requires-clause-room : goal.field-requires-clause-room
unfolding entry_bits
field-requires-clause-room c = room_front (bits_of c.args.kind_bits c.args.kind) (bits_of line_bits c.args.a ++ bits_of line_bits c.args.b) c.requires.room

pub field-requires-2-clause-room : goal.field-requires-2-clause-room
unfolding entry_bits line_bits
field-requires-2-clause-room c =
    let a = bits_of line_bits c.args.a in
    let b = bits_of line_bits c.args.b in
    room_front a b (room_after (a ++ b) c.requires.room c.field.ensures)

pub field-requires-2-clause-value_fits : goal.field-requires-2-clause-value_fits
unfolding line_bits
field-requires-2-clause-value_fits c = c.requires.entry_fits.a_fits

pub field-requires-3-clause-room : goal.field-requires-3-clause-room
unfolding entry_bits line_bits
field-requires-3-clause-room c =
    let a = bits_of line_bits c.args.a in
    let b = bits_of line_bits c.args.b in
    room_after b (room_after (a ++ b) c.requires.room c.field.ensures) c.field-2.ensures

pub field-requires-3-clause-value_fits : goal.field-requires-3-clause-value_fits
unfolding line_bits
field-requires-3-clause-value_fits c = c.requires.entry_fits.b_fits

pub returns : goal.returns
unfolding entry_bits line_bits
returns c = puts_then c.field.ensures (puts_then c.field-2.ensures c.field-3.ensures)
