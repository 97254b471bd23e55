-- `writing::pen::Pen::faults` meets its contract.
use Rattle.std.proofs.Common.{get_or}
use Rattle.bits.specs.Bits.{bits_of}
use Rattle.job.specs.Layout.{fault_kind_bits, part_bits}
use Rattle.job.specs.Record.{unused_fault}
use Rattle.writing.specs.Writing.{fault_bits}
use Rattle.writing.proofs.PutBits.{puts_then, room_front, room_after}
use Rattle.writing.proofs.Entries.{fault_same, entries_none, entries_room, entries_next}
use Rattle.writing.proofs.pen.Pen.faults.Goals as goal

pub loop-entry-init : goal.loop-entry-init
loop-entry-init c = entries_none fault_bits c.args.faults.now

pub entry-requires-clause-room : goal.entry-requires-clause-room
unfolding fault_kind_bits
entry-requires-clause-room c =
    let part = (get_or c.args.faults.now c.loop-entry.entry-index unused_fault).part in
    let same = fault_same part c.kind.ensures c.first.ensures c.second.ensures in
    room_front _ (bits_of part_bits part) (entries_room fault_bits c.args.faults.now unused_fault c.loop-entry.invariant same c.loop-entry-test.true c.requires.room)

pub field-requires-clause-room : goal.field-requires-clause-room
unfolding fault_kind_bits part_bits
field-requires-clause-room c =
    let part = (get_or c.args.faults.now c.loop-entry.entry-index unused_fault).part in
    let same = fault_same part c.kind.ensures c.first.ensures c.second.ensures in
    room_after (bits_of part_bits part) (entries_room fault_bits c.args.faults.now unused_fault c.loop-entry.invariant same c.loop-entry-test.true c.requires.room) c.entry.ensures

pub field-requires-clause-value_fits : goal.field-requires-clause-value_fits
unfolding part_bits
field-requires-clause-value_fits c = (c.requires.faults_fit c.loop-entry.entry-index unused_fault c.loop-entry-test.true).1

pub loop-entry-preserved : goal.loop-entry-preserved
unfolding fault_kind_bits part_bits
loop-entry-preserved c =
    let part = (get_or c.args.faults.now c.loop-entry.entry-index unused_fault).part in
    let same = fault_same part c.kind.ensures c.first.ensures c.second.ensures in
    entries_next fault_bits c.args.faults.now unused_fault c.loop-entry.invariant same c.loop-entry-test.true (puts_then c.entry.ensures c.field.ensures)
