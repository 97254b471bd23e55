-- `writing::pen::Pen::gates` meets its contract.
use Rattle.job.specs.Layout.{gate_kind_bits}
use Rattle.job.specs.Record.{unused_gate}
use Rattle.writing.specs.Writing.{gate_bits}
use Rattle.writing.proofs.Entries.{entry_same, entries_none, entries_room, entries_next}
use Rattle.writing.proofs.pen.Pen.gates.Goals as goal

pub loop-entry-init : goal.loop-entry-init
loop-entry-init c = entries_none gate_bits c.args.gates.now

pub entry-requires-clause-room : goal.entry-requires-clause-room
unfolding gate_kind_bits
entry-requires-clause-room c =
    entries_room gate_bits c.args.gates.now unused_gate c.loop-entry.invariant (entry_same gate_kind_bits c.kind.ensures c.first.ensures c.second.ensures) c.loop-entry-test.true c.requires.room

pub loop-entry-preserved : goal.loop-entry-preserved
unfolding gate_kind_bits
loop-entry-preserved c =
    entries_next gate_bits c.args.gates.now unused_gate c.loop-entry.invariant (entry_same gate_kind_bits c.kind.ensures c.first.ensures c.second.ensures) c.loop-entry-test.true c.entry.ensures
