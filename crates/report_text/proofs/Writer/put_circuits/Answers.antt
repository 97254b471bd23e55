-- `report_text::Writer::put_circuits` meets its contract.
use Prim.Native.Nat.{◌+◌}
use native.Mathlib.Omega.{arith}
use mathlib.Core.Path.{refl}
use Rattle.report_text.specs.Putting.{numbers_of}
use Rattle.report_text.proofs.Pieces.{begun_none, begun_room, begun_more, lines_grow}
use Rattle.report_text.proofs.Sizes.{faults_digits}
use Rattle.report_text.proofs.Writer.put_circuits.Goals as goal

pub overflow_add-c-end : goal.overflow_add-c-end
overflow_add-c-end c = omega (arith, c.args.rows.now.in_work.faults_few, faults_digits)

pub loop-c-init : goal.loop-c-init
loop-c-init c =
    let rows = c.args.rows.now in begun_none (lines_grow (numbers_of rows) (rows.counts.faults + 1)) c.args.self.now c.requires

pub put_circuit-requires : goal.put_circuit-requires
put_circuit-requires c =
    let rows = c.args.rows.now in
    (c.loop-c-test.true, begun_room (lines_grow (numbers_of rows) (rows.counts.faults + 1)) c.loop-c.invariant c.loop-c-test.true refl)

pub loop-c-preserved : goal.loop-c-preserved
loop-c-preserved c =
    let rows = c.args.rows.now in
    begun_more (lines_grow (numbers_of rows) (rows.counts.faults + 1)) c.loop-c.invariant refl c.loop-c-test.true refl c.put_circuit.ensures
