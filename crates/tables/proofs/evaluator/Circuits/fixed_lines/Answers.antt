-- `tables::evaluator::Circuits::fixed_lines` meets its contract: each turn notes the lines that one circuit fixes.
use Prim.Native.Nat.{◌+◌, ◌-◌}
use native.Mathlib.Omega.{arith}
use mathlib.Core.Path.{refl}
use Rattle.job.specs.Layout.{max_inputs, max_gates, max_faults}
use Rattle.job.specs.Record.{fault_at}
use Rattle.tables.proofs.Columns.{column_index, column_few, low_index, high_index, fixed_good, fixed_none, fixed_next}
use Rattle.tables.proofs.evaluator.Circuits.fixed_lines.Goals as goal

pub returns-then-first-eq0 : goal.returns-then-first-eq0
unfolding max_inputs max_gates
returns-then-first-eq0 c = fixed_good c.args.self.now.job.now c.args.batch c.if-first-eq0.true (c.requires.1 c.if-first-eq0.true)

pub loop-i-init : goal.loop-i-init
unfolding max_inputs max_gates
loop-i-init c = fixed_none c.args.self.now.job.now c.args.batch.first c.args.batch.count

pub overflow_add-entry : goal.overflow_add-entry
unfolding max_faults
overflow_add-entry c = record { fits = omega (arith, column_index c.args.self.now.valid c.if-first-eq0.false c.requires.0 c.loop-i-test.true) }

pub offset_bounds-self-first : goal.offset_bounds-self-first
unfolding max_faults
offset_bounds-self-first c = record { fits = omega (arith, column_index c.args.self.now.valid c.if-first-eq0.false c.requires.0 c.loop-i-test.true) }

pub bounds-self-first : goal.bounds-self-first
unfolding max_faults
bounds-self-first c = column_index c.args.self.now.valid c.if-first-eq0.false c.requires.0 c.loop-i-test.true

pub offset_bounds-fixed-low : goal.offset_bounds-fixed-low
unfolding max_inputs max_gates
offset_bounds-fixed-low c = record { fits = omega (arith, low_index c.args.self.now.valid c.if-first-eq0.false c.requires.0 c.loop-i-test.true c.first-low.ensures) }

pub bounds-fixed-low : goal.bounds-fixed-low
unfolding max_inputs max_gates
bounds-fixed-low c = low_index c.args.self.now.valid c.if-first-eq0.false c.requires.0 c.loop-i-test.true c.first-low.ensures

pub offset_bounds-fixed-low-in-loop-i : goal.offset_bounds-fixed-low-in-loop-i
unfolding max_inputs max_gates
offset_bounds-fixed-low-in-loop-i c = record { fits = omega (arith, low_index c.args.self.now.valid c.if-first-eq0.false c.requires.0 c.loop-i-test.true c.first-low.ensures) }

pub bounds-fixed-low-in-loop-i : goal.bounds-fixed-low-in-loop-i
unfolding max_inputs max_gates
bounds-fixed-low-in-loop-i c = low_index c.args.self.now.valid c.if-first-eq0.false c.requires.0 c.loop-i-test.true c.first-low.ensures

pub offset_bounds-fixed-high : goal.offset_bounds-fixed-high
unfolding max_inputs max_gates
offset_bounds-fixed-high c = record { fits = omega (arith, high_index c.args.self.now.valid c.if-first-eq0.false c.requires.0 c.loop-i-test.true c.second-high.ensures) }

pub bounds-fixed-high : goal.bounds-fixed-high
unfolding max_inputs max_gates
bounds-fixed-high c = high_index c.args.self.now.valid c.if-first-eq0.false c.requires.0 c.loop-i-test.true c.second-high.ensures

pub offset_bounds-fixed-high-in-loop-i : goal.offset_bounds-fixed-high-in-loop-i
unfolding max_inputs max_gates
offset_bounds-fixed-high-in-loop-i c = record { fits = omega (arith, high_index c.args.self.now.valid c.if-first-eq0.false c.requires.0 c.loop-i-test.true c.second-high.ensures) }

pub bounds-fixed-high-in-loop-i : goal.bounds-fixed-high-in-loop-i
unfolding max_inputs max_gates
bounds-fixed-high-in-loop-i c = high_index c.args.self.now.valid c.if-first-eq0.false c.requires.0 c.loop-i-test.true c.second-high.ensures

pub loop-i-preserved : goal.loop-i-preserved
loop-i-preserved c =
    fixed_next c.loop-i.invariant c.if-first-eq0.false (fault_at c.args.self.now.job.now (c.args.batch.first - 1 + c.loop-i.i)) refl c.first-low.ensures c.second-high.ensures
    (low_index c.args.self.now.valid c.if-first-eq0.false c.requires.0 c.loop-i-test.true c.first-low.ensures) (high_index c.args.self.now.valid c.if-first-eq0.false c.requires.0 c.loop-i-test.true c.second-high.ensures)
    c.loop-i-test.true (column_few c.args.self.now.valid c.if-first-eq0.false c.requires.0 c.loop-i-test.true) c.joined.ensures c.joined-in-loop-i.ensures
