-- `tables::evaluator::Circuits::work_out` meets its contract: each turn works out the tables of one line.
use Prim.Native.Nat.{◌<◌}
use native.Mathlib.Omega.{arith}
use Rattle.job.specs.Layout.{max_inputs, max_gates}
use Rattle.job.specs.Record.{lines}
use Rattle.tables.proofs.Batches.{made_line}
use Rattle.tables.proofs.Space.{line_index, stands_kept}
use Rattle.tables.proofs.evaluator.Circuits.work_out.Goals as goal
use Rattle.tables.proofs.evaluator.Circuits.work_out.Goals.{In-loop-line}

below : (c : In-loop-line) → c.loop-line.line < lines c.args.self.now.job.now
below c = omega (arith, c.loop-line-test.true, c.lines-line-end.ensures)

pub offset_bounds-fixed-line : goal.offset_bounds-fixed-line
unfolding max_inputs max_gates
offset_bounds-fixed-line c = record { fits = omega (arith, line_index c.args.self.now.valid (below (goal.at.offset_bounds-fixed-line c).In-loop-line)) }

pub bounds-fixed-line : goal.bounds-fixed-line
unfolding max_inputs max_gates
bounds-fixed-line c = line_index c.args.self.now.valid (below (goal.at.bounds-fixed-line c).In-loop-line)

pub fix_line-requires : goal.fix_line-requires
fix_line-requires c =
    let a = c.args.self.now in
    let at = stands_kept c.loop-line.auto.rows c.requires.0 in
    let h = below (goal.at.fix_line-requires c).In-loop-line in
    (stands_kept c.line_block.auto.rows at, made_line (record { valid = a.valid; shaped = a.shaped; stands = at }) h c.loop-line.invariant c.line_block.ensures c.fixed_lines-fixed.ensures, h)
