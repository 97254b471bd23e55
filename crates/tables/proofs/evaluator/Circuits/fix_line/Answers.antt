-- `tables::evaluator::Circuits::fix_line` meets its contract: each turn puts the table of one column.
use native.Mathlib.Omega.{arith}
use Rattle.job.specs.Layout.{max_faults}
use Rattle.tables.proofs.FixedColumns.{made_done, mending_faulty, mending_index, mending_offset, mending_place, mending_below, mending_next}
use Rattle.tables.proofs.Space.{Sound, sound_some, place_small}
use Rattle.tables.proofs.evaluator.Circuits.fix_line.Goals as goal
use Rattle.tables.proofs.evaluator.Circuits.fix_line.Goals.{Start}

sound : (c : Start) → Sound c.args.self.now.job.now c.args.self.now.shape c.args.batch c.args.rows.now
sound c = record { valid = c.args.self.now.valid; shaped = c.args.self.now.shaped; stands = c.requires.0 }

pub block_place-start-requires : goal.block_place-start-requires
block_place-start-requires c = let s = sound (goal.at.block_place-start-requires c).Start in (sound_some s, place_small s c.requires.2 c.well_formed.1.0.0)

pub overflow_sub-entry : goal.overflow_sub-entry
overflow_sub-entry c = omega (arith, mending_faulty (sound (goal.at.overflow_sub-entry c).Start) c.requires.2 c.loop-column.invariant c.in-Some.ensures.steps)

pub overflow_add-entry : goal.overflow_add-entry
unfolding max_faults
overflow_add-entry c = record { fits = omega (arith, mending_index (sound (goal.at.overflow_add-entry c).Start) c.requires.2 c.loop-column.invariant c.in-Some.ensures.steps) }

pub offset_bounds-self-batch : goal.offset_bounds-self-batch
unfolding max_faults
offset_bounds-self-batch c = record { fits = omega (arith, mending_index (sound (goal.at.offset_bounds-self-batch c).Start) c.requires.2 c.loop-column.invariant c.in-Some.ensures.steps) }

pub bounds-self-batch : goal.bounds-self-batch
unfolding max_faults
bounds-self-batch c = mending_index (sound (goal.at.bounds-self-batch c).Start) c.requires.2 c.loop-column.invariant c.in-Some.ensures.steps

pub overflow_mul-to : goal.overflow_mul-to
overflow_mul-to c = mending_offset (sound (goal.at.overflow_mul-to c).Start) c.requires.2 c.loop-column.invariant c.in-Some.ensures.steps c.well_formed.1.0.0

pub overflow_add-to : goal.overflow_add-to
overflow_add-to c = mending_place (sound (goal.at.overflow_add-to c).Start) c.requires.2 c.loop-column.invariant c.in-Some.ensures.steps c.block_place-start.ensures c.well_formed.1.0.0

pub fix_row-requires : goal.fix_row-requires
fix_row-requires c = mending_below (sound (goal.at.fix_row-requires c).Start) c.requires.2 c.loop-column.invariant c.in-Some.ensures.steps c.block_place-start.ensures

pub loop-column-preserved : goal.loop-column-preserved
loop-column-preserved c = mending_next (sound (goal.at.loop-column-preserved c).Start) c.requires.2 c.loop-column.invariant c.in-Some.ensures.steps c.block_place-start.ensures c.fix_row.auto.rows c.fix_row.ensures

pub returns : goal.returns
returns c = made_done c.loop-column.invariant.made c.in-None.ensures.steps
