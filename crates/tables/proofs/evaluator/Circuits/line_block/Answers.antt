-- `tables::evaluator::Circuits::line_block` meets its contract: the block of an input, or of a gate.
use native.Mathlib.Omega.{arith}
use Rattle.job.specs.Layout.{max_gates}
use Rattle.tables.proofs.Batches.{gate_inside, gate_first, gate_second, input_blocked, gate_blocked}
use Rattle.tables.proofs.Space.{Sound, sound_some, sound_inputs, place_small, block_room, block_space}
use Rattle.tables.proofs.evaluator.Circuits.line_block.Goals as goal
use Rattle.tables.proofs.evaluator.Circuits.line_block.Goals.{Start}

sound : (c : Start) → Sound c.args.self.now.job.now c.args.self.now.shape c.args.batch c.args.rows.now
sound c = record { valid = c.args.self.now.valid; shaped = c.args.self.now.shaped; stands = c.requires.0 }

pub block_place-to-requires : goal.block_place-to-requires
block_place-to-requires c = let s = sound (goal.at.block_place-to-requires c).Start in (sound_some s, place_small s c.requires.2 c.well_formed.1.0.0)

pub input_block-requires : goal.input_block-requires
input_block-requires c = let s = sound (goal.at.input_block-requires c).Start in (block_space s c.requires.2 c.block_place-to.ensures, omega (arith, sound_inputs s, c.if-line-inputs.true))

pub offset_bounds-self-line : goal.offset_bounds-self-line
unfolding max_gates
offset_bounds-self-line c = record { fits = omega (arith, gate_inside c.args.self.now.valid c.requires.2 c.if-line-inputs.false) }

pub bounds-self-line : goal.bounds-self-line
unfolding max_gates
bounds-self-line c = gate_inside c.args.self.now.valid c.requires.2 c.if-line-inputs.false

pub gate_block-requires : goal.gate_block-requires
gate_block-requires c = let v = c.args.self.now.valid in (gate_first v c.requires.2 c.if-line-inputs.false, gate_second v c.requires.2 c.if-line-inputs.false, block_room (sound (goal.at.gate_block-requires c).Start) c.requires.2)

pub returns-then-line-inputs : goal.returns-then-line-inputs
returns-then-line-inputs c = input_blocked (sound (goal.at.returns-then-line-inputs c).Start) c.requires.2 c.if-line-inputs.true c.block_place-to.ensures c.input_block.ensures

pub returns-else-line-inputs : goal.returns-else-line-inputs
returns-else-line-inputs c = gate_blocked (sound (goal.at.returns-else-line-inputs c).Start) c.requires.2 c.if-line-inputs.false c.requires.1 c.gate_block.ensures
