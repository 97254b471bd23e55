-- `tables::Counts::of` meets its contract.
use Prim.Native.Nat.{ℕ}
use native.Mathlib.Omega.{arith}
use mathlib.Core.Path.{ap}
use mathlib.Core.List.{List}
use Rattle.bits.proofs.Splice.{written_none, written_more}
use Rattle.job.specs.Layout.{max_faults}
use Rattle.tables.proofs.Parts.{part_entry, parts_written}
use Rattle.tables.proofs.Counts.of.Goals as goal

pub loop-i-init : goal.loop-i-init
loop-i-init c = written_none (omega arith)

pub loop-i-preserved : goal.loop-i-preserved
loop-i-preserved c = written_more c.loop-i.invariant _ c.loop-i-test.true (part_entry c.args.job.now.faults c.loop-i.i)

pub returns : goal.returns
unfolding max_faults
returns c =
    ap
    (λ (l : List ℕ). record { inputs = c.args.job.now.inputs; gates = c.args.job.now.gate_count; outputs = c.args.job.now.output_count; faults = c.args.job.now.fault_count; parts = l })
    (parts_written c.args.job.now.faults c.requires c.loop-i.invariant c.loop-i-test.false)
