-- `tables::Counts::of` meets its contract.
use mathlib.Core.List.{map}
use lib.ListN.{get_or}
use Rattle.bits.proofs.Splice.{Written}
use Rattle.job.specs.declared.FaultEntry.{FaultEntry}
use Rattle.tables.proofs.Counts.of.Given as goal

abbrev pub invariant-loop-i : goal.invariant-loop-i
invariant-loop-i l = Written l.initial.parts 1 63 (λ k. get_or (map (λ (e : FaultEntry). e.part) l.entry-items) k 0) l.parts l.i
