-- The lists of a record with every entry unused have their fixed lengths (specs/Record.antt).
use mathlib.Core.Path.{◌≡◌}
use lib.ListN.{length, length-replicate}
use Rattle.job.specs.Layout.{max_gates, max_outputs, max_faults}
use Rattle.job.specs.Record.{no_gates, no_outputs, no_faults, unused_gate, unused_fault}

pub length_no_gates : length no_gates ≡ max_gates
unfolding no_gates
length_no_gates = length-replicate max_gates unused_gate

pub length_no_outputs : length no_outputs ≡ max_outputs
unfolding no_outputs
length_no_outputs = length-replicate max_outputs 0

pub length_no_faults : length no_faults ≡ max_faults
unfolding no_faults
length_no_faults = length-replicate max_faults unused_fault
