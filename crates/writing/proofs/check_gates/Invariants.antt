-- `writing::check_gates` meets its contract.
use Rattle.std.proofs.Common.{◌≡◌}
use Rattle.job.specs.Record.{unused_gate}
use Rattle.writing.specs.Checks.{gate_judged, gates_judged}
use Rattle.writing.proofs.Checks.{judged_from}
use Rattle.writing.proofs.check_gates.Given as goal

abbrev pub invariant-loop-q : goal.invariant-loop-q
invariant-loop-q l = gates_judged l.inputs l.gates ≡ judged_from (gate_judged l.inputs) unused_gate l.gates l.q
