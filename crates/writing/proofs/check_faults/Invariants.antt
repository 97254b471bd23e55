-- `writing::check_faults` meets its contract.
use Rattle.std.proofs.Common.{◌≡◌}
use Rattle.job.specs.Record.{unused_fault}
use Rattle.writing.specs.Checks.{entry_judged, faults_judged}
use Rattle.writing.proofs.Checks.{judged_from}
use Rattle.writing.proofs.check_faults.Given as goal

abbrev pub invariant-loop-entry : goal.invariant-loop-entry
invariant-loop-entry l = faults_judged l.inputs l.lines l.faults ≡ judged_from (λ _. entry_judged l.inputs l.lines) unused_fault l.faults l.entry-index
