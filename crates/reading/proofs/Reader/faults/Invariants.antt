-- `reading::Reader::faults` meets its contract.
use Rattle.std.proofs.Common.{◌≡◌, ◌-◌}
use Rattle.reading.specs.Reading.{fault, entries_from}
use Rattle.reading.proofs.Reader.faults.Given as goal

abbrev pub invariant-loop-i : goal.invariant-loop-i
invariant-loop-i l =
    entries_from (λ k. fault l.inputs l.lines) l.count 0 l.fn.faults l.fn.self
    ≡ entries_from (λ k. fault l.inputs l.lines) (l.count - l.i) l.i l.faults l.reader
