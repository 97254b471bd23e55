-- `reading::Reader::outputs` meets its contract.
use Rattle.std.proofs.Common.{◌≡◌, ◌-◌}
use Rattle.reading.specs.Reading.{output_line, entries_from}
use Rattle.reading.proofs.Reader.outputs.Given as goal

abbrev pub invariant-loop-o : goal.invariant-loop-o
invariant-loop-o l =
    entries_from (λ k. output_line l.lines) l.count 0 l.fn.outputs l.fn.self
    ≡ entries_from (λ k. output_line l.lines) (l.count - l.o) l.o l.outputs l.self
