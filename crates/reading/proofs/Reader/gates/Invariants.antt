-- `reading::Reader::gates` meets its contract.
use Rattle.std.proofs.Common.{◌≡◌, ◌-◌, ◌+◌}
use Rattle.reading.specs.Reading.{gate, entries_from}
use Rattle.reading.proofs.Reader.gates.Given as goal

abbrev pub invariant-loop-q : goal.invariant-loop-q
invariant-loop-q l =
    entries_from (λ k. gate (l.inputs + k)) l.count 0 l.fn.gates l.fn.self
    ≡ entries_from (λ k. gate (l.inputs + k)) (l.count - l.q) l.q l.gates l.self
