-- `gates::alternate_bytes` meets its contract. The loop has written one byte for each turn.
use Rattle.std.proofs.Common.{◌≡◌, ℕ, ◌<◌, get_or}
use Rattle.gates.specs.Polynomial.{alternating}
use Rattle.gates.proofs.alternate_bytes.Given as goal

abbrev pub invariant-loop-i : goal.invariant-loop-i
invariant-loop-i l = (k : ℕ) → k < l.i → get_or l.bytes k 0 ≡ alternating l.bit k
